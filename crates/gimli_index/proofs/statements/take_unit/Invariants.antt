use Rattle.std.proofs.Common.{◌≡◌, ◌++◌, None, Some, take}
use Rattle.std.specs.Prelude.{flat_map, slice_get}
use Rattle.gimli_lookup.specs.Section.{KeptUnit}
use Rattle.gimli_lookup.specs.ProgramPaths.{texts_seen}
use Rattle.gimli_index.specs.inside.Begun.{AreInside, begun, statements_in}
use Rattle.gimli_index.specs.inside.Table.{AreSources, Keeps}
use Rattle.gimli_index.proofs.statements.take_unit.Given as goal

abbrev pub invariant-loop-index : goal.invariant-loop-index
invariant-loop-index g l =
    let t = texts_seen g.R.Reader.seen l.origin.paths.now in
    let units = l.origin.lookup.now in
    record {
      are : AreSources t units l.origin.limit l.table;
      keeps : Keeps l.initial.table l.table;
      inside : AreInside l.table l.statements.items;
      said : (u : KeptUnit) → slice_get units l.unit ≡ Some u
          → statements_in l.table l.statements.items
          ≡ statements_in l.initial.table l.initial.statements.items
          ++ flat_map (begun t u.unit None) (take l.index u.sequences);
    }
