use Rattle.std.proofs.Common.{◌≡◌, take}
use Rattle.gimli_lookup.specs.ProgramPaths.{texts_seen}
use Rattle.gimli_index.specs.inside.Begun.{AreInside, begun_in_units, statements_in}
use Rattle.gimli_index.specs.inside.Table.{AreSources, Keeps}
use Rattle.gimli_index.proofs.statements.statements_of.Given as goal

abbrev pub invariant-loop-unit : goal.invariant-loop-unit
invariant-loop-unit g l =
    let t = texts_seen g.R.Reader.seen l.origin.paths.now in
    let units = l.origin.lookup.now in
    record {
      are : AreSources t units l.origin.limit l.table;
      keeps : Keeps l.initial.table l.table;
      inside : AreInside l.table l.statements.items;
      said : statements_in l.table l.statements.items ≡ begun_in_units t (take l.unit units);
    }
