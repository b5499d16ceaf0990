use Rattle.std.proofs.Common.{◌≡◌, ◌++◌, None, Some, drop}
use Rattle.std.specs.Prelude.{slice_get}
use Rattle.gimli_lookup.specs.Section.{KeptUnit}
use Rattle.gimli_lookup.specs.Section.{rows_of}
use Rattle.gimli_lookup.specs.ProgramPaths.{texts_seen}
use Rattle.gimli_index.specs.inside.Begun.{AreInside, IsGiven, begun, given_in, statements_in}
use Rattle.gimli_index.specs.inside.Table.{AreSources, Keeps}
use Rattle.gimli_index.proofs.statements.take_rows.Given as goal

abbrev pub invariant-loop-index : goal.invariant-loop-index
invariant-loop-index g l =
    let t = texts_seen g.R.Reader.seen l.origin.paths.now in
    let units = l.origin.lookup.now in
    record {
      are : AreSources t units l.origin.limit l.table;
      keeps : Keeps l.initial.table l.table;
      given : IsGiven l.table l.given;
      inside : AreInside l.table l.statements.items;
      said : (u : KeptUnit) → slice_get units l.unit ≡ Some u
          → statements_in l.table l.statements.items
          ++ begun t u.unit (given_in l.table l.given) (drop l.index (rows_of l.rows))
          ≡ statements_in l.initial.table l.initial.statements.items ++ begun t u.unit None (rows_of l.rows);
    }
