use Rattle.std.proofs.Common.{◌≡◌, ◌++◌, ℕ, true, List, map, take}
use Rattle.gimli_lookup.specs.Probes.{never_go_below}
use Rattle.gimli_lookup.specs.Section.{KeptUnit}
use Rattle.gimli_lookup.specs.Section.{rows_of}
use Rattle.gimli_lookup.specs.ProgramPaths.{texts_seen}
use Rattle.gimli_index.specs.Meaning.{Start}
use Rattle.gimli_index.specs.inside.Table.{AreSources}
use Rattle.gimli_index.specs.inside.Turns.{Walked, end_after, row_start, turn_rows}
use Rattle.gimli_index.proofs.made.take_rows.Given as goal

abbrev pub invariant-loop-index : goal.invariant-loop-index
invariant-loop-index g l =
    let t = texts_seen g.R.Reader.seen l.origin.paths.now in
    let units = l.origin.lookup.now in
    let limit = l.origin.limit in
    let rows = rows_of l.turn.rows in
    record {
      are : AreSources t units limit l.table;
      walked : (d : KeptUnit) (said : List Start) (end : ℕ)
          → Walked t units limit l.initial.table l.initial.entries.items said end
          → never_go_below end rows ≡ true
          → Walked t units limit l.table l.entries.items
          (said ++ map (row_start t (turn_rows units d l.turn).unit) (take l.index rows))
          (end_after end (take l.index rows));
    }
