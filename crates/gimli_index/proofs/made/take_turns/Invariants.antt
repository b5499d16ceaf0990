use Rattle.std.proofs.Common.{◌≡◌, true, [], map, take}
use Rattle.std.specs.Prelude.{flat_map}
use Rattle.gimli_lookup.specs.Probes.{never_go_down}
use Rattle.gimli_lookup.specs.Section.{KeptUnit}
use Rattle.gimli_lookup.specs.ProgramPaths.{texts_seen}
use Rattle.gimli_index.specs.inside.Table.{AreSources}
use Rattle.gimli_index.specs.inside.Turns.{Walked, end_after, rows_of_turns, starts_of_turn, turn_rows}
use Rattle.gimli_index.proofs.made.take_turns.Given as goal

abbrev pub invariant-loop-turn : goal.invariant-loop-turn
invariant-loop-turn g l =
    let t = texts_seen g.R.Reader.seen l.origin.paths.now in
    let units = l.origin.lookup.now in
    let limit = l.origin.limit in
    record {
      are : AreSources t units limit l.table;
      walked : (d : KeptUnit) → Walked t units limit l.initial.table l.initial.entries.items [] 0
          → never_go_down (rows_of_turns l.turns) ≡ true
          → Walked t units limit l.table l.entries.items
          (flat_map (starts_of_turn t) (map (turn_rows units d) (take l.turn-index l.turns)))
          (end_after 0 (rows_of_turns (take l.turn-index l.turns)));
    }
