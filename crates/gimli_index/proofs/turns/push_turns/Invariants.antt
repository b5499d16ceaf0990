use Rattle.std.proofs.Common.{◌≡◌, ◌++◌, map, take}
use Rattle.std.specs.Prelude.{slice_index_or, All}
use Rattle.gimli_lookup.specs.Section.{KeptUnit}
use Rattle.gimli_index.specs.inside.Turns.{IsTurn, rows_in, turn_rows}
use Rattle.gimli_index.proofs.turns.push_turns.Given as goal

abbrev pub invariant-loop-index : goal.invariant-loop-index
invariant-loop-index g l = record {
  all : (d : KeptUnit) → map (turn_rows l.lookup d) l.turns.items
      ≡ map (turn_rows l.lookup d) l.initial.turns.items ++ take l.index (rows_in (slice_index_or l.lookup l.unit d));
  each : All (IsTurn l.lookup) l.initial.turns.items → All (IsTurn l.lookup) l.turns.items;
}
