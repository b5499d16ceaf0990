use Rattle.std.proofs.Common.{◌≡◌, map, take}
use Rattle.std.specs.Prelude.{All}
use Rattle.gimli_lookup.specs.Section.{KeptUnit}
use Rattle.gimli_index.specs.inside.Turns.{IsTurn, rows_of_units, turn_rows}
use Rattle.gimli_index.proofs.turns.all_turns.Given as goal

abbrev pub invariant-loop-unit : goal.invariant-loop-unit
invariant-loop-unit g l = record {
  each : All (IsTurn l.lookup) l.turns.items;
  all : (d : KeptUnit) → map (turn_rows l.lookup d) l.turns.items ≡ rows_of_units (take l.unit l.lookup);
}
