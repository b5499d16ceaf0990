use Rattle.std.proofs.Common.{◌≡◌, drop}
use Rattle.gimli_lookup.specs.Probes.{never_go_below, never_go_down}
use Rattle.gimli_index.specs.inside.Turns.{rows_of_turns}
use Rattle.gimli_index.proofs.turns.are_in_turn.Given as goal

abbrev pub invariant-loop-turn : goal.invariant-loop-turn
invariant-loop-turn l =
    never_go_down (rows_of_turns l.turns) ≡ never_go_below l.end (rows_of_turns (drop l.turn-index l.turns))
