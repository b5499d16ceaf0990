use Rattle.std.proofs.Common.{◌≡◌, take}
use Rattle.gimli_lookup.proofs.StepsInTurn.{AreInTurn}
use Rattle.gimli_lookup.proofs.steps.steps_in_turn.Given as goal

abbrev pub invariant-loop-index : goal.invariant-loop-index
invariant-loop-index l = record {
  so_far : AreInTurn l.first (take l.index l.sequences) l.steps.items l.end;
  at_start : l.index ≡ 0 → l.end ≡ 0;
}
