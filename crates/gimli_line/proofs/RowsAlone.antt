-- Runs that give rows alone, and are refused for nothing.
use Rattle.std.specs.Prelude.{◌≡◌, ◌∷◌}
use Rattle.gimli_line.proofs.Common
use Common.{true, false, sym, subst, ◌∙◌, inl, inr, All, Error, LineRow, row, fault, EventWithFiles, with_reset_row}
use Common.{RunState, live_events, events_left, FaultIs, GivesRowsAlone, IsRow}
use Rattle.std.proofs.lemmas.List.Elements.{All-head, All-tail}

-- a fault is no row
no_row : (e : Error) (r : LineRow) → fault e ≡ row r → ⊥
no_row e r same = absurd cc

pub rest_alone : (old new : RunState) (e : EventWithFiles) → new.appends ≡ old.appends
    → events_left old ≡ e ∷ events_left new → GivesRowsAlone old
    → GivesRowsAlone new
rest_alone old new e appends first alone = record {
  complete = appends ∙ alone.complete;
  rows = All-tail IsRow e (events_left new) (subst (All IsRow) first alone.rows);
}

pub never_refused_alone : (old new : RunState) (e : Error) → new.appends ≡ old.appends
    → FaultIs live_events (with_reset_row old) new e → GivesRowsAlone old → ⊥
never_refused_alone old new e appends (inl memory) alone =
    let same : true ≡ false = sym memory.1.appends ∙ appends ∙ alone.complete in absurd cc
never_refused_alone old new e appends (inr comes) alone =
    let first = All-head IsRow _ (events_left new) (subst (All IsRow) comes.0 alone.rows) in no_row e first.0 first.1
