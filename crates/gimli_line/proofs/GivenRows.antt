-- What a row that was the next to be made, and a refusal, mean for what is given.
use Rattle.std.specs.Prelude.{◌≡◌, if◌then◌else◌, ◌∷◌}
use Rattle.gimli_line.proofs.Common
use Common.{Bool, true, false, not, List, [], refl, ap, subst, ◌∙◌, inl, inr, All, Error, LineRow, File, row}
use Common.{EventWithFiles, given_of, RunState, live_made, live_events, made_left, events_left, GivesRowsAlone, IsRow}
use Common.{RowIs, WantsMemory, FaultIs}
use Rattle.gimli_line.proofs.RowsAlone.{rest_alone}

pub none_given : (a : RunState) → made_left a ≡ [] → events_left a ≡ []
none_given a none = ap given_of none

-- ---- a row that was the next to be made

module _ (old new : RunState) (r : LineRow) (files : List File) (next : RowIs live_made old new r files) where
  first_given : (b : Bool) → r.tombstone ≡ b
      → events_left old ≡ (if not b then record { event = row r; files = files } ∷ events_left new else events_left new)
  first_given b is =
      let x : EventWithFiles = record { event = row r; files = files } in
      ap given_of next.0 ∙ ap (λ b. if not b then x ∷ events_left new else events_left new) is

  -- nothing is given where it is under a tombstone
  pub hidden : r.tombstone ≡ true → events_left old ≡ events_left new
  hidden under = first_given _ under

  pub seen : r.tombstone ≡ false → RowIs live_events old new r files
  seen is = (first_given _ is, next.1, next.2)

  pub any_rest_alone : new.appends ≡ old.appends → GivesRowsAlone old → GivesRowsAlone new
  any_rest_alone appends alone = by_flag r.tombstone refl
    where
      by_flag : (b : Bool) → r.tombstone ≡ b → GivesRowsAlone new
      by_flag true under = record {
        complete = appends ∙ alone.complete;
        rows = subst (All IsRow) (hidden under) alone.rows;
      }
      by_flag false is =
          rest_alone old new (record { event = row r; files = files }) appends (first_given false is) alone

-- ---- refusals

memory_given : {a b : RunState} → WantsMemory live_made a b → WantsMemory live_events a b
memory_given m = record {
  point = m.point;
  passed = m.passed;
  kept = ap given_of m.kept;
  definition = m.definition;
  front = m.front;
  rest = m.rest;
  parts = m.parts;
  spelled = m.spelled;
  defines = m.defines;
  appends = m.appends;
  files = m.files;
  none = m.none;
  empty = m.empty;
}

pub fault_given : (a b : RunState) (e : Error) → FaultIs live_made a b e → FaultIs live_events a b e
fault_given a b e (inl m) = inl (m.0, memory_given m.1)
fault_given a b e (inr f) = inr (ap given_of f.0, f.1, f.2)
