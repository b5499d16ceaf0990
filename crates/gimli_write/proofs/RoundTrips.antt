-- A unit that is written and read again: why it is refused, and where it stands.
use Rattle.std.specs.Prelude.{◌≡◌, ◌≢◌, ◌⊎◌, ◌++◌}
use Rattle.gimli_write.proofs.Common
use Common.{ℕ, Bool, List, length, drop, refl, ap, ◌∙◌, subst, inl, inr, Some, None, Result, Ok}
use Common.{Err, IfErr, UnitEntry, Built, HasFittingAddresses, ConvertError, Read, Write, NoMemory, RoundTrip}
use Common.{RefusesUnit}
use Common.{ToWrite, WasWritten, IsRefusal, slice_layout, Encoding, StringTables, IfOk, AnswersProgram, answers}
use Rattle.gimli_write.specs.RoundTrip.{IsAsBuilt, IsCausedRefusal, IsRoundTrip}
use Rattle.gimli_write.specs.RoundTrip.{IsRoundTripRefusal, to_write}
use Rattle.gimli_core.specs.declared.common.DebugLineOffset.{DebugLineOffset}
use Rattle.gimli_bytes.specs.Hand.{plain}
use Rattle.gimli_build.specs.Cause.{first_cause}
use Rattle.gimli_build.specs.Unit.{unit_bytes}
use Rattle.gimli_build.specs.WrittenTables.{HaveEmptySource}
use Rattle.std.proofs.Math.Seq.{drop-append_seam}
use Rattle.gimli_bytes.specs.Written.{Appends}
use Rattle.gimli_bytes.specs.declared.error.Error.{Error}
use Rattle.gimli_bytes.specs.declared.error.Error.TheVariants.{OutOfMemory}

-- ---- refusals

is_memory : (e : Error) → (e ≡ OutOfMemory) ⊎ (e ≢ OutOfMemory)
is_memory OutOfMemory = inl refl
is_memory e = inr (λ is. absurd cc)

-- a refusal of writing
pub write_refused : (is_big : Bool) (p : Built) (wanted : ToWrite) (unit_entry : UnitEntry) (old new : List ℕ)
    (e : Error) (r : ConvertError)
    → (e ≡ OutOfMemory) ⊎ (wanted.cause ≡ Some e) → (e ≡ OutOfMemory → r ≡ NoMemory) → (e ≢ OutOfMemory → r ≡ Write e)
    → IsRefusal is_big p wanted unit_entry old new r
write_refused is_big p wanted unit_entry old new e r why named other = elim (is_memory e) [
  | inl memory ↦ rw (named memory) tt
  | inr not_memory ↦ rw (other not_memory) (elim why [ inl memory ↦ absurd (not_memory memory) | inr is ↦ is ])
]

-- what was appended is the unit that was wanted
unit_written : (wanted : ToWrite) (old new : List ℕ) → wanted.cause ≡ None → Appends wanted.bytes old new
    → (unit : List ℕ) × WasWritten wanted old new unit
unit_written wanted old new none there = by _ refl there
  where
    by : (r : Result (List ℕ) Error) → wanted.bytes ≡ r → Appends r old new
        → (unit : List ℕ) × WasWritten wanted old new unit
    by (Ok unit) is appended = (unit, record { no_cause = none; bytes = is; appended = appended })
    by (Err e) is appended = absurd appended

-- it stands at the end of the old bytes
unit_stands : (old : List ℕ) {new unit : List ℕ} {n : ℕ} → new ≡ old ++ unit → n ≡ length old → drop n new ≡ unit
unit_stands old {unit = unit} {n = n} appended offset =
    ap (λ xs. drop n xs) appended ∙ ap (λ i. drop i (old ++ unit)) offset ∙ drop-append_seam old unit

-- a refusal of reading the unit that was appended, which is for memory alone where the addresses fit
unit_refused : (is_big : Bool) (p : Built) {wanted : ToWrite} (unit_entry : UnitEntry) {old new unit : List ℕ}
    (e : ConvertError) → WasWritten wanted old new unit
    → RefusesUnit (slice_layout is_big) unit_entry unit e → (HasFittingAddresses p → e ≡ NoMemory)
    → IsRefusal is_big p wanted unit_entry old new e
unit_refused is_big p unit_entry NoMemory written r never = tt
unit_refused is_big p unit_entry {unit = unit} (Read fault) written r never =
    (unit, written, r, λ fits. let memory = never fits in absurd cc)
unit_refused is_big p unit_entry e written r never = absurd r.2

-- the same by the bytes after the offset
pub unit_not_answered : {is_big : Bool} (other : Bool) (p : Built) (wanted : ToWrite) (unit_entry : UnitEntry)
    (old new : List ℕ) (n : ℕ) (r : Result RoundTrip ConvertError)
    → other ≡ is_big → wanted.cause ≡ None → Appends wanted.bytes old new → n ≡ length old
    → IfErr r (RefusesUnit (slice_layout other) unit_entry (drop n new))
    → (HasFittingAddresses p → IfErr r (λ e. e ≡ NoMemory))
    → IfErr r (IsRefusal is_big p wanted unit_entry old new)
unit_not_answered other p wanted unit_entry old new n (Ok answer) order none there offset is never = tt
unit_not_answered other p wanted unit_entry old new n (Err e) order none there offset is never =
    let written = unit_written _ _ _ none there in
    let later = unit_stands old written.1.appended offset in
    let refused =
    subst (λ x. RefusesUnit (slice_layout x) unit_entry written.0 e) order
    (subst (λ xs. RefusesUnit (slice_layout other) unit_entry xs e) later is) in
    unit_refused _ p _ e written.1 refused never

-- a program whose addresses fit is refused for its cause, or for memory
pub refused_for_cause : (is_big : Bool) (encoding : Encoding) (p : Built) (texts : StringTables) (old new : List ℕ)
    (e : ConvertError) → HasFittingAddresses p → IsRoundTripRefusal is_big encoding p texts old new e
    → IsCausedRefusal (first_cause is_big encoding p texts) e
refused_for_cause is_big encoding p texts old new NoMemory fits refused = tt
refused_for_cause is_big encoding p texts old new (Write e) fits refused = refused
refused_for_cause is_big encoding p texts old new (Read fault) fits refused = absurd (refused.3 fits)
refused_for_cause is_big encoding p texts old new e fits refused = absurd refused

-- ---- answers

-- what was read after the offset is what was read of the unit that was appended
pub round_trip_answered : {is_big : Bool} (other : Bool) (encoding : Encoding) (p : Built)
    (texts texts_then : StringTables) (old new : List ℕ) (at : DebugLineOffset ℕ) (r : Result RoundTrip ConvertError)
    → other ≡ is_big → first_cause is_big encoding p texts ≡ None
    → Appends (unit_bytes plain is_big encoding p texts) old new → at.0 ≡ length old
    → HaveEmptySource p texts texts_then
    → IfOk r (λ answer. answer.offset ≡ at) → IfOk r (AnswersProgram other p texts_then (drop at.0 new))
    → IfOk r (λ answer. IsAsBuilt p texts_then (answers answer))
    → IfOk r (IsRoundTrip is_big encoding p texts texts_then old new)
round_trip_answered {is_big} other encoding p texts texts_then old new at (Ok answer) order none there offset tables
    found says built =
    let written = unit_written (to_write is_big encoding p texts) _ _ none there in
    record {
      no_cause = none;
      unit = there;
      offset = ap (λ (o : DebugLineOffset ℕ). o.0) found ∙ offset;
      tables = tables;
      read = (
        written.0,
        written.1.appended,
        subst (λ x. AnswersProgram x p texts_then written.0 answer) order
            (subst (λ xs. AnswersProgram other p texts_then xs answer) (unit_stands old written.1.appended offset)
            says),
      );
      built = built;
    }
round_trip_answered other encoding p texts texts_then old new at (Err e) order none there offset tables found says
    built = tt
