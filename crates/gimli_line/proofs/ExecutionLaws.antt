-- What follows of an execution, by what it returned.
use Rattle.std.specs.Prelude.{◌≡◌, ◌⊎◌, if◌then◌else◌}
use Rattle.gimli_line.proofs.Common
use Common.{Bool, true, false, inl, inr, refl, ap, ◌∙◌, Result, Ok, Err, Error, AddressOverflow, OutOfMemory}
use Common.{Header, LineRow, Ins, makes_row, defines_file, header_after, step_of, is_refused}
use Rattle.gimli_line.proofs.Runs.{no_file_at_refusal}
use Rattle.gimli_line.specs.run.Execution.{IsExecution}

module _ (appends : Bool) (i : Ins) (old new : LineRow) (h h2 : Header) where
  -- it was executed, and made a row or not
  pub record IsDone (made : Bool) : Type 0 where
    pub makes : makes_row i ≡ made
    pub fits : is_refused h.parameters i old ≡ false
    pub step : new ≡ step_of h.parameters i old
    pub files : h2 ≡ header_after appends i h

  -- the address would have passed the greatest one
  pub record IsOverflow : Type 0 where
    pub over : is_refused h.parameters i old ≡ true
    pub step : new ≡ step_of h.parameters i old
    pub kept : h2 ≡ h

  -- memory was missing to add the file that it defines
  pub record LacksMemory : Type 0 where
    pub adds : appends ≡ true
    pub defines : defines_file i ≡ true
    pub same : new ≡ old
    pub kept : h2 ≡ h

  done_is : (made refused : Bool) → is_refused h.parameters i old ≡ refused
      → (r : Result Bool Error) → r ≡ Ok made → r ≡ (if refused then Err AddressOverflow else Ok (makes_row i))
      → (is_refused h.parameters i old ≡ false) × (makes_row i ≡ made)
  done_is made true is r ok same = absurd cc
  done_is made false is r ok same = (is, cc)

  pub done_of : (made : Bool) → IsExecution appends i old h (Ok made, new, h2) → IsDone made
  done_of made (inl same) =
      let d = done_is made (is_refused h.parameters i old) refl (Ok made) refl (ap (λ t. t.0) same) in record {
        makes = d.1;
        fits = d.0;
        step = ap (λ t. t.1) same;
        files = ap (λ t. t.2) same;
      }
  done_of made (inr lacks) =
      let result = ap (λ t. t.0) lacks.2 in
      absurd cc

  over_is : (e : Error) (refused : Bool) → is_refused h.parameters i old ≡ refused
      → (r : Result Bool Error) → r ≡ Err e → r ≡ (if refused then Err AddressOverflow else Ok (makes_row i))
      → (e ≡ AddressOverflow) × (is_refused h.parameters i old ≡ true)
  over_is e true is r err same = (cc, is)
  over_is e false is r err same = absurd cc

  pub refused_of : (e : Error) → IsExecution appends i old h (Err e, new, h2)
      → ((e ≡ AddressOverflow) × IsOverflow) ⊎ ((e ≡ OutOfMemory) × LacksMemory)
  refused_of e (inl same) =
      let o = over_is e (is_refused h.parameters i old) refl (Err e) refl (ap (λ t. t.0) same) in
      inl (
        o.0,
        record {
          over = o.1;
          step = ap (λ t. t.1) same;
          kept = ap (λ t. t.2) same
              ∙ ap (λ files. record h { files = files }) (no_file_at_refusal appends h.parameters i old h.files o.1);
        },
      )
  refused_of e (inr lacks) =
      let result = ap (λ t. t.0) lacks.2 in
      inr (
        cc,
        record { adds = lacks.0; defines = lacks.1; same = ap (λ t. t.1) lacks.2; kept = ap (λ t. t.2) lacks.2 },
      )

  pub overflow_of : (e : Error) → defines_file i ≡ false → IsExecution appends i old h (Err e, new, h2)
      → (e ≡ AddressOverflow) × IsOverflow
  overflow_of e file x = elim (refused_of e x) [
    | inl over ↦ over
    | inr lacks ↦ absurd (let defines = lacks.1.defines in cc)
  ]
