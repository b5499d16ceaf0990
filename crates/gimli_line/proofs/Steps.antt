-- A step of a run: what an instruction does to its state, and steps after one another.
use Rattle.std.specs.Prelude.{◌≡◌, ◌≢◌, if◌then◌else◌}
use Rattle.gimli_line.proofs
use proofs.Common
use Common.{◌∙◌, Bool, true, false, [], ap, arith, inl, inr, length, refl, sym, subst, Result, Some, Ok, Err}
use Common.{length-append, Error, AddressOverflow, OutOfMemory, Executed, No, Quiet, Address, Row, DefineFile, LineRow}
use Common.{Header, without_files, KeepsSource, given_row, ReadsOn, StepIs, StepsTo, Ins, makes_row, defines_file}
use Common.{header_after, instruction_production, step_of, is_refused, with_reset_row, RunState, live_made, FaultComes}
use Common.{KeepsRun, WantsMemory, Unread}
use Rattle.gimli_line.specs
use specs.declared.run.rows.RowStep.{RowStep}
use specs.declared.run.rows.RowStep.TheVariants.{Done, Made, More}
use specs.run.Execution.{ExecutesNext, IsExecuted, RefusesNext}
use specs.run.InstructionGrammar.{TakesNext, EndsByFault}
use proofs.Executions.{told_row, told_quiet, told_address}
use proofs.InstructionLaws.{reads_instruction}
use proofs.Sources.{fits_less, keeps_both}
use proofs.Runs.{state, none_made, after_fault, after_quiet, after_made, after_overflow, is_shorter}
use proofs.Runs.{passes_both, passes_quiet, passes_made, wants, refused_after}

-- ---- the state of a run whose program has a header

-- the program of a run has this header, and adds files or doesn't
abbrev pub Has : Bool → Header → RunState → Type 0
Has a h s = (s.appends ≡ a) × (s.fixed ≡ without_files h) × (s.files ≡ h.files)

-- what holds of two runs by their headers holds of them
by_headers : (a : Bool) (h h2 : Header) (old new : RunState) → Has a h old → Has a h2 new
    → (P : RunState → RunState → Type 0)
    → P (state a h old.source old.row old.unread) (state a h2 new.source new.row new.unread) → P old new
by_headers a h h2 old new from to P p =
    grind (arith)

-- ---- what is kept

-- the header is still that of the run, but for its files; what is added fits the order of the instructions to come
pub keeps_run : (a : Bool) (h h2 : Header) (old new : RunState) → Has a h old → Has a h2 new
    → without_files h2 ≡ without_files h
    → new.unread.layout ≡ old.unread.layout → (Fits : Bool → Type 0)
    → KeepsSource (λ order. a ≡ true → Fits order) old.source new.source
    → Fits old.unread.layout.is_big → KeepsRun old new
keeps_run a h h2 old new from to fixed unread Fits source fits = record {
  fixed = grind arith;
  appends = to.0 ∙ sym from.0;
  unread = unread;
  source = fits_less _ _ _ _ (λ order adds appends. subst Fits (adds (from.0 ∙ appends)) fits) source;
}

-- ---- steps after one another

module _ (x y : RunState) where
  pub reads_none : x ≡ y → ReadsOn x y
  reads_none same = grind (arith)

  pub reads_more : StepsTo x y (Ok More) → ReadsOn x y
  reads_more s = grind arith

  module _ (z : RunState) (r : ReadsOn x y) where
    pub reads_both : ReadsOn y z → ReadsOn x z
    reads_both q = record {
      made = r.made ∙ q.made;
      passed = passes_both x y z [] [] r.passed q.passed;
      keeps = keeps_both x y z r.keeps q.keeps;
    }

    pub step_after : (s : RowStep) → StepIs y z s → StepIs x z s
    step_after Done d = (r.made ∙ d.0, d.1, passes_both x y z [] [] r.passed d.2)
    step_after Made m = (r.made ∙ m.0, passes_both x y (with_reset_row z) [] (given_row z.row) r.passed m.1)
    step_after More m = (
      r.made ∙ m.0,
      omega (arith, m.1, length-append r.passed.front y.unread.bytes, ap length r.passed.parts),
      passes_both x y z [] [] r.passed m.2,
    )

    pub steps_after : (answer : Result RowStep Error) → StepsTo y z answer → StepsTo x z answer
    steps_after (Ok s) q = record { ok = step_after s q.ok; err = tt; keeps = keeps_both x y z r.keeps q.keeps }
    steps_after (Err e) q = record {
      ok = tt;
      err = refused_after live_made x y z e r.made r.passed q.err;
      keeps = keeps_both x y z r.keeps q.keeps;
    }

-- ---- where no instruction was taken

pub step_done : (x y : RunState) → y ≡ x → x.unread.bytes ≡ [] → StepsTo x y (Ok Done)
step_done x y same empty = grind (arith, none_made)

-- ---- one instruction

-- nothing is added to the files
files_kept : (a : Bool) (h : Header) (i : Ins) → defines_file i ≡ false → h ≡ header_after a i h
files_kept a h (DefineFile f) none = absurd cc
files_kept a h i none = refl

-- h is the header of the run, k the one that was lent
module _ (a : Bool) (h k : Header) (same : k ≡ h) (old new : RunState) (from : Has a h old) where
  pub step_faults : (e : Error) → Has a h new → EndsByFault k old.unread new.unread e → KeepsRun old new
      → StepsTo old new (Err e)
  step_faults e to fault keeps = record {
    ok = tt;
    err =
        inr (by_headers a h h old new from to (λ x y. FaultComes live_made x y e)
        (after_fault a h k same old.source new.source old.row old.unread new.unread e fault.0 fault.1 fault.2
        new.row));
    keeps = keeps;
  }

  -- memory is missing for the file that it defines
  pub step_wants : (i : Ins) (rest : Unread) → TakesNext k old.unread rest (Some i) → defines_file i ≡ true
      → (h2 : Header) → h2 ≡ h → a ≡ true
      → new.unread.bytes ≡ []
      → Has a h2 new → KeepsRun old new → StepsTo old new (Err OutOfMemory)
  step_wants i rest taken defines h2 kept appends empty to keeps = record {
    ok = tt;
    err =
        inl (
          refl,
          by_headers a h h2 old new from to (WantsMemory live_made)
              (wants a h k same old.source new.source old.row old.unread i taken.0 rest.bytes taken.1 taken.2
              defines h2 new.row new.unread empty kept appends),
        );
    keeps = keeps;
  }

  -- h2 is the header after it
  module _ (i : Ins) (taken : TakesNext k old.unread new.unread (Some i))
      (layout : new.unread.layout ≡ old.unread.layout) (h2 : Header) where
    pub step_goes : h2 ≡ header_after a i h → is_refused h.parameters i old.row ≡ false
        → (made : Bool) → makes_row i ≡ made → new.row ≡ step_of h.parameters i old.row
        → Has a h2 new → KeepsRun old new → StepsTo old new (Ok (if made then Made else More))
    step_goes after fits false made row to keeps = record {
      ok = by_headers a h h2 old new from to (λ x y. StepIs x y More) (
        after_quiet a h k same old.source new.source old.row old.unread new.unread layout i taken.0 taken.1
            taken.2 h2 new.row after fits made row,
        is_shorter a h k same old.source new.source old.row old.unread new.unread layout i taken.0 taken.1
            taken.2,
        passes_quiet a h k same old.source new.source old.row old.unread new.unread layout i taken.0 taken.1
            taken.2 h2 new.row after fits made row,
      );
      err = tt;
      keeps = keeps;
    }
    step_goes after fits true made row to keeps = record {
      ok = by_headers a h h2 old new from to (λ x y. StepIs x y Made) (
        after_made a h k same old.source new.source old.row old.unread new.unread layout i taken.0 taken.1
            taken.2 h2 new.row after fits made row,
        passes_made a h k same old.source new.source old.row old.unread new.unread layout i taken.0 taken.1
            taken.2 h2 new.row after fits made row,
      );
      err = tt;
      keeps = keeps;
    }

    pub step_overflows : h2 ≡ h → is_refused h.parameters i old.row ≡ true → new.row ≡ step_of h.parameters i old.row
        → Has a h2 new → KeepsRun old new
        → StepsTo old new (Err AddressOverflow)
    step_overflows kept over row to keeps = record {
      ok = tt;
      err =
          inr (by_headers a h h2 old new from to (λ x y. FaultComes live_made x y AddressOverflow)
          (after_overflow a h k same old.source new.source old.row old.unread new.unread layout i taken.0
          taken.1 taken.2 h2 new.row kept over row));
      keeps = keeps;
    }

-- ---- one that was executed from its bytes

abbrev pub with_rest : RunState → LineRow → Unread → RunState
with_rest old row unread = record old { row = row; unread = unread }

pub keeps_rest : (old : RunState) (row : LineRow) (unread : Unread) → unread.layout ≡ old.unread.layout
    → KeepsRun old (with_rest old row unread)
keeps_rest old row unread layout = grind (arith)

-- none was
pub none_executed : (k : Header) (old : RunState) (row : LineRow) (unread : Unread)
    → ExecutesNext k old.unread unread old.row row No
    → ReadsOn old (with_rest old row unread)
none_executed k old row unread same = grind (arith)

module _ (a : Bool) (h k : Header) (same : k ≡ h) (old : RunState) (row : LineRow) (unread : Unread)
    (from : Has a h old)
    (layout : unread.layout ≡ old.unread.layout) where
  executed_step : (x : IsExecuted k.parameters ((instruction_production old.unread.layout k).read old.unread.bytes)
      unread.bytes old.row row
      false)
      → (made : Bool) → makes_row x.instruction ≡ made
      → StepsTo old (with_rest old row unread) (Ok (if made then Made else More))
  executed_step x made makes =
      step_goes a h k same old (with_rest old row unread) from x.instruction
      ((reads_instruction old.unread.layout k).found old.unread.bytes x.instruction unread.bytes x.reading) layout h
      (files_kept a h x.instruction x.defines)
      (subst (λ (j : Header). is_refused j.parameters x.instruction old.row ≡ false) same x.refusal) made makes
      (subst (λ (j : Header). row ≡ step_of j.parameters x.instruction old.row) same x.registers) from
      (keeps_rest old row unread layout)

  pub executed_more : (told : Executed) → ExecutesNext k old.unread unread old.row row told → told ≢ No → told ≢ Row
      → StepsTo old (with_rest old row unread) (Ok More)
  executed_more No x some quiet = absurd (some refl)
  executed_more Row x some quiet = absurd (quiet refl)
  executed_more Quiet x some quiet = executed_step x.0 false (told_quiet x.0.instruction x.1)
  executed_more (Address b) x some quiet =
      executed_step x.0 false (ap makes_row (told_address x.0.instruction b x.1))

  pub executed_row : ExecutesNext k old.unread unread old.row row Row → StepsTo old (with_rest old row unread) (Ok Made)
  executed_row x = executed_step x.0 true (told_row x.0.instruction x.1)

  pub executed_refused : (e : Error) → RefusesNext k old.unread unread old.row row e
      → StepsTo old (with_rest old row unread) (Err e)
  executed_refused e refused =
      let x = refused.1 in
      rw refused.0 (step_overflows a h k same old (with_rest old row unread) from x.instruction
      ((reads_instruction old.unread.layout k).found old.unread.bytes x.instruction unread.bytes x.reading) layout h
      refl (subst (λ (j : Header). is_refused j.parameters x.instruction old.row ≡ true) same x.refusal)
      (subst (λ (j : Header). row ≡ step_of j.parameters x.instruction old.row) same x.registers) from
      (keeps_rest old row unread layout))
