-- A step of a source: an instruction that was executed from its bytes does what it does when it is parsed.
use Rattle.std.specs.Prelude.{◌≡◌, ◌≢◌, ◌<◌, if◌then◌else◌}
use Rattle.gimli_write.proofs
use proofs.Common
use Common.{◌∙◌, ℕ, Bool, true, false, List, length, refl, sym, ap, subst, Some, None}
use Common.{Result, Ok, Err, OnOk, IfErr, IfOk, Error, AddressOverflow, SetAddress, DefineFile, Header, Ins}
use Common.{defines_file, files_after, instruction_production, is_refused, reset_row, step_of, Unread}
use Common.{reads_instruction, ConvertError}
use Common.{Read, SourceStep, More, Made, address_operand, SourceRun, state_after, step_made, StepsSource}
use Rattle.gimli_line.specs.declared.run.from_bytes.Executed.{Executed}
use Rattle.gimli_line.specs.declared.run.from_bytes.Executed.TheVariants.{Quiet, Address, Row}
use Rattle.gimli_line.specs.declared.run.row.LineRow.{LineRow}
use Rattle.gimli_line.specs.run.Execution.{IsExecuted, RefusesNext, told_of}
use Rattle.gimli_line.specs.run.InstructionGrammar.{TakesNext}
use Rattle.gimli_line.proofs.Executions.{told_address, told_quiet, told_row}
use Rattle.gimli_write.specs.inside.convert.SourceRun.{source_row}
use proofs.SourceSteps.{
  state,
  IsReady,
  address_state,
  executed_reading,
  executed_refusal,
  executed_shortens,
  is_shorter,
  made_is,
  quiet_state,
  ready_at_refusal,
  row_state,
  spelled_as,
  with_unread,
}
use proofs.TablesAtEnd.{executed_last, executed_stop}
use Rattle.gimli_core.specs.Layout.{Seen}

-- nothing is added to the files
files_kept : {h : Header} (i : Ins) → defines_file i ≡ false → h ≡ record h { files = files_after true i h.files }
files_kept (DefineFile f) none = absurd cc
files_kept i none = refl

no_address : (i : Ins) {told : Executed} → told ≡ told_of i → ((a : ℕ) → told ≢ Address a) → address_operand i ≡ None
no_address (SetAddress a) is other = absurd (other a is)
no_address i is other = refl

-- an instruction that was taken and executed, or refused
module _ {R Offset Endian : Type 0} (seen : R → Seen) (number : Offset → ℕ) (s new : SourceRun) (u : Unread)
    (layout : u.layout ≡ s.unread.layout)
    (i : Ins) (taken : TakesNext s.header s.unread u (Some i))
    (answer : Result (SourceStep R Endian Offset) ConvertError) (header : new.header ≡ s.header)
    (unread : new.unread ≡ u) where
  pub steps_source : defines_file i ≡ false → OnOk answer (is_refused s.header.parameters i s.row ≡ false)
      → OnOk answer (new ≡ state_after i (with_unread s u)) → IfOk answer (λ step. step ≡ step_made (with_unread s u) i)
      → IfErr answer (λ e. (e ≡ Read AddressOverflow) × (is_refused s.header.parameters i s.row ≡ true))
      → StepsSource seen number s new answer
  steps_source file fits step made over =
      let shorter : length new.unread.bytes < length s.unread.bytes =
      subst (λ v. length v.bytes < length s.unread.bytes) (sym unread)
      (is_shorter s.unread.layout s.header s.unread.bytes i _ _ taken.1 taken.2) in
      record {
        reading = executed_reading Endian seen number s u layout i taken.0 taken.1 taken.2 _ _ file fits step made;
        refusal = executed_refusal Endian seen number s u layout i taken.0 taken.1 taken.2 _ over;
        tables = executed_last Endian seen number s u layout i taken.0 taken.1 taken.2 _ _ file fits step made;
        stopped = executed_stop Endian seen number s u layout i taken.0 taken.1 taken.2 _ over;
        shorter = executed_shortens (with_unread s u) s new i _ made shorter;
        header = header;
        layout = cc;
      }

-- k is the header that was lent, r2 the registers after the instruction
module _ (s : SourceRun) (k : Header) (lent : k ≡ s.header) (r2 : LineRow) (u : Unread) where
  module _ (refused : Bool)
      (x : IsExecuted k.parameters ((instruction_production s.unread.layout k).read s.unread.bytes) u.bytes s.row r2
      refused) where
    taken : TakesNext s.header s.unread u (Some x.instruction)
    taken =
        let f = (reads_instruction s.unread.layout k).found s.unread.bytes x.instruction u.bytes x.reading in
        (f.0, f.1, spelled_as _ _ lent refl f.2)

    fits : is_refused s.header.parameters x.instruction s.row ≡ refused
    fits = subst (λ j. is_refused j.parameters x.instruction s.row ≡ refused) lent x.refusal

    steps : r2 ≡ step_of s.header.parameters x.instruction s.row
    steps = subst (λ j. r2 ≡ step_of j.parameters x.instruction s.row) lent x.registers

  module _
      (x : IsExecuted k.parameters ((instruction_production s.unread.layout k).read s.unread.bytes) u.bytes s.row r2
      false) where
    address_step : (a : ℕ) → Address a ≡ told_of x.instruction → r2 ≡ step_of s.header.parameters (SetAddress a) s.row
    address_step a told =
        subst (λ i. r2 ≡ step_of s.header.parameters i s.row) (told_address x.instruction a told) (steps false x)

  pub refused_ready : (e : Error) → RefusesNext k s.unread u s.row r2 e → IsReady s.row → IsReady r2
  refused_ready e refused ready =
      let x = refused.1 in
      ready_at_refusal x.instruction s.row r2 ready s.header.parameters (fits true x) (steps true x)

module _ {R Offset Endian : Type 0} (seen : R → Seen) (number : Offset → ℕ) (s : SourceRun) (k : Header)
    (lent : k ≡ s.header) (r2 : LineRow) (u : Unread)
    (layout : u.layout ≡ s.unread.layout) where
  module _
      (x : IsExecuted k.parameters ((instruction_production s.unread.layout k).read s.unread.bytes) u.bytes s.row r2
      false) where
    pub quiet_steps : Quiet ≡ told_of x.instruction
        → StepsSource {Endian = Endian} seen number s (state s.header r2 s.base s.pending u) (Ok More)
    quiet_steps told =
        let i = x.instruction in
        let address = no_address i told (λ a is. absurd cc) in
        steps_source seen number s (state s.header r2 s.base s.pending u) u layout i (taken s k lent r2 u false x)
        (Ok More) refl refl x.defines (fits s k lent r2 u false x)
        (quiet_state i s.header s.header s.row r2 s.base s.pending u address x.defines (fits s k lent r2 u false x)
        (files_kept i x.defines) (steps s k lent r2 u false x) (told_quiet i told)) (rw (told_quiet i told) refl) tt

    pub address_steps : (a : ℕ) → Address a ≡ told_of x.instruction
        → StepsSource {Endian = Endian} seen number s (state s.header r2 a (Some a) u) (Ok More)
    address_steps a told =
        let taken_is =
        subst (λ (i : Ins). TakesNext s.header s.unread u (Some i)) (told_address x.instruction a told)
        (taken s k lent r2 u false x) in
        steps_source seen number s (state s.header r2 a (Some a) u) u layout (SetAddress a) taken_is (Ok More) refl
        refl refl refl
        (address_state a s.header s.header s.row s.base s.pending u refl (address_step s k lent r2 u x a told)) refl tt

    -- a row was made, and the registers were reset after it
    pub row_steps : IsReady s.row → Row ≡ told_of x.instruction → (j : Header) → j ≡ s.header → {r3 : LineRow}
        → r3 ≡ reset_row j.parameters r2 → (t : SourceRun) (given : SourceStep R Endian Offset)
        → given ≡ (if r2.tombstone then More else Made (source_row (state s.header r3 s.base s.pending u) r2))
        → t ≡ state s.header r3 (if r2.end_sequence then 0 else s.base) None u → StepsSource seen number s t (Ok given)
    row_steps ready told j same reset t given is t_is =
        let i = x.instruction in
        let loud = told_row i told in
        let address = no_address i told (λ a is. absurd cc) in
        let kept = files_kept i x.defines in
        steps_source seen number s t u layout i (taken s k lent r2 u false x) (Ok given) (ap (λ q. q.header) t_is)
        (ap (λ q. q.unread) t_is) x.defines (fits s k lent r2 u false x) (t_is
        ∙ row_state i s.header s.header s.row r2 s.base s.pending u address x.defines (fits s k lent r2 u false x) kept
        (steps s k lent r2 u false x) loud ready same reset refl refl)
        (made_is i s.header s.header s.row r2 s.base s.pending u address x.defines (fits s k lent r2 u false x) kept
        (steps s k lent r2 u false x) is loud refl) tt

  pub refused_steps : (e : Error) → RefusesNext k s.unread u s.row r2 e
      → StepsSource {R = R} {Offset = Offset} {Endian = Endian} seen number s (state s.header r2 s.base s.pending u)
      (Err (Read e))
  refused_steps e refused =
      let x = refused.1 in
      steps_source seen number s (state s.header r2 s.base s.pending u) u layout x.instruction
      (taken s k lent r2 u true x) (Err (Read e)) refl refl x.defines tt tt tt
      (ap Read refused.0, fits s k lent r2 u true x)
