-- Instructions that are executed from their bytes do what they do when they are taken and executed.
use Rattle.std.specs.Prelude.{◌≡◌, ◌<◌, ◌≤◌}
use Rattle.gimli_line.proofs.Common
use Common.{ℕ, zero, suc, arith, Bool, true, false, not, List, refl, sym, ap, ◌∙◌, subst, Ok, ℤ, le-leb, lt-leb, nat_le}
use Common.{OrderAndLimit, Read, choose, done, byte, unsigned, signed, Executed, No, Quiet, Address, Row, LineRow}
use Common.{Special, Copy}
use Common.{AdvanceLine, SetFile, SetColumn, NegateStatement, EndSequence, SetAddress, Header, Parameters, Ins}
use Common.{makes_row, step_of, is_refused, Unread}
use Rattle.std.proofs.Math.Dec.{eqb-suc-zero}
use Rattle.gimli_line.specs
use specs.run.InstructionGrammar.{standard_production, extended_production, instruction_production}
use specs.run.Registers.{advanced_line}
use specs.run.Execution.{told_of, is_executed, IsExecuted, IsExecutedAs, ExecutesNext}

-- ---- the standard opcodes that are executed so, from the bytes after them

module _ (layout : OrderAndLimit) (h : Header) (bytes : List ℕ) (r : LineRow) (opcode : ℕ) where
  pub copies : opcode ≡ 1 → IsExecutedAs h.parameters ((standard_production layout h opcode).read bytes) bytes r r Row
  unfolding standard_production
  copies is =
      rw is (record { instruction = Copy; reading = refl; defines = refl; refusal = refl; registers = refl }, refl)

  pub negates : opcode ≡ 6
      → IsExecutedAs h.parameters ((standard_production layout h opcode).read bytes) bytes r
      (record r { is_stmt = not r.is_stmt })
      Quiet
  unfolding standard_production
  negates is = rw is
      (record { instruction = NegateStatement; reading = refl; defines = refl; refusal = refl; registers = refl }, refl)

module _ (layout : OrderAndLimit) (h : Header) (bytes rest : List ℕ) (r : LineRow) (opcode : ℕ) where
  pub advances_line : opcode ≡ 3 → (advance : ℤ) → (Ok advance, rest) ≡ signed.read bytes
      → IsExecutedAs h.parameters ((standard_production layout h opcode).read bytes) rest r
      (record r { line = advanced_line advance r.line }) Quiet
  unfolding standard_production
  advances_line is advance read = rw is (
    record {
      instruction = AdvanceLine advance;
      reading = rw (← read) refl;
      defines = refl;
      refusal = refl;
      registers = refl;
    },
    refl,
  )

  pub sets_file : opcode ≡ 4 → (file : ℕ) → (Ok file, rest) ≡ unsigned.read bytes
      → IsExecutedAs h.parameters ((standard_production layout h opcode).read bytes) rest r (record r { file = file })
      Quiet
  unfolding standard_production
  sets_file is file read = rw is (
    record {
      instruction = SetFile file;
      reading = rw (← read) refl;
      defines = refl;
      refusal = refl;
      registers = refl;
    },
    refl,
  )

  pub sets_column : opcode ≡ 5 → (column : ℕ) → (Ok column, rest) ≡ unsigned.read bytes
      → IsExecutedAs h.parameters ((standard_production layout h opcode).read bytes) rest r
      (record r { column = column }) Quiet
  unfolding standard_production
  sets_column is column read = rw is (
    record {
      instruction = SetColumn column;
      reading = rw (← read) refl;
      defines = refl;
      refusal = refl;
      registers = refl;
    },
    refl,
  )

-- ---- a program whose first byte was taken

module _ (layout : OrderAndLimit) (h : Header) (bytes rest : List ℕ) where
  -- what is read after a byte that isn't zero, by whether it is one from the opcode base on
  of_base : ℕ → Bool → Read Ins
  of_base o is = (choose is (done (Special (suc o))) (standard_production layout h (suc o))).read rest

  at_tests : (o : ℕ) (none base : Bool) → none ≡ false
      → (choose none (extended_production layout h)
      (choose base (done (Special (suc o))) (standard_production layout h (suc o)))).read rest ≡ of_base o base
  unfolding of_base
  at_tests o false base is = refl
  at_tests o true base is = absurd cc

  pub special_first : (opcode : ℕ) → 0 < opcode → nat_le h.parameters.opcode_base opcode ≡ true
      → (Ok opcode, rest) ≡ byte.read bytes
      → (instruction_production layout h).read bytes ≡ (Ok (Special opcode), rest)
  unfolding of_base
  special_first zero some special read = absurd (omega (arith, some))
  special_first (suc o) some special read = rw (← read) (at_tests o _ _ (eqb-suc-zero o) ∙ ap (of_base o) special)

  pub standard_first : (opcode : ℕ) → 0 < opcode → nat_le h.parameters.opcode_base opcode ≡ false
      → (Ok opcode, rest) ≡ byte.read bytes
      → (instruction_production layout h).read bytes ≡ (standard_production layout h opcode).read rest
  unfolding of_base
  standard_first zero some standard read = absurd (omega (arith, some))
  standard_first (suc o) some standard read = rw (← read) (at_tests o _ _ (eqb-suc-zero o) ∙ ap (of_base o) standard)

  abbrev pub special_executed : (opcode base : ℕ) (k : Parameters) → k ≡ h.parameters → base ≡ h.parameters.opcode_base
      → 0 < opcode → base ≤ opcode
      → (Ok opcode, rest) ≡ byte.read bytes
      → (old new : LineRow) (refused : Bool) → new ≡ step_of k (Special opcode) old
      → is_refused k (Special opcode) old ≡ refused
      → IsExecuted h.parameters ((instruction_production layout h).read bytes) rest old new refused
  special_executed opcode base k same is some le read old new refused step refusal =
      let above : h.parameters.opcode_base ≤ opcode = omega (arith, le, is) in
      record {
        instruction = Special opcode;
        reading = special_first opcode some (le-leb h.parameters.opcode_base opcode above) read;
        defines = refl;
        refusal = subst (λ (p : Parameters). is_refused p (Special opcode) old ≡ refused) same refusal;
        registers = subst (λ (p : Parameters). new ≡ step_of p (Special opcode) old) same step;
      }

  pub standard_executed : (opcode base : ℕ) → base ≡ h.parameters.opcode_base → 0 < opcode → opcode < base
      → (Ok opcode, rest) ≡ byte.read bytes
      → (after : List ℕ) (old new : LineRow) (told : Executed)
      → IsExecutedAs h.parameters ((standard_production layout h opcode).read rest) after old new told
      → IsExecutedAs h.parameters ((instruction_production layout h).read bytes) after old new told
  standard_executed opcode base is some lt read after old new told x =
      let below : nat_le h.parameters.opcode_base opcode
      ≡ false = lt-leb _ _ (omega (arith)) in
      rw (standard_first opcode some below read) x

-- ---- what is told

module _ (h : Header) (old new : Unread) (row after : LineRow) where
  pub executes_it : (told : Executed) → is_executed told ≡ true
      → IsExecutedAs h.parameters ((instruction_production old.layout h).read old.bytes) new.bytes row after told
      → ExecutesNext h old new row after told
  executes_it No is x = absurd cc
  executes_it Quiet is x = x
  executes_it (Address a) is x = x
  executes_it Row is x = x

  pub executes_none : (told : Executed) → is_executed told ≡ false → (told ≡ No → (new ≡ old) × (after ≡ row))
      → ExecutesNext h old new row after told
  executes_none No is same = same refl
  executes_none Quiet is same = absurd cc
  executes_none (Address a) is same = absurd cc
  executes_none Row is same = absurd cc

pub told_row : (i : Ins) → Row ≡ told_of i → makes_row i ≡ true
told_row (Special o) told = refl
told_row Copy told = refl
told_row EndSequence told = refl
told_row (SetAddress a) told = absurd cc
told_row i told = absurd cc

pub told_quiet : (i : Ins) → Quiet ≡ told_of i → makes_row i ≡ false
told_quiet (Special o) told = absurd cc
told_quiet Copy told = absurd cc
told_quiet EndSequence told = absurd cc
told_quiet (SetAddress a) told = absurd cc
told_quiet i told = refl

operand_told : Executed → ℕ
operand_told (Address a) = a
operand_told told = 0

pub told_address : (i : Ins) (a : ℕ) → Address a ≡ told_of i → i ≡ SetAddress a
unfolding operand_told
told_address (Special o) a told = absurd cc
told_address Copy a told = absurd cc
told_address EndSequence a told = absurd cc
told_address (SetAddress b) a told = ap SetAddress (sym (ap operand_told told))
told_address i a told = absurd cc
