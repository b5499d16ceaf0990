-- Advances, definitions of files and extended instructions, executed from their bytes.
use Rattle.std.specs.Prelude.{◌≡◌, ◌<◌}
use Rattle.gimli_line.proofs.Common
use Common.{ℕ, arith, Bool, false, true, List, Some, refl, ap, subst, ◌∙◌, Ok, lt-leb, nat_le, OrderAndLimit, ◌>>=◌}
use Common.{byte, number, some_bytes, text, unsigned, below_limit, within, Quiet, Address, Row, LineRow, AdvancePc}
use Common.{ConstAddPc, DefineFile, EndSequence, SetAddress, SetDiscriminator, File, Header, file_production}
use Common.{Parameters}
use Common.{lookup, nat_eq, operand_production, Ins, Option, None, Production, ◌>>>◌, done, UnknownExtended}
use Common.{defines_file}
use Common.{step_of, is_refused}
use Rattle.gimli_line.specs
use specs.run.InstructionGrammar.{Operand, file, extended_opcodes}
use specs.run.InstructionGrammar.{standard_production, extended_production, extended_operands, instruction_production}
use specs.run.Execution.{IsExecuted, IsExecutedAs}
use Rattle.gimli_line.proofs.Executions.{standard_first}

-- ---- opcodes below the opcode base

module _ (layout : OrderAndLimit) (h : Header) (bytes rest : List ℕ) where
  abbrev pub below_executed : (opcode base : ℕ) (k : Parameters) → k ≡ h.parameters → base ≡ h.parameters.opcode_base
      → 0 < opcode → opcode < base
      → (Ok opcode, rest) ≡ byte.read bytes
      → (i : Ins) (after : List ℕ) → (standard_production layout h opcode).read rest ≡ (Ok i, after)
      → defines_file i ≡ false
      → (old new : LineRow) (refused : Bool) → new ≡ step_of k i old → is_refused k i old ≡ refused
      → IsExecuted h.parameters ((instruction_production layout h).read bytes) after old new refused
  below_executed opcode base k same is some lt read i after found defines old new refused step refusal =
      let below : nat_le h.parameters.opcode_base opcode
      ≡ false = lt-leb _ _ (omega (arith, lt, is)) in
      record {
        instruction = i;
        reading = standard_first _ h _ _ _ some below read ∙ found;
        defines = defines;
        refusal = subst (λ p. is_refused p i old ≡ refused) same refusal;
        registers = subst (λ p. new ≡ step_of p i old) same step;
      }

module _ (layout : OrderAndLimit) (h : Header) (bytes : List ℕ) (opcode : ℕ) where
  pub const_add_read : opcode ≡ 8 → (standard_production layout h opcode).read bytes ≡ (Ok ConstAddPc, bytes)
  unfolding standard_production
  const_add_read is = ap (λ o. (standard_production layout h o).read bytes) is

  pub advance_read : opcode ≡ 2 → (n : ℕ) (rest : List ℕ) → (Ok n, rest) ≡ unsigned.read bytes
      → (standard_production layout h opcode).read bytes ≡ (Ok (AdvancePc n), rest)
  unfolding standard_production
  advance_read is n rest read = ap (λ o. (standard_production layout h o).read bytes) is ∙ rw (← read) refl

-- ---- extended opcodes

module _ (layout : OrderAndLimit) (h : Header) (bytes after inside rest : List ℕ) (size : ℕ) where
  -- the length was taken, and then that many bytes
  pub opened : (Ok size, after) ≡ (below_limit layout unsigned).read bytes
      → (Ok inside, rest) ≡ (some_bytes size).read after
      → (extended_production layout h).read bytes
      ≡ ((within inside byte).read rest >>= λ opened left. (extended_operands layout h opened.0 opened.1).read left)
  unfolding extended_production
  opened length part = rw (← length, ← part) refl

-- a zero byte was in front of it
pub extended_first : (layout : OrderAndLimit) (h : Header) (whole bytes : List ℕ) (opcode : ℕ) → opcode ≡ 0
    → (Ok opcode, bytes) ≡ byte.read whole
    → (instruction_production layout h).read whole ≡ (extended_production layout h).read bytes
extended_first layout h whole bytes opcode is read = rw (← read, is) refl

-- files are defined up to version 4
file_opcode : (version : ℕ) → nat_le version 4 ≡ true
    → lookup (nat_eq 3) (extended_opcodes version) ≡ Some (file DefineFile)
file_opcode version old = rw old refl

module _ (layout : OrderAndLimit) (h : Header) (inside operands rest : List ℕ) (opcode : ℕ)
    (read : (Ok opcode, operands) ≡ byte.read inside) where
  pub defines : opcode ≡ 3 → nat_le h.parameters.encoding.version 4 ≡ true → (path left : List ℕ)
      → (Ok path, left) ≡ text.read operands
      → (f : File) (after : List ℕ) → (Ok f, after) ≡ (file_production path).read left
      → ((within inside byte).read rest >>= λ opened left. (extended_operands layout h opened.0 opened.1).read left)
      ≡ (Ok (DefineFile f), rest)
  unfolding extended_operands
  defines is old path left named f after found = rw (← read, is)
      (ap (λ (o : Option Operand). (at_operand o).read rest) (file_opcode _ old) ∙ rw (← named) (rw (← found) refl))
    where
      at_operand : Option Operand → Production Ins
      at_operand (Some operand) = within operands (operand_production layout h operand) >>> (λ read. done read.0)
      at_operand None = done (UnknownExtended (record { 0 = 3 }) operands)

module _ (layout : OrderAndLimit) (h : Header) (inside operands rest : List ℕ) (opcode : ℕ)
    (read : (Ok opcode, operands) ≡ byte.read inside) (r : LineRow) where
  pub ends : opcode ≡ 1
      → IsExecutedAs h.parameters
      ((within inside byte).read rest >>= λ opened left. (extended_operands layout h opened.0 opened.1).read left) rest
      r
      (record r { end_sequence = true }) Row
  unfolding extended_operands
  ends is = rw (← read, is)
      (record { instruction = EndSequence; reading = refl; defines = refl; refusal = refl; registers = refl }, refl)

  pub sets_discriminator : opcode ≡ 4 → (n : ℕ) (left : List ℕ) → (Ok n, left) ≡ unsigned.read operands
      → IsExecutedAs h.parameters
      ((within inside byte).read rest >>= λ opened left. (extended_operands layout h opened.0 opened.1).read left) rest
      r
      (record r { discriminator = n }) Quiet
  unfolding extended_operands
  sets_discriminator is n left operand = rw (← read, is) (
    record {
      instruction = SetDiscriminator n;
      reading = rw (← operand) refl;
      defines = refl;
      refusal = refl;
      registers = refl;
    },
    refl,
  )

  pub sets_address : opcode ≡ 2 → (a : ℕ) (left : List ℕ)
      → (Ok a, left) ≡ (number layout.is_big h.parameters.encoding.address_size).read operands
      → (k : Parameters) → k ≡ h.parameters → (new : LineRow) → new ≡ step_of k (SetAddress a) r
      → IsExecutedAs h.parameters
      ((within inside byte).read rest >>= λ opened left. (extended_operands layout h opened.0 opened.1).read left) rest
      r
      new
      (Address a)
  unfolding extended_operands
  sets_address is a left operand k same new step = rw (← read, is) (
    record {
      instruction = SetAddress a;
      reading = rw (← operand) refl;
      defines = refl;
      refusal = refl;
      registers = subst (λ p. new ≡ step_of p (SetAddress a) r) same step;
    },
    refl,
  )
