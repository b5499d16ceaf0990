-- Which refusals an instruction may have.
use Rattle.std.specs.Prelude.{◌-◌}
use Rattle.gimli_line.proofs.Common
use Common.{ℕ, zero, suc, Bool, true, false, List, Option, Some, None, inl, inr, arith, ltb-false, nat_eq, nat_le}
use Common.{nat_lt, slice_index, OrderAndLimit, SpellsUleb128, Production, done, check, choose, times, within, byte}
use Common.{number, some_bytes, text, unsigned, signed, below_limit, IsWanting, Error, UnsupportedOffset, Special}
use Common.{UnknownStandard0, UnknownStandard1, UnknownStandardN, UnknownExtended, Header, lookup}
use Common.{bytes_of, Ins}
use Rattle.gimli_core.specs.Production.{◌>>=◌}
use Rattle.gimli_line.specs
use specs.header.HeaderGrammar.{file_production}
use specs.run.InstructionGrammar.{Operand, none, uleb, sleb, uhalf, address, file, standard_opcodes, operand_production}
use specs.run.InstructionGrammar.{unknown_production, standard_production, extended_operands, extended_production}
use specs.run.InstructionGrammar.{instruction_production, IsInstructionRefusal}

-- a production that is refused as an instruction may be
record IsKnown {A : Type 0} (layout : OrderAndLimit) (l : Production A) : Type 0 where
  known : (bytes : List ℕ) (e : Error) → l.Fault bytes e → IsInstructionRefusal layout e

module _ (layout : OrderAndLimit) where
  -- ---- single productions

  wanting : (size : ℕ) (bytes : List ℕ) (e : Error) → IsWanting size bytes e → IsInstructionRefusal layout e
  wanting size bytes e f = rw f.1 tt

  byte_known : IsKnown layout byte
  byte_known = record { known = wanting 1 }

  bytes_known : (size : ℕ) → IsKnown layout (some_bytes size)
  bytes_known size = grind (arith)

  number_known : (is_big : Bool) (size : ℕ) → IsKnown layout (number is_big size)
  number_known is_big size = grind (arith)

  text_known : IsKnown layout text
  text_known = grind arith

  unsigned_known : IsKnown layout unsigned
  unsigned_known = record { known = λ bytes e f. elim f [ inl p ↦ rw p.2 tt | inr p ↦ rw p.7 tt ] }

  signed_known : IsKnown layout signed
  signed_known = record { known = λ bytes e f. elim f [ inl p ↦ rw p.2 tt | inr p ↦ rw p.7 tt ] }

  done_known : {A : Type 0} (x : A) → IsKnown layout (done x)
  done_known x = grind arith

  -- ---- put together

  then_known : {A B : Type 0} (l : Production A) (next : A → Production B) → IsKnown layout l
      → ((x : A) → IsKnown layout (next x))
      → IsKnown layout (l >>= next)
  then_known l next first after = record {
    known = λ bytes e f. elim f [ inl p ↦ first.known bytes e p | inr p ↦ (after p.0).known p.2 e p.5 ];
  }

  choose_known : {A : Type 0} (b : Bool) (l m : Production A) → IsKnown layout l → IsKnown layout m
      → IsKnown layout (choose b l m)
  choose_known true l m first other = first
  choose_known false l m first other = other

  times_known : {A : Type 0} (n : ℕ) (l : Production A) → IsKnown layout l → IsKnown layout (times n l)
  times_known zero l known = done_known _
  times_known (suc n) l known =
      then_known l _ known (λ x. then_known _ _ (times_known n l known) (λ xs. done_known _))

  bytes_of_known : {A : Type 0} (l : Production A) → IsKnown layout l → IsKnown layout (bytes_of l)
  bytes_of_known l known = grind arith

  within_known : {A : Type 0} (inside : List ℕ) (l : Production A) → IsKnown layout l → IsKnown layout (within inside l)
  within_known inside l known = grind arith

  -- a number that the reader's offsets don't hold is below 2 ^ 64
  limit_known : IsKnown layout (below_limit layout unsigned)
  limit_known = record {
    known = λ bytes e f. elim f [ inl p ↦ unsigned_known.known bytes e p | inr p ↦ at_check p.0 p.1 p.4 p.2 e p.5 ];
  }
    where
      at_check : (n : ℕ) (front : List ℕ) → SpellsUleb128 64 front n → (rest : List ℕ) (e : Error)
          → (check (nat_lt n layout.limit) UnsupportedOffset >>= λ fits. done n).Fault rest e
          → IsInstructionRefusal layout e
      at_check n front s rest e (inl f) = rw f.1 (omega (arith, ltb-false n layout.limit f.0, s.fits))
      at_check n front s rest e (inr f) = elim f.5 [ ]

  -- ---- instructions

  file_known : (path : List ℕ) → IsKnown layout (file_production path)
  unfolding file_production
  file_known path = grind (arith)

  module _ (h : Header) where
    operand_known : (operand : Operand) → IsKnown layout (operand_production layout h operand)
    operand_known (none i) = done_known i
    operand_known (uleb make) = then_known _ _ unsigned_known (λ n. done_known _)
    operand_known (sleb make) = then_known _ _ signed_known (λ z. done_known _)
    operand_known (uhalf make) =
        then_known _ _ (number_known _ 2) (λ n. done_known _)
    operand_known (address make) =
        then_known _ _
        (number_known _ _) (λ a.
        done_known _)
    operand_known (file make) =
        then_known _ _ text_known (λ path.
        then_known _ _ (file_known _) (λ f. done_known _))

    unknown_known : (opcode count : ℕ) → IsKnown layout (unknown_production layout h opcode count)
    unfolding unknown_production
    unknown_known opcode zero = done_known (UnknownStandard0 (record { 0 = opcode }))
    unknown_known opcode (suc zero) =
        then_known unsigned _ unsigned_known (λ n. done_known (UnknownStandard1 (record { 0 = opcode }) n))
    unknown_known opcode (suc (suc more)) =
        let all = times (suc (suc more)) unsigned in
        then_known (bytes_of all) _ (bytes_of_known all (times_known (suc (suc more)) unsigned unsigned_known))
        (λ operands.
        done_known (UnknownStandardN (record { 0 = opcode }) operands))

    standard_known : (opcode : ℕ) → IsKnown layout (standard_production layout h opcode)
    unfolding standard_production
    standard_known opcode = at_operand (lookup (nat_eq opcode) standard_opcodes)
      where
        at_operand : (found : Option Operand) → IsKnown {A = Ins} layout (elim found [
          | Some operand ↦ operand_production layout h operand
          | None ↦ unknown_production layout h opcode (slice_index h.operand_counts (opcode - 1))
        ])
        at_operand (Some operand) = operand_known operand
        at_operand None = unknown_known opcode (slice_index h.operand_counts (opcode - 1))

    operands_known : (opcode : ℕ) (operands : List ℕ) → IsKnown layout (extended_operands layout h opcode operands)
    unfolding extended_operands
    operands_known opcode operands = at_operand _
      where
        at_operand : (found : Option Operand) → IsKnown {A = Ins} layout (elim found [
          | Some operand ↦ within operands (operand_production layout h operand) >>= (λ read. done read.0)
          | None ↦ done (UnknownExtended (record { 0 = opcode }) operands)
        ])
        at_operand (Some operand) =
            then_known _ _
            (within_known _ _ (operand_known _)) (λ read.
            done_known _)
        at_operand None = done_known _

    extended_known : IsKnown layout (extended_production layout h)
    unfolding extended_production
    extended_known =
        then_known (below_limit layout unsigned) _ limit_known (λ size.
        then_known (some_bytes size) _ (bytes_known size) (λ inside.
        then_known (within inside byte) _ (within_known inside byte byte_known) (λ opened.
        operands_known opened.0 opened.1)))

    instruction_known : IsKnown layout (instruction_production layout h)
    instruction_known =
        then_known byte _ byte_known (λ opcode.
        choose_known (nat_eq opcode 0) (extended_production layout h) _ extended_known
        (choose_known (nat_le h.parameters.opcode_base opcode) (done (Special opcode)) _ (done_known (Special opcode))
        (standard_known opcode)))

    pub instruction_refused : (bytes : List ℕ) (e : Error) → (instruction_production layout h).Fault bytes e
        → IsInstructionRefusal layout e
    instruction_refused = instruction_known.known
