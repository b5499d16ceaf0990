-- The address and the op_index of each point (DWARF 5, sections 6.2.2 and 6.2.5), and which parts
-- of a program are under a tombstone. DWARF has no rule for these. Ours is gimli's: a linker that
-- drops code leaves its rows in the program, at an address that stands for nothing.
-- The past of a point is the list of the instructions before it, the nearest first.
use Rattle.std.specs.Prelude.{◌+◌, ◌-◌, ◌*◌, ◌/◌, ◌%◌, ◌^◌, ◌||◌, ◌&&◌, if◌then◌else◌, ◌∷◌}
use Rattle.gimli_line.specs
use specs.Prelude
use Prelude.{ℕ, Bool, false, not, nat_lt, nat_le, nat_eq, List, [], Option, Some, None, option_map}
use specs.declared.run.instruction.LineInstruction.TheVariants.{
  Special,
  AdvancePc,
  ConstAddPc,
  FixedAddPc,
  EndSequence,
  SetAddress,
}
use specs.header.Parameters.{Parameters}
use specs.run.Instruction.{Ins, makes_row}

-- the operation of a point: the address of its machine instruction, and its number there
pub record OperationPointer : Type 0 where
  pub address : ℕ
  pub op_index : ℕ

-- where each sequence starts
abbrev pub start : OperationPointer
start = record { address = 0; op_index = 0 }

-- the first number that is too large for an address
abbrev pub address_limit : Parameters → ℕ
address_limit parameters = 2 ^ (8 * parameters.encoding.address_size)

-- a set address is a tombstone: it is below the address before it, or one of the two greatest
-- addresses, which stand for nothing
abbrev pub is_tombstone : Parameters → ℕ → OperationPointer → Bool
is_tombstone parameters a before =
    nat_lt a before.address || nat_le (address_limit parameters - 2) a

-- ---- advances

-- how many operations an instruction advances
abbrev pub operation_advance : Parameters → Ins → Option ℕ
operation_advance parameters (Special o) =
    Some ((o - parameters.opcode_base) / parameters.line_encoding.line_range)
operation_advance parameters (AdvancePc n) = Some n
operation_advance parameters ConstAddPc =
    Some ((255 - parameters.opcode_base) / parameters.line_encoding.line_range)
operation_advance parameters i = None

-- the pointer n operations further on, by the formula of 6.2.5.1, whatever an address holds; sums
-- and products of operations are modulo 2 ^ 64
abbrev pub advanced_by_formula : Parameters → ℕ → OperationPointer → OperationPointer
advanced_by_formula parameters n p =
    let s = (p.op_index + n) % 2 ^ 64 in
    record {
      address =
          p.address
          + parameters.line_encoding.minimum_instruction_length
          * (s / parameters.line_encoding.maximum_operations_per_instruction) % 2 ^ 64;
      op_index = s % parameters.line_encoding.maximum_operations_per_instruction;
    }

-- the same, but where an instruction has one operation, an op_index above 0, which is too large for
-- it, is ignored: a row that another program made may have one. Any other pointer goes by the
-- formula (`laws::advances_go_by_the_formula`)
abbrev pub advanced_by : Parameters → ℕ → OperationPointer → OperationPointer
advanced_by parameters n p =
    if nat_eq parameters.line_encoding.maximum_operations_per_instruction 1
    then record {
      address = p.address + parameters.line_encoding.minimum_instruction_length * n % 2 ^ 64;
      op_index = 0;
    }
    else advanced_by_formula parameters n p

-- where an instruction advances the pointer to, whatever an address holds
abbrev pub target_pointer : Parameters → Ins → OperationPointer → Option OperationPointer
target_pointer parameters (FixedAddPc n) p = Some (record { address = p.address + n; op_index = 0 })
target_pointer parameters i p =
    option_map (λ n. advanced_by parameters n p) (operation_advance parameters i)

-- an address doesn't hold it
abbrev pub is_too_large : Parameters → OperationPointer → Bool
is_too_large parameters p = nat_le (address_limit parameters) p.address

-- the pointer where its target exceeds: the address stays, and op_index too at a fixed advance
abbrev pub pointer_at_overflow : Ins → OperationPointer → OperationPointer → OperationPointer
pointer_at_overflow (FixedAddPc n) p to = p
pointer_at_overflow i p to = record { address = p.address; op_index = to.op_index }

-- the pointer after a point, which may be under a tombstone, from the one before it
abbrev pub next_pointer : Parameters → Bool → Ins → OperationPointer → OperationPointer
next_pointer parameters tombstone EndSequence p = start
next_pointer parameters tombstone (SetAddress a) p =
    if is_tombstone parameters a p then p else record { address = a; op_index = 0 }
next_pointer parameters tombstone i p = elim (target_pointer parameters i p) [
  | None ↦ p
  | Some to ↦
      if tombstone then p
      else (if is_too_large parameters to then pointer_at_overflow i p to else to)
]

-- ---- looking back

abbrev mutual
  -- the pointer after these instructions
  pub pointer_at : Parameters → List Ins → OperationPointer
  pointer_at parameters [] = start
  pointer_at parameters (i ∷ past) =
      next_pointer parameters (is_under_tombstone parameters past) i (pointer_at parameters past)

  -- whether a point is under a tombstone: the last set address of its sequence is a tombstone
  pub is_under_tombstone : Parameters → List Ins → Bool
  is_under_tombstone parameters [] = false
  is_under_tombstone parameters (SetAddress a ∷ past) =
      is_tombstone parameters a (pointer_at parameters past)
  is_under_tombstone parameters (EndSequence ∷ past) = false
  is_under_tombstone parameters (i ∷ past) = is_under_tombstone parameters past

-- whether the target of a point exceeds, and the point isn't under a tombstone
abbrev pub overflows : Parameters → List Ins → Ins → Bool
overflows parameters past i =
    (elim (target_pointer parameters i (pointer_at parameters past))
    [ Some to ↦ is_too_large parameters to | None ↦ false ])
    && not (is_under_tombstone parameters past)

-- the instructions since the last point that made a row, or overflowed: a row clears the marks of
-- the next one (6.2.5.1). That an overflow does so too is our rule, and gimli's: the next row after
-- a refusal begins with cleared marks, as after a row
abbrev pub since_last_row : Parameters → List Ins → List Ins
since_last_row parameters [] = []
since_last_row parameters (i ∷ past) =
    if makes_row i || overflows parameters past i then [] else i ∷ since_last_row parameters past
