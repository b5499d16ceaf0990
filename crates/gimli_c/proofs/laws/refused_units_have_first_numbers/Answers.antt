use Rattle.std.proofs.Common.{ℕ, ◌≤◌, inl, inr, sym, subst, arith}
use Rattle.gimli_core.specs.declared.error.Error.{Error}
use Rattle.gimli_core.specs.declared.error.Error.TheVariants.{
  UnexpectedEof,
  BadUnsignedLeb128,
  BadSignedLeb128,
  UnknownReservedLength,
  UnknownVersion,
  UnsupportedAddressSize,
  UnsupportedSegmentSize,
  MinimumInstructionLengthZero,
  MaximumOperationsPerInstructionZero,
  LineRangeZero,
  OpcodeBaseZero,
  MissingFileEntryFormatPath,
  UnknownForm,
  AddressOverflow,
  UnsupportedOffset,
  ExpectedStringAttributeValue,
  OutOfMemory,
}
use Rattle.gimli_c.specs.Status.{error_status}
use Rattle.gimli_c.proofs.laws.refused_units_have_first_numbers.Goals as goal

abbrev IsFirst : ℕ → Type 0
IsFirst status = (1 ≤ status) × (status ≤ 17)

is_first : (e : Error) → IsFirst (error_status e)
is_first (UnexpectedEof _) = (omega arith, omega arith)
is_first BadUnsignedLeb128 = (omega arith, omega arith)
is_first BadSignedLeb128 = (omega arith, omega arith)
is_first UnknownReservedLength = (omega arith, omega arith)
is_first (UnknownVersion _) = (omega arith, omega arith)
is_first (UnsupportedAddressSize _) = (omega arith, omega arith)
is_first (UnsupportedSegmentSize _) = (omega arith, omega arith)
is_first MinimumInstructionLengthZero = (omega arith, omega arith)
is_first MaximumOperationsPerInstructionZero = (omega arith, omega arith)
is_first LineRangeZero = (omega arith, omega arith)
is_first OpcodeBaseZero = (omega arith, omega arith)
is_first MissingFileEntryFormatPath = (omega arith, omega arith)
is_first (UnknownForm _) = (omega arith, omega arith)
is_first AddressOverflow = (omega arith, omega arith)
is_first UnsupportedOffset = (omega arith, omega arith)
is_first ExpectedStringAttributeValue = (omega arith, omega arith)
is_first OutOfMemory = (omega arith, omega arith)

pub returns : goal.returns
returns c = λ p status no_unit.
    elim no_unit [
      | inl size ↦ subst IsFirst (sym size.1) (omega arith, omega arith)
      | inr bad ↦ subst IsFirst (sym bad.3) (is_first bad.1)
    ]
