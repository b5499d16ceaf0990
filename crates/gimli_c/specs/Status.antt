-- The numbers that calls return.
use Rattle.std.specs.Prelude.{ℕ, Option, Some, None}
use Rattle.gimli_core.specs.declared.error.Error.{Error}
use Rattle.gimli_core.specs.declared.error.Error.TheVariants.{
  UnexpectedEof,
  BadUnsignedLeb128,
  BadSignedLeb128,
  UnknownReservedLength,
  UnknownVersion,
  UnsupportedAddressSize,
  UnsupportedSegmentSize,
  MinimumInstructionLengthZero,
  MaximumOperationsPerInstructionZero,
  LineRangeZero,
  OpcodeBaseZero,
  MissingFileEntryFormatPath,
  UnknownForm,
  AddressOverflow,
  UnsupportedOffset,
  ExpectedStringAttributeValue,
  OutOfMemory,
}

-- the number of a refusal
abbrev pub error_status : Error → ℕ
error_status (UnexpectedEof _) = 1
error_status BadUnsignedLeb128 = 2
error_status BadSignedLeb128 = 3
error_status UnknownReservedLength = 4
error_status (UnknownVersion _) = 5
error_status (UnsupportedAddressSize _) = 6
error_status (UnsupportedSegmentSize _) = 7
error_status MinimumInstructionLengthZero = 8
error_status MaximumOperationsPerInstructionZero = 9
error_status LineRangeZero = 10
error_status OpcodeBaseZero = 11
error_status MissingFileEntryFormatPath = 12
error_status (UnknownForm _) = 13
error_status AddressOverflow = 14
error_status UnsupportedOffset = 15
error_status ExpectedStringAttributeValue = 16
error_status OutOfMemory = 17

-- the number of a run: that of its first fault, or 0 where it has none
abbrev pub fault_status : Option Error → ℕ
fault_status None = 0
fault_status (Some e) = error_status e
