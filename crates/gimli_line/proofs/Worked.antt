-- Worked programs: the events of each, computed from the definitions.
use Rattle.std.specs.Prelude.{◌≡◌, ◌∷◌}
use Rattle.gimli_line.proofs.Common
use Common.{ℕ, Bool, true, false, [], None, refl, pos, negsuc, Dwarf32, AddressOverflow, Copy, AdvancePc, AdvanceLine}
use Common.{SetFile, SetColumn, NegateStatement, SetBasicBlock, EndSequence, SetAddress, DefineFile, SetDiscriminator}
use Common.{FixedAddPc, ConstAddPc, SetPrologueEnd, SetEpilogueBegin, Parameters, LineRow, File, plain_file, Event, row}
use Common.{fault, program_events, through_last_end, defined_files}

-- opcode base 13, with the default line encoding but for the operations
abbrev rules_13 : ℕ → ℕ → Parameters
rules_13 address_size operations = record {
  encoding = record { address_size = address_size; format = Dwarf32; version = 4 };
  line_encoding = record {
    minimum_instruction_length = 1;
    maximum_operations_per_instruction = operations;
    default_is_stmt = true;
    line_base = negsuc 4;
    line_range = 14;
  };
  opcode_base = 13;
}

-- a row of the first file, at the left edge
abbrev blank : ℕ → ℕ → ℕ → LineRow
blank address op_index line = record {
  tombstone = false;
  address = address;
  op_index = op_index;
  file = 1;
  line = line;
  column = 0;
  is_stmt = true;
  basic_block = false;
  end_sequence = false;
  prologue_end = false;
  epilogue_begin = false;
  isa = 0;
  discriminator = 0;
}

abbrev at : ℕ → ℕ → ℕ → Bool → Event
at address op_index line end = row (record (blank address op_index line) { end_sequence = end })

-- the last row but one is after the last end
pub through_the_last_end : through_last_end (program_events (rules_13 4 1) (Copy ∷ EndSequence ∷ Copy ∷ []) None)
    ≡ at 0 0 1 false ∷ at 0 0 1 true ∷ []
through_the_last_end = refl

-- the two greatest addresses stand for nothing, the one below them is an address
pub least_tombstone : program_events (rules_13 4 1)
    (SetAddress 0xffff_fffe ∷ Copy ∷ EndSequence ∷ SetAddress 0xffff_fffd ∷ Copy ∷ EndSequence ∷ []) None
    ≡ at 0xffff_fffd 0 1 false ∷ at 0xffff_fffd 0 1 true ∷ []
least_tombstone = refl

-- a part under a tombstone stands still: its advances move nothing, so the set address after it doesn't go back
pub part_under_tombstone_stands_still : program_events (rules_13 4 1)
    (SetAddress 0x10 ∷ Copy ∷ SetAddress 8 ∷ AdvancePc 0x30 ∷ SetAddress 0x20 ∷ Copy ∷ EndSequence ∷ []) None
    ≡ at 0x10 0 1 false ∷ at 0x20 0 1 false ∷ at 0x20 0 1 true ∷ []
part_under_tombstone_stands_still = refl

-- a set address that is a tombstone is no address: the next one is compared with the address before both
pub hiding_address_is_none : program_events (rules_13 4 1)
    (SetAddress 0x10 ∷ Copy ∷ SetAddress 8 ∷ SetAddress 0x0c ∷ Copy ∷ EndSequence ∷ []) None
    ≡ at 0x10 0 1 false ∷ []
hiding_address_is_none = refl

-- nothing overflows in a part under a tombstone
pub part_under_tombstone_overflows_not : program_events (rules_13 1 1)
    (AdvancePc 0xf0 ∷ Copy ∷ SetAddress 0xff ∷ AdvancePc 0x20 ∷ Copy ∷ EndSequence ∷ []) None
    ≡ at 0xf0 0 1 false ∷ []
part_under_tombstone_overflows_not = refl

-- a row under a tombstone takes its marks with it
pub marks_of_a_row_under_tombstone : program_events (rules_13 4 1)
    (SetAddress 0xffff_ffff ∷ SetDiscriminator 5 ∷ SetBasicBlock ∷ Copy ∷ SetAddress 0x10 ∷ Copy ∷ []) None
    ≡ at 0x10 0 1 false ∷ []
marks_of_a_row_under_tombstone = refl

-- so does an overflow
pub marks_of_an_overflow : program_events (rules_13 1 1)
    (AdvancePc 255 ∷ SetDiscriminator 5 ∷ SetPrologueEnd ∷ SetEpilogueBegin ∷ AdvancePc 1 ∷ Copy ∷ []) None
    ≡ fault AddressOverflow ∷ at 255 0 1 false ∷ []
marks_of_an_overflow = refl

-- at an overflow the address stays, and op_index goes on: 255 and 1, and four operations more
pub op_index_of_an_overflow : program_events (rules_13 1 3) (AdvancePc 766 ∷ AdvancePc 4 ∷ Copy ∷ []) None
    ≡ fault AddressOverflow ∷ at 255 2 1 false ∷ []
op_index_of_an_overflow = refl

-- at a fixed advance neither changes
pub op_index_of_a_fixed_overflow : program_events (rules_13 1 3) (AdvancePc 766 ∷ FixedAddPc 1 ∷ Copy ∷ []) None
    ≡ fault AddressOverflow ∷ at 255 1 1 false ∷ []
op_index_of_a_fixed_overflow = refl

-- a second negation turns the first one back
pub statement_negated_twice : program_events (rules_13 4 1) (NegateStatement ∷ Copy ∷ NegateStatement ∷ Copy ∷ []) None
    ≡ row (record (blank 0 0 1) { is_stmt = false }) ∷ at 0 0 1 false ∷ []
statement_negated_twice = refl

-- const_add_pc advances as the special opcode 255, 242 over 14, and moves no line
pub constant_advance : program_events (rules_13 4 1) (ConstAddPc ∷ Copy ∷ []) None ≡ at 17 0 1 false ∷ []
constant_advance = refl

-- an address that is set to itself is no tombstone
pub same_address : program_events (rules_13 4 1) (SetAddress 0x10 ∷ Copy ∷ SetAddress 0x10 ∷ EndSequence ∷ []) None
    ≡ at 0x10 0 1 false ∷ at 0x10 0 1 true ∷ []
same_address = refl

-- the registers of a sequence start anew after its end, and marks after each row
pub registers_start_anew : program_events (rules_13 4 1)
    (SetDiscriminator 5 ∷ SetBasicBlock ∷ SetColumn 7 ∷ SetFile 2 ∷ NegateStatement ∷ AdvanceLine (pos 3) ∷ Copy
    ∷ EndSequence ∷ Copy ∷ [])
    None
    ≡ row (record (blank 0 0 4) { file = 2; column = 7; is_stmt = false; basic_block = true; discriminator = 5 })
    ∷ row (record (blank 0 0 4) { file = 2; column = 7; is_stmt = false; end_sequence = true })
    ∷ row (blank 0 0 1) ∷ []
registers_start_anew = refl

abbrev b_c : File
b_c = plain_file (0x62 ∷ 0x2e ∷ 0x63 ∷ []) 0 0 0

-- a file is there from its definition on
pub file_defined_before : defined_files [] (Copy ∷ DefineFile b_c ∷ Copy ∷ SetFile 2 ∷ []) ≡ b_c ∷ []
file_defined_before = refl
