-- The number of each constant of `status`.
use Rattle.std.specs.Prelude.{◌≡◌}
use Rattle.gimli_c.specs.declared.status.TheConstants.{OK, UNEXPECTED_EOF, BAD_UNSIGNED_LEB128}
use Rattle.gimli_c.specs.declared.status.TheConstants.{BAD_SIGNED_LEB128, UNKNOWN_RESERVED_LENGTH}
use Rattle.gimli_c.specs.declared.status.TheConstants.{UNKNOWN_VERSION, UNSUPPORTED_ADDRESS_SIZE}
use Rattle.gimli_c.specs.declared.status.TheConstants.{UNSUPPORTED_SEGMENT_SIZE}
use Rattle.gimli_c.specs.declared.status.TheConstants.{MINIMUM_INSTRUCTION_LENGTH_ZERO}
use Rattle.gimli_c.specs.declared.status.TheConstants.{MAXIMUM_OPERATIONS_PER_INSTRUCTION_ZERO}
use Rattle.gimli_c.specs.declared.status.TheConstants.{LINE_RANGE_ZERO, OPCODE_BASE_ZERO}
use Rattle.gimli_c.specs.declared.status.TheConstants.{MISSING_FILE_ENTRY_FORMAT_PATH, UNKNOWN_FORM}
use Rattle.gimli_c.specs.declared.status.TheConstants.{ADDRESS_OVERFLOW, UNSUPPORTED_OFFSET}
use Rattle.gimli_c.specs.declared.status.TheConstants.{EXPECTED_STRING_ATTRIBUTE_VALUE}
use Rattle.gimli_c.specs.declared.status.TheConstants.{OUT_OF_MEMORY, NO_ROW}
use Rattle.gimli_c.specs.declared.status.TheConstants.{UNSUPPORTED_OFFSET_SIZE}
use Rattle.gimli_c.specs.declared.status.TheConstants.{UNSUPPORTED_LINE_ENCODING}
use Rattle.gimli_c.specs.declared.status.TheConstants.{TEXT_OUT_OF_BOUNDS, ZERO_IN_TEXT, EMPTY_TEXT}
use Rattle.gimli_c.specs.declared.status.TheConstants.{NO_SOURCE_FILE, NO_SUCH_DIRECTORY}
use Rattle.gimli_c.specs.declared.status.TheConstants.{NO_SUCH_FILE, ROW_OUT_OF_ORDER, UNKNOWN_FLAG}
use Rattle.gimli_c.specs.declared.status.TheConstants.{NEED_VERSION_4, UNIT_TOO_LONG, NO_ROOM}
use Rattle.gimli_c.specs.declared.status.TheConstants.{UNKNOWN_PATH, NO_INDEX}
use Rattle.gimli_c.specs.declared.status.TheConstants.{
  UNKNOWN_INDEX_VERSION,
  INDEX_CUT,
  INDEX_HEADER,
}
use Rattle.gimli_c.specs.declared.status.TheConstants.{INDEX_DISORDERED, INDEX_PATH_OUTSIDE}
use Rattle.gimli_c.specs.declared.status.TheConstants.{NO_CODE, NO_COMP_DIR}
use Rattle.gimli_c.specs.declared.status.TheConstants.{UNKNOWN_OPTIONS, NO_ELF, NO_SECTION}
use Rattle.gimli_c.specs.declared.status.TheConstants.{
  BAD_SECTION,
  INDEX_TOO_LARGE,
  PLACE_TOO_LARGE,
}

-- the constants are these numbers, which the enum `gimli_line_status` of include/gimli_line.h has
-- under the same names
pub record AreNumbered : Type 0 where
  pub ok : OK ≡ 0
  pub unexpected_eof : UNEXPECTED_EOF ≡ 1
  pub bad_unsigned_leb128 : BAD_UNSIGNED_LEB128 ≡ 2
  pub bad_signed_leb128 : BAD_SIGNED_LEB128 ≡ 3
  pub unknown_reserved_length : UNKNOWN_RESERVED_LENGTH ≡ 4
  pub unknown_version : UNKNOWN_VERSION ≡ 5
  pub unsupported_address_size : UNSUPPORTED_ADDRESS_SIZE ≡ 6
  pub unsupported_segment_size : UNSUPPORTED_SEGMENT_SIZE ≡ 7
  pub minimum_instruction_length_zero : MINIMUM_INSTRUCTION_LENGTH_ZERO ≡ 8
  pub maximum_operations_per_instruction_zero : MAXIMUM_OPERATIONS_PER_INSTRUCTION_ZERO ≡ 9
  pub line_range_zero : LINE_RANGE_ZERO ≡ 10
  pub opcode_base_zero : OPCODE_BASE_ZERO ≡ 11
  pub missing_file_entry_format_path : MISSING_FILE_ENTRY_FORMAT_PATH ≡ 12
  pub unknown_form : UNKNOWN_FORM ≡ 13
  pub address_overflow : ADDRESS_OVERFLOW ≡ 14
  pub unsupported_offset : UNSUPPORTED_OFFSET ≡ 15
  pub expected_string_attribute_value : EXPECTED_STRING_ATTRIBUTE_VALUE ≡ 16
  pub out_of_memory : OUT_OF_MEMORY ≡ 17
  pub no_row : NO_ROW ≡ 18
  pub unsupported_offset_size : UNSUPPORTED_OFFSET_SIZE ≡ 19
  pub unsupported_line_encoding : UNSUPPORTED_LINE_ENCODING ≡ 20
  pub text_out_of_bounds : TEXT_OUT_OF_BOUNDS ≡ 21
  pub zero_in_text : ZERO_IN_TEXT ≡ 22
  pub empty_text : EMPTY_TEXT ≡ 23
  pub no_source_file : NO_SOURCE_FILE ≡ 24
  pub no_such_directory : NO_SUCH_DIRECTORY ≡ 25
  pub no_such_file : NO_SUCH_FILE ≡ 26
  pub row_out_of_order : ROW_OUT_OF_ORDER ≡ 27
  pub unknown_flag : UNKNOWN_FLAG ≡ 28
  pub need_version_4 : NEED_VERSION_4 ≡ 29
  pub unit_too_long : UNIT_TOO_LONG ≡ 30
  pub no_room : NO_ROOM ≡ 31
  pub unknown_path : UNKNOWN_PATH ≡ 33
  pub no_index : NO_INDEX ≡ 34
  pub unknown_index_version : UNKNOWN_INDEX_VERSION ≡ 35
  pub index_cut : INDEX_CUT ≡ 36
  pub index_header : INDEX_HEADER ≡ 37
  pub index_disordered : INDEX_DISORDERED ≡ 38
  pub index_path_outside : INDEX_PATH_OUTSIDE ≡ 39
  pub no_code : NO_CODE ≡ 41
  pub no_comp_dir : NO_COMP_DIR ≡ 42
  pub unknown_options : UNKNOWN_OPTIONS ≡ 43
  pub no_elf : NO_ELF ≡ 44
  pub no_section : NO_SECTION ≡ 45
  pub bad_section : BAD_SECTION ≡ 46
  pub index_too_large : INDEX_TOO_LARGE ≡ 47
  pub place_too_large : PLACE_TOO_LARGE ≡ 48
