use Rattle.std.proofs.Common.{refl}
use Rattle.gimli_c.proofs.laws.constants_are_numbered.Goals as goal

pub returns : goal.returns
returns c = record {
  ok = refl;
  unexpected_eof = refl;
  bad_unsigned_leb128 = refl;
  bad_signed_leb128 = refl;
  unknown_reserved_length = refl;
  unknown_version = refl;
  unsupported_address_size = refl;
  unsupported_segment_size = refl;
  minimum_instruction_length_zero = refl;
  maximum_operations_per_instruction_zero = refl;
  line_range_zero = refl;
  opcode_base_zero = refl;
  missing_file_entry_format_path = refl;
  unknown_form = refl;
  address_overflow = refl;
  unsupported_offset = refl;
  expected_string_attribute_value = refl;
  out_of_memory = refl;
  no_row = refl;
  unsupported_offset_size = refl;
  unsupported_line_encoding = refl;
  text_out_of_bounds = refl;
  zero_in_text = refl;
  empty_text = refl;
  no_source_file = refl;
  no_such_directory = refl;
  no_such_file = refl;
  row_out_of_order = refl;
  unknown_flag = refl;
  need_version_4 = refl;
  unit_too_long = refl;
  no_room = refl;
  unknown_path = refl;
  no_index = refl;
  unknown_index_version = refl;
  index_cut = refl;
  index_header = refl;
  index_disordered = refl;
  index_path_outside = refl;
  no_code = refl;
  no_comp_dir = refl;
  unknown_options = refl;
  no_elf = refl;
  no_section = refl;
  bad_section = refl;
  index_too_large = refl;
  place_too_large = refl;
}
