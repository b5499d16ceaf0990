-- What these proofs name of other crates, and the definitions of this one.
use Rattle.gimli_build.specs
pub use specs.Advance.{CanEncode, CanFollow, IsPosition, operations}
pub use specs.Built.{Built, address_value, base_of, empty_built, position_after, previous_position}
pub use specs.Cause.{
  cause_if,
  emitted_texts,
  entry_size,
  file_size,
  file_texts,
  first_cause,
  first_of,
  header_length,
  item_cause,
  offset_cause,
  refusal,
  size_of,
  tables_size,
  text_cause,
  text_size,
  unit_length,
  unit_length_cause,
  word_cause,
}
pub use specs.Conditions.{AreBuilt, CanBuild, CanEndSequence, CanGenerateRow, CanWrite, IsProgram}
pub use specs.Joined.{when}
pub use specs.Encode.{changes, constant_advance, differ, end_instructions, is_special_advance, line_opcode, line_part}
pub use specs.Encode.{marks, operation_part, row_instructions, row_maker, still_opcode}
pub use specs.FileNumber.{file_number}
pub use specs.Joined.{format_word}
pub use specs.InstructionBytes.{FitsInstructions, IsWritten, instruction_bytes, instructions_bytes, set_address_bytes}
pub use specs.Items.{AddressesFit, AreFit, FitsItem, item_bytes, item_instructions, items_bytes, items_instructions}
pub use specs.Items.{HasFittingAddresses, items_rows, next_previous, program_rows}
pub use specs.Joined.{after_length, result_append, result_concat}
pub use specs.LineText.{
  HasNoZero,
  InLineStrings,
  InStrings,
  Inline,
  IsNotEmpty,
  IsWithin,
  LineText,
  bytes_in,
  line_text,
  line_text_eq,
}
pub use specs.ReadsBack.{AreFormats, IsDirectory, IsFile, IsFound, IsOffsetHeld, IsReadWell, IsTextFound, IsUnit}
pub use specs.ReadsBack.{ReadsBack, ReadsBackAt, directories_from_zero}
pub use specs.Refused.{cause_of_directory, cause_of_file, cause_of_item, wanted_form}
pub use specs.Rows.{at_position, initial_row}
pub use specs.ReadRows.{built_rules, read_end, read_row, registers_after_row}
pub use specs.TableFields.{details}
pub use specs.Tables.{AreTables, Details, File, FileKey, Keeps, has_file, index_of_directory, index_of_file, key_eq}
pub use specs.Tables.{keys_of, no_details, with_details, with_directory, with_file, with_indexes}
pub use specs.Texts.{IsOptionalText, IsText, IsTextAt, OneByOne, Sections, StandsAt}
pub use specs.Unit.{
  escape_bytes,
  fields_bytes,
  flag_byte,
  header_bytes,
  inside_bytes,
  is_incompatible,
  line_encoding_bytes,
  opcode_bytes,
  opening_bytes,
  operand_counts,
  operations_bytes,
  program_bytes,
  tables_bytes,
  unit_bytes,
  version_bytes,
  whole_bytes,
}
pub use specs.Version4Tables.{directories_bytes, file_bytes, files_bytes, name_bytes}
pub use specs.Version5Tables.{
  detail_bytes,
  directory_formats,
  directory_table_bytes,
  empty_text,
  file_entry_bytes,
  file_formats,
  file_table_bytes,
  first_form,
  formats_bytes,
  needs_empty,
  path_texts,
  source_bytes,
  sources,
  text_bytes,
  text_form,
  text_in_form,
  texts_after,
}
pub use specs.declared.built.items.BuiltItem.{BuiltItem}
pub use specs.declared.built.items.BuiltItem.TheVariants.{End, Row, SetAddress}
pub use specs.declared.built.row.LineRow.{LineRow}
pub use specs.inside.Conditions.{IsBuilt}
pub use specs.inside.TableFields.{directories_of, files_of, key}
pub use specs.inside.Tables.{FitsFile}
pub use specs.inside.Tables.{IsFileWritable}
pub use specs.inside.Writes.{Writes, always}
pub use Rattle.gimli_bytes.proofs.LebLemmas.{sleb_one, uleb_one}
pub use Rattle.gimli_bytes.proofs.ShortestUleb.{uleb_shortest}
pub use Rattle.gimli_bytes.specs.Hand.{Hand, Placement, plain, section_word, unplaced}
pub use Rattle.gimli_bytes.specs.Number.{escape_size, length_word, open_length, sleb, udata, uleb}
pub use Rattle.gimli_bytes.specs.Relocations.{address_placed, counted, placed, placed_offset}
pub use Rattle.gimli_bytes.specs.Texts.{
  AreTexts,
  StringTables,
  byte_count,
  index_of_text,
  no_texts,
  offset_of,
  table_bytes,
  texts_in,
  with_text,
}
pub use Rattle.gimli_bytes.specs.Written.{
  Appends,
  AppendsThat,
  Begins,
  IsAppend,
  IsOverwrite,
  Refuses,
  overwrite_of,
  patch,
}
pub use Rattle.gimli_bytes.specs.declared.address.Address.TheVariants.{Constant, Symbol}
pub use Rattle.gimli_bytes.specs.declared.error.Error.{Error}
pub use Rattle.gimli_bytes.specs.declared.error.Error.TheVariants.{
  IncompatibleLineProgramEncoding,
  InitialLengthOverflow,
  InvalidAddress,
  LineStringFormMismatch,
  NeedVersion,
  OutOfMemory,
  UnsupportedVersion,
  UnsupportedWordSize,
  ValueTooLarge,
}
pub use Rattle.gimli_bytes.specs.declared.sink.Sink.{Ghosts}
pub use Rattle.gimli_core.proofs.Written.{number_spelled}
pub use Rattle.gimli_core.specs.Layout.{OrderAndLimit}
pub use Rattle.gimli_core.specs.Numbers.{
  SpellsInitialLength,
  SpellsNumber,
  SpellsUleb128,
  is_address_size,
  number_bytes,
  word_size,
}
unfoldable pub use Rattle.gimli_core.specs.Production.{offset_word}
pub use Rattle.gimli_core.specs.Production.{
  Each,
  Production,
  below_limit,
  byte,
  choose,
  done,
  fits_offset,
  times,
  unsigned,
  ◌>>=◌,
}
pub use Rattle.gimli_core.specs.Reading.{result_map}
pub use Rattle.gimli_core.specs.Values.{Value}
pub use Rattle.gimli_core.specs.declared.attribute_value.AttributeValue.TheVariants.{
  Block,
  DebugLineStrRef,
  DebugStrRef,
  String,
  Udata,
}
pub use Rattle.gimli_core.specs.declared.common.Encoding.{Encoding}
pub use Rattle.gimli_core.specs.declared.common.Format.{Format}
pub use Rattle.gimli_core.specs.declared.common.Format.TheVariants.{Dwarf32, Dwarf64}
pub use Rattle.gimli_core.specs.declared.common.LineEncoding.{LineEncoding}
pub use Rattle.gimli_core.specs.declared.common.SectionId.TheVariants.{DebugLineStr, DebugStr}
pub use Rattle.gimli_core.specs.inside.Form.{SpellsForm}
pub use Rattle.gimli_line.specs.declared.header.file_entry.FileEntryFormat.{FileEntryFormat}
pub use Rattle.gimli_line.specs.declared.run.instruction.LineInstruction.TheVariants.{
  AdvanceLine,
  AdvancePc,
  ConstAddPc,
  Copy,
  EndSequence,
  NegateStatement,
  SetAddress as ReadAddress,
  SetBasicBlock,
  SetColumn,
  SetDiscriminator,
  SetEpilogueBegin,
  SetFile,
  SetIsa,
  SetPrologueEnd,
  Special,
}
pub use Rattle.gimli_line.specs.declared.run.row.LineRow.{LineRow as ReadRow}
pub use Rattle.gimli_line.specs.header.File.{File as ReadFile}
pub use Rattle.gimli_line.specs.header.Header.{Header, UnitEntry, plain_file, without_files}
pub use Rattle.gimli_line.specs.header.Parameters.{Parameters}
pub use Rattle.gimli_line.specs.header.Productions.{path_text}
unfoldable pub use Rattle.gimli_line.specs.header.Productions.{positive}
pub use Rattle.gimli_line.specs.inside.header.HeaderGrammar.{SpellsFiles, SpellsFormats, SpellsPaths}
pub use Rattle.gimli_line.specs.run.Instruction.{Ins, defines_file, files_after, makes_row}
pub use Rattle.gimli_line.specs.run.InstructionGrammar.{Decodes, SpellsInstruction}
unfoldable pub use Rattle.gimli_line.specs.run.InstructionGrammar.{
  extended_operands,
  extended_production,
  standard_production,
}
pub use Rattle.gimli_line.specs.run.InstructionGrammar.{instruction_production}
pub use Rattle.gimli_line.specs.run.Machine.{
  at_pointer,
  initial,
  is_refused,
  made_from,
  next_registers,
  pointer_of,
  reset_row,
  run,
  step_of,
}
pub use Rattle.std.proofs.Common.{
  Bool,
  Err,
  IfErr,
  List,
  None,
  Ok,
  OnOk,
  Option,
  Some,
  [],
  add-one,
  add-zero,
  ap,
  append_assoc,
  arith,
  below_more,
  cond,
  drop,
  drop-cons,
  false,
  get_or,
  inl,
  inr,
  length,
  length-append,
  lit<,
  map,
  nat_eq,
  negsuc,
  not,
  of_z,
  option_map,
  pos,
  refl,
  reverse,
  rules,
  slice_get,
  subst,
  suc,
  sym,
  take,
  to_z,
  true,
  true≢false,
  w64,
  zero,
  ℕ,
  ◌∙◌,
}
pub use Rattle.std.proofs.Math.Seq.{take-suc}
pub use Rattle.std.proofs.lemmas.Bool.{
  and_parts,
  cases_lt,
  eqb-true,
  le-leb,
  le-ltb,
  leb-false,
  leb-true,
  lt-leb,
  lt-ltb,
  ltb-false,
  ltb-true,
  ne_eqb,
}
pub use Rattle.std.proofs.lemmas.Bool.Decides.{Decides-and, Decides-eqb, Decides-like, nat_tests}
pub use Rattle.std.proofs.lemmas.Int.{ints, to_z-of_z}
pub use Rattle.std.proofs.lemmas.List.{
  append-nil,
  drop-append-le,
  drop-drop,
  drop-map,
  drop_at,
  length-map,
  map-append,
  reverse-append,
  take-take,
  take_all,
  take_at,
  take_rest,
}
pub use Rattle.std.proofs.lemmas.List.Concat.{flat_map-append}
pub use Rattle.std.proofs.lemmas.List.Elements.{
  All-append,
  All-cons,
  All-contains,
  All-drop,
  All-head,
  All-nil,
  All-push,
  All-tail,
  All-weaker,
  recursion_from_All,
}
pub use Rattle.std.proofs.lemmas.Option.{
  get_or_from_slice_get,
  none-some,
  slice_get-get_or,
  slice_get-map,
  slice_get_read,
  slice_get_within,
}
pub use Rattle.std.proofs.lemmas.Result.{err_from_is_err_and}
pub use Rattle.std.specs.List.{AllByRecursion, AllZip, count_by, list_any, position_or_len}
pub use Rattle.std.specs.Option.{is_none, option_copied_mut, option_map_or, option_to_list}
pub use Rattle.std.specs.Prelude.{All, Contains, FitsSigned, IfOk, IfSome, IsTrue, Result, bytes_eq, flat_map, is_some}
pub use Rattle.std.specs.Prelude.{min, nat_le, nat_lt, replicate, slice_index_or, sum_by, unsigned_abs, unwrap_or, ℤ}
