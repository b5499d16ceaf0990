-- What these proofs name of other crates, and the definitions of this one.
use Rattle.gimli_write.specs
use specs.Prelude
pub use Rattle.std.proofs.Common.{add-one, ap, append_assoc, arith, cond, drop, get_or, inl, inr, negsuc, refl, subst}
pub use Rattle.std.proofs.Common.{suc, sym, take, zero, ◌∙◌}
pub use Rattle.std.proofs.lemmas.Bool.{cases_lt, eq-eqb, eqb-true, le-ltb, lt-leb, lt-ltb, or_parts, true≢false}
pub use Rattle.std.proofs.lemmas.List.{
  append-nil,
  at_drop_more,
  get_or-map,
  get_or_append_left,
  length-append,
  length-drop,
  length-map,
  map-append,
  nil_from_length,
}
pub use Rattle.std.proofs.lemmas.List.Elements.{
  All-cons,
  All-from_recursion,
  All-get_or,
  All-head,
  All-nil,
  All-push,
  All-same,
  All-tail,
  All-weaker,
  recursion_from_All,
}
pub use Rattle.std.proofs.lemmas.Option.{get_or_from_slice_get, slice_get-get_or, slice_get-map, slice_get_within}
pub use Rattle.std.proofs.lemmas.Result.{IfErr-weaker, IfOk-weaker, MatchResult-weaker, err_from_is_err_and}
pub use Rattle.std.proofs.lemmas.Slice.Eq.{bytes_eq-Decides, slice_eq-Decides}
pub use Rattle.std.specs.List.{AllByRecursion, list_any, position_or_len}
pub use Rattle.std.specs.Option.{option_eq}
pub use Rattle.std.specs.Prelude.{bytes_eq}
pub use Rattle.gimli_core.proofs.Variants.{end, none, one, or}
pub use Rattle.gimli_core.specs.Values.{value_seen}
pub use Rattle.gimli_core.specs.declared.error.Error.TheVariants.{AddressOverflow, OutOfMemory}
pub use Rattle.gimli_bytes.proofs.TextLemmas.{with_text-KeepsTexts, with_text-found, with_text-there}
pub use Rattle.gimli_bytes.specs.Texts.{byte_count, index_of_text, with_text}
pub use Rattle.gimli_bytes.specs.declared.address.Address.TheVariants.{Constant}
pub use Rattle.gimli_line.proofs.HeaderLaws.{no_fault, one_header}
pub use Rattle.gimli_line.proofs.InstructionLaws.{instructions_bounded, is_decoded, one_decoding, reads_instruction}
pub use Rattle.gimli_line.specs.declared.run.instruction.LineInstruction.TheVariants.{
  AdvanceLine,
  AdvancePc,
  ConstAddPc,
  Copy,
  DefineFile,
  EndSequence,
  FixedAddPc,
  SetAddress,
  SetFile,
  Special,
}
pub use Rattle.gimli_line.specs.header.Header.{from_one}
pub use Rattle.gimli_line.specs.header.HeaderGrammar.{HasUnitFault, SpellsUnit}
pub use Rattle.gimli_line.specs.run.Events.{Event, defined_files, events_after, fault, past_at_end, program_events}
pub use Rattle.gimli_line.specs.run.Instruction.{defines_file, files_after, ins_seen}
pub use Rattle.gimli_line.specs.run.InstructionGrammar.{SpellsInstruction, instruction_production}
pub use Rattle.gimli_line.specs.run.Machine.{is_refused, next_registers, registers_after, reset_row, step_of}
pub use Rattle.gimli_line.specs.run.OperationPointer.{OperationPointer, address_limit, is_tombstone, is_too_large}
pub use Rattle.gimli_line.specs.run.OperationPointer.{next_pointer, pointer_at, pointer_at_overflow}
pub use Rattle.gimli_line.specs.run.Rows.{FaultIs, events_left, live_events}
pub use Rattle.gimli_line.specs.run.Sequences.{HasFirstFault, events_of}
pub use Rattle.gimli_line.specs.run.Unread.{Unread}
pub use Rattle.gimli_build.specs.Calls.{after_address, after_end, after_file, after_row}
pub use Rattle.gimli_build.specs.Items.{AddressesFit, items_rows}
pub use Rattle.gimli_build.specs.ReadRows.{read_row}
pub use Rattle.gimli_build.specs.LineText.{
  HasNoZero,
  InLineStrings,
  InStrings,
  Inline,
  IsWithin,
  line_text,
  line_text_eq,
}
pub use Rattle.gimli_build.specs.Tables.{
  File as BuiltFile,
  Details,
  FileKey,
  Keeps,
  has_file,
  index_of_directory,
  index_of_file,
  key_eq,
  keys_of,
  no_details,
  with_details,
  with_directory,
  with_file,
}
pub use Rattle.gimli_build.specs.Texts.{IsTextAt}
pub use specs.RoundTrip.{
  Answers,
  AnswersProgram,
  AnswersUnit,
  AreAnswers,
  FileAnswer,
  IsFileAnswer,
  IsRefusal,
  IsRunRefusal,
  RefusesUnit,
  ToWrite,
  WasWritten,
  answers,
  built_file,
  file_answer,
  sections_of,
  slice_layout,
  unit_entry_of,
}
pub use specs.TextReading.{text_from, text_of}
pub use specs.convert.Conversion.{AddsFiles, AnswersAs, Conversion, IsConvertRefusal, IsConverted, IsReadRefusal}
pub use specs.convert.Conversion.{IsRestRefusal, Progress, RestComesTo, RestConvertsTo, SourceComesTo}
pub use specs.convert.Conversion.{beside, built_so_far, outcome_with, source_left, still_to_read, tables_of}
pub use specs.convert.Conversion.{version_of_source, with_program, without_built}
pub use specs.convert.Items.{
  Reading,
  ReadsItems,
  address_offered,
  address_operand,
  after_definitions,
  base_at,
  built_row,
  defines,
  defines_first,
  end_reading,
  ends,
  file_id,
  offers,
  pending_address,
  reading_after,
  reading_at,
  reading_with,
  row_in,
  row_offered,
  row_or_end_offered,
  source_row,
  source_row_offered,
  stops,
  tables_after_definition,
  tables_at,
  with_definition,
}
pub use specs.convert.KeptTables.{
  KeepsFiles,
  KeepsFinalTables,
  StaysWritable,
  final_tables,
  final_tables_of_source,
}
pub use specs.convert.Outcome.{ComesTo, ItemComesTo, Outcome, after_item, outcome_at_end, outcome_of, with_tables}
pub use specs.convert.Outcome.{without_items}
pub use specs.convert.Preparation.{
  Handed,
  SourceFile,
  encoding_of,
  first_ids,
  first_path,
  first_texts,
  handed_of,
  line_encoding_of,
  lists_added,
  needed_from_5,
  source_file,
  start_of_tables,
  tables_at_start,
  tables_of_header,
  working_directory,
}
pub use specs.convert.Reads.{ReadsOn}
pub use specs.convert.Sequences.{SequenceRead, sequence_from, sequence_with}
pub use specs.convert.SourceRun.{
  SourceRun,
  base_after,
  instruction_reading,
  pending_after,
  reading_from,
  reading_left,
  reading_upon,
  row_made,
  start_of_source,
  state_after,
}
pub use specs.convert.SourceTables.{
  FileParts,
  SourceTables,
  TablesAndTexts,
  all_added,
  directory_added,
  file_added,
  file_parts,
  tables_with,
  version_of,
  with_parts,
  with_path,
}
pub use specs.convert.Sources.{ToConvert, to_convert}
pub use specs.convert.Texts.{IsRefusedBy, if_there, source_path, source_text, without_zero, ◌>>=◌}
pub use specs.declared.convert.rows.ConvertLineRow.TheVariants.{Row}
pub use specs.declared.convert_error.ConvertError.TheVariants.{OutOfMemory as NoMemory}
pub use specs.declared.read_back.RoundTrip.{RoundTrip}
pub use specs.inside.TextReading.{HasFileTexts, HasText}
pub use specs.inside.convert.SourceRun.{Shortens, StepsSource, step_made, step_reading}
pub use Prelude.{Address, All, Bool, Built, BuiltItem, CanWrite, ConvertError, ConvertLineRow, Decodes, Encoding, Err}
pub use Prelude.{Error, Events, File, Header, IfErr, IfOk, IfSome, Ins, InvalidAddress, InvalidDirectoryIndex}
pub use Prelude.{HasFittingAddresses, InvalidFileIndex, IsOptionalText, IsText, KeepsTexts, LineEncoding, LineRow}
pub use Prelude.{LineText, List, Made}
pub use Prelude.{MatchResult, MissingCompilationDirectory, MissingLineEndSequence, More, None, OrderAndLimit, Ok, OnErr}
pub use Prelude.{OnOk, OneByOne, Option, Parameters, Read, ReadFile, ReadRow, Result, Sections, Some}
pub use Prelude.{SourceRow, SourceStep, StringTables, UnitEntry, UnsupportedLineInstruction, Value, Write, [], bytes_in}
pub use Prelude.{decoded_at, directory_of, empty_built, false, file_seen, is_end, is_under_tombstone, length}
pub use Prelude.{made_table, made_text, makes_row, map, nat_eq, nat_le, not, ok_or, option_map, option_map_or}
pub use Prelude.{overflows, pos, program_rows, row, row_at, slice_get, texts_in, true, unwrap_or, ℕ}
