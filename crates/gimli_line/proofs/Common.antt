-- What these proofs name of other crates, and the definitions of this one.
pub use Rattle.gimli_core.proofs.ProductionLaws.{
  reads_below_limit,
  reads_byte,
  reads_number,
  reads_some_bytes,
  reads_text,
  reads_unit_length,
}
pub use Rattle.gimli_core.proofs.Productions.{
  bind_fault,
  bind_ok,
  bind_refused,
  ok_parts,
  reads_both,
  reads_done,
  reads_if,
  reads_refuse,
  reads_times,
  reads_within,
}
pub use Rattle.gimli_core.proofs.SignedLaws.{reads_signed}
pub use Rattle.gimli_core.proofs.Taken.{order_of, part_order_of, part_read_of, read_of, taken_of}
pub use Rattle.gimli_core.proofs.UnsignedLeb.{reads_unsigned}
pub use Rattle.gimli_core.specs.Layout.{OrderAndLimit, Seen, layout_of}
pub use Rattle.gimli_core.specs.Numbers.{
  IsLeb128,
  SpellsUleb128,
  initial_length_size,
  is_address_size,
}
pub use Rattle.gimli_core.specs.Production.{
  Each,
  IsOpen,
  IsWanting,
  Production,
  Reads,
  below_limit,
  byte,
  check,
  choose,
  done,
  list_to_zero,
  number,
  refuse,
  signed,
  some_bytes,
  text,
  times,
  unsigned,
  within,
  ◌>>=◌ as ◌>>>◌,
}
unfoldable pub use Rattle.gimli_core.specs.Production.{address_size, offset_word, unit_length}
pub use Rattle.gimli_core.specs.Reading.{
  Read,
  byte_at,
  closed_at,
  is_closed,
  number_at,
  signed_at,
  sized_sum,
  split_at,
  text_at,
  unsigned_at,
  ◌>>=◌,
}
unfoldable pub use Rattle.gimli_core.specs.Reading.{closed_below}
pub use Rattle.gimli_core.specs.Values.{IsOrder, Value, ValueHasOrder, udata_value, value_by, value_order, value_seen}
pub use Rattle.gimli_core.specs.declared.attribute_value.AttributeValue.{AttributeValue}
pub use Rattle.gimli_core.specs.declared.attribute_value.AttributeValue.TheVariants.{String}
pub use Rattle.gimli_core.specs.declared.common.DebugLineOffset.{DebugLineOffset}
pub use Rattle.gimli_core.specs.declared.common.Encoding.{Encoding}
pub use Rattle.gimli_core.specs.declared.common.Format.{Format}
pub use Rattle.gimli_core.specs.declared.common.Format.TheVariants.{Dwarf32}
pub use Rattle.gimli_core.specs.declared.error.Error.{Error}
pub use Rattle.gimli_core.specs.declared.error.Error.TheVariants.{
  AddressOverflow,
  OutOfMemory,
  UnknownForm,
  UnsupportedOffset,
}
pub use Rattle.gimli_line.specs.declared.header.file_entry.FileEntry.{FileEntry}
pub use Rattle.gimli_line.specs.declared.header.file_entry.FileEntryFormat.{FileEntryFormat}
pub use Rattle.gimli_line.specs.declared.run.from_bytes.Executed.{Executed}
pub use Rattle.gimli_line.specs.declared.run.from_bytes.Executed.TheVariants.{Address, No, Quiet, Row}
pub use Rattle.gimli_line.specs.declared.run.instruction.LineInstruction.TheVariants.{
  AdvanceLine,
  AdvancePc,
  ConstAddPc,
  Copy,
  DefineFile,
  EndSequence,
  FixedAddPc,
  NegateStatement,
  SetAddress,
  SetBasicBlock,
  SetColumn,
  SetDiscriminator,
  SetEpilogueBegin,
  SetFile,
  SetIsa,
  SetPrologueEnd,
  Special,
  UnknownExtended,
  UnknownStandard0,
  UnknownStandard1,
  UnknownStandardN,
}
pub use Rattle.gimli_line.specs.declared.run.row.LineRow.{LineRow}
pub use Rattle.gimli_line.specs.header.File.{
  AreFileOrders,
  File,
  FileHasOrder,
  FileOrders,
  file_by,
  file_orders,
  file_seen,
}
pub use Rattle.gimli_line.specs.header.Header.{
  Header,
  SeenHeader,
  UnitEntry,
  directory_of,
  entry_of,
  file_of,
  plain_file,
  without_files,
}
pub use Rattle.gimli_line.specs.header.HeaderGrammar.{
  HasUnitFault,
  HeaderOpening,
  HoldsCount,
  SpellsUnit,
  TableEntry,
  digest,
  directory_table,
  file_of_entry,
  file_table,
  files_production,
  last_value,
  named_file,
  operations_production,
  path_of,
  paths_production,
}
unfoldable pub use Rattle.gimli_line.specs.header.HeaderGrammar.{
  address_size_production,
  entries_production,
  entry_production,
  fields_production,
  file_production,
  format_production,
  formats_production,
  header_production,
  line_encoding_production,
  opening_production,
  parameters_production,
  table_of,
  table_production,
  version_production,
}
pub use Rattle.gimli_line.specs.header.Orders.{HeaderSource, KeepsSource, source_of}
pub use Rattle.gimli_line.specs.header.Parameters.{Parameters}
pub use Rattle.gimli_line.specs.header.Productions.{bytes_of, path_text}
pub use Rattle.std.specs.Map.{lookup}
unfoldable pub use Rattle.gimli_line.specs.header.Productions.{positive}
pub use Rattle.gimli_line.specs.inside.header.Outcome.{read_map, without_value}
pub use Rattle.gimli_core.specs.Results.{Gives}
pub use Rattle.gimli_line.specs.inside.run.Rows.{ReadsOn, StepIs, StepsTo, given_row}
pub use Rattle.gimli_line.specs.run.Events.{
  Event,
  EventWithFiles,
  Events,
  defined_files,
  end_events,
  ends_sequence,
  events_after,
  events_of,
  fault,
  files_at,
  given_of,
  is_given,
  made_after,
  made_at,
  past_at_end,
  program_events,
  row,
  row_at,
  through_last_end,
  with_files,
}
pub use Rattle.gimli_line.specs.run.EventsWithFiles.{EventsWithFiles, FilesAtEnd, Makes, program_made}
pub use Rattle.gimli_line.specs.run.Instruction.{
  Ins,
  InsHasOrder,
  defines_file,
  files_after,
  header_after,
  is_end,
  makes_row,
}
pub use Rattle.gimli_line.specs.run.InstructionGrammar.{
  decoded_after,
  decoded_at,
  instruction_production,
  operand_production,
}
pub use Rattle.gimli_line.specs.run.Machine.{
  initial,
  is_refused,
  made_from,
  made_step,
  next_registers,
  registers_after,
  reset_row,
  run,
  step_of,
}
pub use Rattle.gimli_line.specs.run.OperationPointer.{
  OperationPointer,
  is_under_tombstone,
  next_pointer,
  overflows,
  pointer_at,
  since_last_row,
}
pub use Rattle.gimli_line.specs.run.Passing.{PassesOver, files_from, registers_from, with_reset_row}
pub use Rattle.gimli_line.specs.run.Rows.{
  AddsInOrder,
  FaultComes,
  FaultIs,
  GivesRowsAlone,
  IsOfOneOrder,
  IsRow,
  KeepsHeader,
  KeepsRun,
  RowIs,
  SeesHeader,
  WantsMemory,
  events_left,
  files_at_end,
  live_events,
  live_made,
  made_left,
  start_of_run,
  whole_run,
}
pub use Rattle.gimli_line.specs.run.Passing.{RunState}
pub use Rattle.gimli_line.specs.run.Unread.{Unread}
pub use Rattle.std.proofs.Common.{Bool, Bor, Err, IfErr, IsTrue, List, None, Ok, Option, Result, Some, [], ap}
pub use Rattle.std.proofs.Common.{append_assoc, arith, drop, false, inl, inr, length, map, not, of_z, refl, rules}
pub use Rattle.std.proofs.Common.{subst, suc, sym, take, to_z, true, w64, zero, ℕ, ℤ, ◌∙◌}
pub use Rattle.std.proofs.lemmas.Bool.{cases_lt, le-leb, lt-leb, ltb-false, ne_eqb}
pub use Rattle.std.proofs.lemmas.List.{
  append-nil,
  drop_all,
  drop_at,
  length-append,
  length-drop,
  length-map,
  map-append,
  map_push,
  take-append-drop,
  take_at,
}
pub use Rattle.std.proofs.lemmas.Result.{err_from_is_err_and}
pub use Rattle.std.proofs.lemmas.Slice.Eq.{slice_eq-Decides}
pub use Rattle.std.specs.Cmp.{booleans_Decides, unsigned_Decides}
pub use Rattle.std.specs.List.{All, AllByRecursion, filter, flat_map, list_any}
pub use Rattle.std.specs.Prelude.{
  Decides,
  OnErr,
  OnOk,
  nat_eq,
  nat_le,
  nat_lt,
  negsuc,
  option_map,
  pos,
  slice_get,
  slice_index,
}
