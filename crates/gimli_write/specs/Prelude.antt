-- What these definitions name of other crates, and the types of this one.
pub use Rattle.std.specs.Option.{option_map_or}
pub use Rattle.std.specs.Prelude.{
  All,
  Bool,
  Err,
  IfErr,
  IfOk,
  IfSome,
  List,
  MatchResult,
  None,
  Ok,
  OnErr,
  OnOk,
  Option,
  Result,
  Some,
  [],
  false,
  int_le,
  int_lt,
  is_err,
  is_some,
  length,
  map,
  nat_eq,
  nat_le,
  nat_lt,
  not,
  ok_or,
  option_map,
  pos,
  slice_get,
  true,
  unwrap_or,
  ℕ,
}
pub use Rattle.std.specs.declared.alloc.Global.{Global}
pub use Rattle.std.specs.declared.vec.Vec.{Vec}
pub use Rattle.gimli_core.specs.Layout.{OrderAndLimit}
pub use Rattle.gimli_core.specs.Values.{Value}
pub use Rattle.gimli_core.specs.declared.common.Encoding.{Encoding}
pub use Rattle.gimli_core.specs.declared.common.LineEncoding.{LineEncoding}
pub use Rattle.gimli_core.specs.declared.error.Error.{Error}
pub use Rattle.gimli_bytes.specs.Texts.{KeepsTexts, StringTables, table_bytes, texts_in}
pub use Rattle.gimli_bytes.specs.declared.address.Address.{Address}
pub use Rattle.gimli_line.specs.declared.run.row.LineRow.{LineRow as ReadRow}
pub use Rattle.gimli_line.specs.header.File.{File, File as ReadFile, file_seen}
pub use Rattle.gimli_line.specs.header.Header.{
  Header,
  SeenHeader,
  UnitEntry,
  directory_of,
  entry_of,
  file_of,
  has_content,
}
pub use Rattle.gimli_line.specs.header.Parameters.{Parameters}
pub use Rattle.gimli_line.specs.run.Events.{Events, row, row_at}
pub use Rattle.gimli_line.specs.run.EventsWithFiles.{FilesAtEnd}
pub use Rattle.gimli_line.specs.run.Instruction.{Ins, is_end, makes_row}
pub use Rattle.gimli_line.specs.run.InstructionGrammar.{Decodes}
pub use Rattle.gimli_line.specs.run.InstructionGrammar.{decoded_at}
pub use Rattle.gimli_line.specs.run.OperationPointer.{is_under_tombstone, overflows}
pub use Rattle.gimli_build.specs.Built.{Built, address_value, empty_built, previous_position}
pub use Rattle.gimli_build.specs.Conditions.{CanBuild, CanWrite}
pub use Rattle.gimli_build.specs.FileNumber.{file_number}
pub use Rattle.gimli_build.specs.Items.{HasFittingAddresses, program_rows}
pub use Rattle.gimli_build.specs.LineText.{LineText, bytes_in, made_table, made_text}
pub use Rattle.gimli_build.specs.ReadsBack.{IsUnit, ReadsBack, directories_from_zero}
pub use Rattle.gimli_build.specs.Texts.{IsOptionalText, IsText, OneByOne, Sections}
pub use Rattle.gimli_build.specs.Version5Tables.{texts_after}
pub use Rattle.gimli_build.specs.declared.built.items.BuiltItem.{BuiltItem}
pub use Rattle.gimli_build.specs.declared.built.items.BuiltItem.TheVariants.{End, Row}
pub use Rattle.gimli_build.specs.declared.built.row.LineRow.{LineRow}
use Rattle.gimli_write.specs
pub use specs.declared.convert.rows.ConvertLineRow.{ConvertLineRow}
pub use specs.declared.convert.rows.ConvertLineRow.TheVariants.{
  EndSequence,
  SetAddress,
}
pub use specs.declared.convert.run.SourceRow.{SourceRow}
pub use specs.declared.convert.run.SourceStep.{SourceStep}
pub use specs.declared.convert.run.SourceStep.TheVariants.{
  Defines,
  Done,
  Made,
  More,
}
pub use specs.declared.convert_error.ConvertError.{ConvertError}
pub use specs.declared.convert_error.ConvertError.TheVariants.{
  InvalidAddress,
  InvalidAttributeValue,
  InvalidDirectoryIndex,
  InvalidFileIndex,
  InvalidLineBase,
  MissingCompilationDirectory,
  MissingCompilationName,
  MissingLineEndSequence,
  OutOfMemory,
  Read,
  UnsupportedLineInstruction,
  UnsupportedLineStringForm,
  Write,
}
