-- What these definitions name of other crates.
pub use Rattle.gimli_bytes.specs.Hand.{Hand, Placement, plain, section_word, unplaced}
pub use Rattle.gimli_bytes.specs.Number.{length_word, sleb, uleb}
pub use Rattle.gimli_bytes.specs.Texts.{
  StringTables,
  index_of_text,
  offset_of,
  table_bytes,
  with_text,
}
pub use Rattle.gimli_bytes.specs.Written.{Appends, Begins}
pub use Rattle.gimli_bytes.specs.declared.address.Address.{Address}
pub use Rattle.gimli_bytes.specs.declared.address.Address.TheVariants.{Constant, Symbol}
pub use Rattle.gimli_bytes.specs.declared.error.Error.{Error}
pub use Rattle.gimli_bytes.specs.declared.error.Error.TheVariants.{
  IncompatibleLineProgramEncoding,
  InitialLengthOverflow,
  InvalidAddress,
  LineStringFormMismatch,
  NeedVersion,
  OutOfMemory,
  UnsupportedVersion,
  ValueTooLarge,
}
pub use Rattle.gimli_bytes.specs.declared.sink.Sink.{Ghosts}
pub use Rattle.gimli_core.specs.Layout.{OrderAndLimit}
pub use Rattle.gimli_core.specs.Numbers.{is_address_size, number_bytes, word_size}
pub use Rattle.gimli_core.specs.Values.{Value}
pub use Rattle.gimli_core.specs.declared.attribute_value.AttributeValue.TheVariants.{
  DebugLineStrRef,
  DebugStrRef,
  String,
}
pub use Rattle.gimli_core.specs.declared.common.Encoding.{Encoding}
pub use Rattle.gimli_core.specs.declared.common.Format.{Format}
pub use Rattle.gimli_core.specs.declared.common.Format.TheVariants.{Dwarf32, Dwarf64}
pub use Rattle.gimli_core.specs.declared.common.LineEncoding.{LineEncoding}
pub use Rattle.gimli_core.specs.declared.common.SectionId.TheVariants.{DebugLineStr, DebugStr}
pub use Rattle.gimli_line.specs.declared.run.row.LineRow.{LineRow as ReadRow}
pub use Rattle.gimli_line.specs.header.Header.{Header, UnitEntry}
pub use Rattle.gimli_line.specs.header.Parameters.{Parameters}
pub use Rattle.gimli_line.specs.run.Events.{Event, Events, row}
pub use Rattle.gimli_line.specs.run.Instruction.{Ins, defines_file}
pub use Rattle.gimli_line.specs.run.InstructionGrammar.{Decodes, SpellsInstruction}
pub use Rattle.std.specs.Borrow.{Bor, Fml, Lends, MutBor}
pub use Rattle.std.specs.Option.{is_none, option_and_then, option_map_or, option_to_list}
pub use Rattle.std.specs.Prelude.{
  All,
  AllPairs,
  Bool,
  Err,
  FitsSigned,
  IfErr,
  IfSome,
  IsTrue,
  List,
  None,
  Ok,
  OnOk,
  Option,
  Result,
  Some,
  [],
  bytes_eq,
  drop,
  false,
  flat_map,
  int_le,
  int_lt,
  length,
  map,
  nat_eq,
  nat_le,
  nat_lt,
  negsuc,
  not,
  option_map,
  pos,
  replicate,
  reverse,
  slice_get,
  suc,
  sum_by,
  take,
  true,
  unsigned_abs,
  unwrap_or,
  zero,
  ℕ,
  ℤ,
}
