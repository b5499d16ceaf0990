-- What these definitions name of other crates.
pub use Rattle.gimli_core.specs.Layout.{OrderAndLimit, Seen, layout_of}
pub use Rattle.gimli_core.specs.Reading.{
  Read,
  byte_at,
  number_at,
  offset_of,
  signed_at,
  split_at,
  text_at,
  unsigned_at,
  ◌>>=◌,
}
pub use Rattle.gimli_core.specs.Values.{
  IsOrder,
  Value,
  udata_value,
  value_by,
  value_order,
  value_seen,
}
pub use Rattle.gimli_core.specs.declared.attribute_value.AttributeValue.{AttributeValue}
pub use Rattle.gimli_core.specs.declared.attribute_value.AttributeValue.TheVariants.{Block, String}
pub use Rattle.gimli_core.specs.declared.common.DebugLineOffset.{DebugLineOffset}
pub use Rattle.gimli_core.specs.declared.common.Encoding.{Encoding}
pub use Rattle.gimli_core.specs.declared.common.Format.{Format}
pub use Rattle.gimli_core.specs.declared.common.LineEncoding.{LineEncoding}
pub use Rattle.gimli_core.specs.declared.error.Error.{Error}
pub use Rattle.gimli_core.specs.declared.error.Error.TheVariants.{
  AddressOverflow,
  BadSignedLeb128,
  BadUnsignedLeb128,
  LineRangeZero,
  MaximumOperationsPerInstructionZero,
  MinimumInstructionLengthZero,
  MissingFileEntryFormatPath,
  OpcodeBaseZero,
  OutOfMemory,
  UnexpectedEof,
  UnknownForm,
  UnknownVersion,
  UnsupportedOffset,
  UnsupportedSegmentSize,
}
pub use Rattle.std.specs.List.{AllByRecursion, filter, list_any}
pub use Rattle.std.specs.Prelude.{
  All,
  Bool,
  Decides,
  Err,
  IfErr,
  IfOk,
  IfSome,
  IsTrue,
  List,
  None,
  Ok,
  Option,
  Result,
  Some,
  [],
  count_by,
  drop,
  false,
  flat_map,
  length,
  map,
  min,
  nat_eq,
  nat_le,
  nat_lt,
  negsuc,
  not,
  option_map,
  pos,
  replicate,
  slice_get,
  slice_index,
  suc,
  take,
  true,
  zero,
  ℕ,
  ℤ,
}
pub use Rattle.std.specs.declared.alloc.Global.{Global}
pub use Rattle.std.specs.declared.vec.Vec.{Vec}
