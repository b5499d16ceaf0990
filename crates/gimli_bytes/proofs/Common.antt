-- What these proofs name of other crates, and the definitions of this one.
pub use Rattle.gimli_bytes.specs.Hand.{Placement, plain_reference, section_word, unplaced}
pub use Rattle.gimli_bytes.specs.Number.{
  address_bytes,
  escape_size,
  format_of,
  has_seven_bits,
  high_bits,
  length_word,
  low_bits,
  open_length,
  pointer_at_end,
  pointer_data,
  sdata,
  sleb_within,
  twos_complement,
  udata,
  uleb_within,
}
pub use Rattle.gimli_bytes.specs.Relocatable.{Relocatable}
pub use Rattle.gimli_bytes.specs.Texts.{
  AreTexts,
  KeepsTexts,
  byte_count,
  index_of_text,
  offset_of,
  table_bytes,
  with_text,
}
pub use Rattle.gimli_bytes.specs.Written.{Appends, Begins, IsAppend, Overwrites, overwrite_of, patch}
pub use Rattle.gimli_bytes.specs.declared.address.Address.{Address}
pub use Rattle.gimli_bytes.specs.declared.address.Address.TheVariants.{Constant, Symbol}
pub use Rattle.gimli_bytes.specs.declared.error.Error.{Error}
pub use Rattle.gimli_bytes.specs.declared.error.Error.TheVariants.{
  InitialLengthOverflow,
  InvalidAddress,
  InvalidRange,
  InvalidReference,
  LengthOutOfBounds,
  OffsetOutOfBounds,
  OutOfMemory,
  UnsupportedPointerEncoding,
  UnsupportedWordSize,
  ValueTooLarge,
}
pub use Rattle.gimli_bytes.specs.declared.relocation.Addends.{Addends}
pub use Rattle.gimli_bytes.specs.declared.relocation.Addends.TheVariants.{InPlace, Listed}
pub use Rattle.gimli_bytes.specs.declared.relocation.Relocation.{Relocation}
pub use Rattle.gimli_bytes.specs.declared.relocation.RelocationTarget.{RelocationTarget}
pub use Rattle.gimli_bytes.specs.declared.relocation.RelocationTarget.TheVariants.{OfSection, OfSymbol}
pub use Rattle.gimli_bytes.specs.inside.Pieces.{put_over}
pub use Rattle.gimli_bytes.specs.inside.TextFields.{texts_of}
pub use Rattle.gimli_core.specs.Numbers.{
  IsLeb128,
  IsShortest,
  SpellsSleb128,
  SpellsUleb128,
  is_negative,
  number_bytes,
  signed_value,
  value_of,
}
pub use Rattle.gimli_core.specs.Reading.{result_map}
pub use Rattle.gimli_core.specs.declared.common.SectionId.{SectionId}
pub use Rattle.gimli_core.specs.declared.constants.DwEhPe.{DwEhPe}
pub use Rattle.std.proofs.Common.{
  Bool,
  Err,
  IfErr,
  List,
  None,
  Ok,
  OnErr,
  OnOk,
  SFits,
  Some,
  [],
  ap,
  append_assoc,
  arith,
  cond,
  drop,
  false,
  get_or,
  inl,
  inr,
  length,
  length-append,
  length-drop,
  length-take,
  nat_eq,
  negsuc,
  not,
  of_z,
  pos,
  position,
  pow-suc,
  refl,
  rules,
  set,
  subst,
  suc,
  sym,
  take,
  to_z,
  true,
  true≢false,
  w64,
  zero,
  ℕ,
  ℤ,
  ◌∙◌,
}
pub use Rattle.std.proofs.Math.Nat.{add-mul-div_right, add-mul-mod_self_right, div-one, mod-eq_of_lt, mod-lt, pow-succ'}
pub use Rattle.std.proofs.lemmas.Bool.{
  and_parts,
  cases_lt,
  eqb-true,
  le-leb,
  le-ltb,
  leb-false,
  leb-true,
  lt-ltb,
  ne_eqb,
}
pub use Rattle.std.proofs.lemmas.Int.{ints, of_z-to_z}
pub use Rattle.std.proofs.lemmas.List.{
  append-nil,
  drop-append-le,
  drop-drop,
  drop_all,
  drop_at,
  length-set,
  map-append,
  take-append-drop,
  take-append-le,
  take-map,
  take_all,
  take_at,
  take_more,
  take_more_set,
}
pub use Rattle.std.proofs.lemmas.List.Elements.{All-append, All-cons, All-head, All-push, All-set, All-tail}
pub use Rattle.std.proofs.lemmas.Nat.{div-add-mod', div_below, pow-add}
pub use Rattle.std.specs.Int.{
  byte_at,
  bytes_high_first,
  bytes_low_first,
  cast_signed,
  cast_unsigned,
  div_ceil,
  int_div_euclid,
}
pub use Rattle.std.specs.List.{concat, list_any, position_or_len, prefix_len}
pub use Rattle.std.specs.Prelude.{
  All,
  Contains,
  FitsSigned,
  IsTrue,
  Result,
  bit_and,
  bytes_eq,
  codes,
  map,
  nat_le,
  nat_lt,
  replicate,
  slice_get,
}
