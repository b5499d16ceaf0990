-- The forms of the tables of version 5 (DWARF 5, section 7.5.5): how a value lies in the bytes.
use Rattle.std.specs.Prelude.{ℕ, List, [], ◌∷◌, Some, None, not, nat_eq, ℤ}
use Rattle.std.specs.Map.{lookup}
use Rattle.gimli_core.specs
use specs.Layout.{OrderAndLimit}
use specs.Values.{Value}
use specs.Production.{Production, ◌>>=◌, done, refuse, number, unsigned, signed}
use specs.Production.{text, some_bytes, below_limit, offset_word}
use specs.FormNumbers.{DW_FORM_block2, DW_FORM_block4, DW_FORM_data2}
use specs.FormNumbers.{DW_FORM_data4, DW_FORM_data8, DW_FORM_string}
use specs.FormNumbers.{DW_FORM_block, DW_FORM_block1, DW_FORM_data1, DW_FORM_flag}
use specs.FormNumbers.{DW_FORM_sdata, DW_FORM_strp, DW_FORM_udata}
use specs.FormNumbers.{DW_FORM_sec_offset, DW_FORM_strx, DW_FORM_strp_sup}
use specs.FormNumbers.{DW_FORM_data16, DW_FORM_line_strp, DW_FORM_strx1}
use specs.FormNumbers.{DW_FORM_strx2, DW_FORM_strx3, DW_FORM_strx4}
use specs.FormNumbers.{DW_FORM_GNU_str_index, DW_FORM_GNU_strp_alt}
use specs.declared.common.Format.{Format}
use specs.declared.error.Error.TheVariants.{UnknownForm}
use specs.declared.attribute_value.AttributeValue.TheVariants.{
  Block,
  Data1,
  Data2,
  Data4,
  Data8,
  Udata,
  Sdata,
  Flag,
  SecOffset,
  String,
  DebugStrRef,
  DebugStrRefSup,
  DebugLineStrRef,
  DebugStrOffsetsIndex,
}

-- how a value lies in the bytes, and which value it is
pub data Shape : Type 0 where
  -- a number of so many bytes
  fixed : ℕ → (ℕ → Value) → Shape
  -- a number of three bytes, which is an index
  three_bytes : (ℕ → Value) → Shape
  -- a word of the format, which is an offset
  word_offset : (ℕ → Value) → Shape
  -- LEB128 numbers, and one that is an index
  leb : (ℕ → Value) → Shape
  signed_leb : (ℤ → Value) → Shape
  leb_offset : (ℕ → Value) → Shape
  -- so many bytes
  block : ℕ → Shape
  -- a length of so many bytes, or in LEB128, and that many bytes
  counted : ℕ → Shape
  leb_counted : Shape
  -- bytes that aren't zero, and a zero byte
  string : Shape

-- an index into `.debug_str_offsets`
abbrev pub index : ℕ → Value
index n = DebugStrOffsetsIndex (record { 0 = n })

-- the forms that are known, by their numbers
abbrev pub shapes : List (ℕ × Shape)
shapes =
    (DW_FORM_block1, counted 1) ∷ (DW_FORM_block2, counted 2) ∷ (DW_FORM_block4, counted 4)
    ∷ (DW_FORM_block, leb_counted) ∷ (DW_FORM_data16, block 16)
    ∷ (DW_FORM_data1, fixed 1 Data1) ∷ (DW_FORM_data2, fixed 2 Data2)
    ∷ (DW_FORM_data4, fixed 4 Data4) ∷ (DW_FORM_data8, fixed 8 Data8)
    ∷ (DW_FORM_udata, leb Udata) ∷ (DW_FORM_sdata, signed_leb Sdata)
    ∷ (DW_FORM_flag, fixed 1 (λ n. Flag (not (nat_eq n 0))))
    ∷ (DW_FORM_sec_offset, word_offset SecOffset) ∷ (DW_FORM_string, string)
    ∷ (DW_FORM_strp, word_offset (λ n. DebugStrRef (record { 0 = n })))
    ∷ (DW_FORM_strp_sup, word_offset (λ n. DebugStrRefSup (record { 0 = n })))
    ∷ (DW_FORM_GNU_strp_alt, word_offset (λ n. DebugStrRefSup (record { 0 = n })))
    ∷ (DW_FORM_line_strp, word_offset (λ n. DebugLineStrRef (record { 0 = n })))
    ∷ (DW_FORM_strx, leb_offset index) ∷ (DW_FORM_GNU_str_index, leb_offset index)
    ∷ (DW_FORM_strx1, fixed 1 index) ∷ (DW_FORM_strx2, fixed 2 index)
    ∷ (DW_FORM_strx3, three_bytes index) ∷ (DW_FORM_strx4, fixed 4 index) ∷ []

-- that many bytes, as a block
abbrev pub block_production : ℕ → Production Value
block_production n = do
  bytes ← some_bytes n
  done (Block bytes)

module _ (layout : OrderAndLimit) (format : Format) where
  -- a value of this shape
  abbrev pub shape_production : Shape → Production Value
  shape_production (fixed size make) = do
    n ← number layout.is_big size
    done (make n)
  shape_production (three_bytes make) = do
    n ← below_limit layout (number layout.is_big 3)
    done (make n)
  shape_production (word_offset make) = do
    n ← offset_word layout format
    done (make n)
  shape_production (leb make) = do
    n ← unsigned
    done (make n)
  shape_production (signed_leb make) = do
    z ← signed
    done (make z)
  shape_production (leb_offset make) = do
    n ← below_limit layout unsigned
    done (make n)
  shape_production (block size) = block_production size
  shape_production (counted size) = do
    n ← number layout.is_big size
    block_production n
  shape_production leb_counted = do
    n ← below_limit layout unsigned
    block_production n
  shape_production string = do
    name ← text
    done (String name)

  -- a value in a form; a form that isn't known is refused, whatever comes
  abbrev pub form_production : ℕ → Production Value
  form_production form = elim (lookup (nat_eq form) shapes) [
    | Some shape ↦ shape_production shape
    | None ↦ refuse (UnknownForm (record { 0 = form }))
  ]
