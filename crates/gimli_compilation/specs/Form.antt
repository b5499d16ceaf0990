-- The forms of attributes (DWARF 5, sections 7.5.5 and 7.5.6): how a value lies in the bytes, and
-- what is kept of it.
use Rattle.std.specs.Map.{lookup}
use Rattle.std.specs.Prelude.{ℕ, List, [], ◌∷◌, ◌++◌, Some, None, nat_eq, nat_le}
use Rattle.std.specs.Prelude.{if◌then◌else◌}
use Rattle.gimli_core.specs.FormNumbers.{DW_FORM_block2, DW_FORM_block4, DW_FORM_data2}
use Rattle.gimli_core.specs.FormNumbers.{DW_FORM_data4, DW_FORM_data8, DW_FORM_string}
use Rattle.gimli_core.specs.FormNumbers.{DW_FORM_block, DW_FORM_block1, DW_FORM_data1, DW_FORM_flag}
use Rattle.gimli_core.specs.FormNumbers.{DW_FORM_sdata, DW_FORM_strp, DW_FORM_udata}
use Rattle.gimli_core.specs.FormNumbers.{DW_FORM_sec_offset, DW_FORM_strx, DW_FORM_strp_sup}
use Rattle.gimli_core.specs.FormNumbers.{DW_FORM_data16, DW_FORM_line_strp, DW_FORM_strx1}
use Rattle.gimli_core.specs.FormNumbers.{DW_FORM_strx2, DW_FORM_strx3, DW_FORM_strx4}
use Rattle.gimli_core.specs.FormNumbers.{DW_FORM_GNU_str_index, DW_FORM_GNU_strp_alt}
use Rattle.gimli_core.specs.Layout.{OrderAndLimit}
use Rattle.gimli_core.specs.Numbers.{word_size}
use Rattle.gimli_core.specs.Production.{Production, ◌>>=◌, ◌>>◌, done, refuse, choose, number}
use Rattle.gimli_core.specs.Production.{unsigned, unsigned_16, signed, text, some_bytes}
use Rattle.gimli_core.specs.Production.{below_limit}
use Rattle.gimli_core.specs.declared.common.Encoding.{Encoding}
use Rattle.gimli_core.specs.declared.error.Error.TheVariants.{UnknownForm}
use Rattle.gimli_compilation.specs.DwarfNumbers.{DW_FORM_addr, DW_FORM_ref_addr, DW_FORM_ref1}
use Rattle.gimli_compilation.specs.DwarfNumbers.{DW_FORM_ref2, DW_FORM_ref4, DW_FORM_ref8}
use Rattle.gimli_compilation.specs.DwarfNumbers.{DW_FORM_ref_udata, DW_FORM_indirect}
use Rattle.gimli_compilation.specs.DwarfNumbers.{DW_FORM_exprloc, DW_FORM_flag_present}
use Rattle.gimli_compilation.specs.DwarfNumbers.{DW_FORM_addrx, DW_FORM_ref_sup4, DW_FORM_ref_sig8}
use Rattle.gimli_compilation.specs.DwarfNumbers.{DW_FORM_implicit_const, DW_FORM_loclistx}
use Rattle.gimli_compilation.specs.DwarfNumbers.{DW_FORM_rnglistx, DW_FORM_ref_sup8, DW_FORM_addrx1}
use Rattle.gimli_compilation.specs.DwarfNumbers.{DW_FORM_addrx2, DW_FORM_addrx3, DW_FORM_addrx4}
use Rattle.gimli_compilation.specs.DwarfNumbers.{DW_FORM_GNU_addr_index, DW_FORM_GNU_ref_alt}
use Rattle.gimli_compilation.specs.declared.form.NumberKind.{NumberKind}
use Rattle.gimli_compilation.specs.declared.form.NumberKind.TheVariants.{
  SectionOffset,
  StringOffset,
  LineStringOffset,
  StringIndex,
  Other,
}
use Rattle.gimli_compilation.specs.declared.form.Value.{Value}
use Rattle.gimli_compilation.specs.declared.form.Value.TheVariants.{Number, Text, Passed}
use Rattle.gimli_compilation.specs.declared.form.Shape.{Shape}
use Rattle.gimli_compilation.specs.declared.form.Shape.TheVariants.{Fixed, Unsigned, Signed, Block}
use Rattle.gimli_compilation.specs.declared.form.Shape.TheVariants.{Counted, UnsignedCounted}
use Rattle.gimli_compilation.specs.declared.form.Shape.TheVariants.{String}

-- what a number of four or eight bytes is: up to version 3 it may be an offset into a section
-- (DWARF 3, section 7.5.4)
abbrev pub data_kind : ℕ → NumberKind
data_kind version = if nat_le version 3 then SectionOffset else Other

-- the size of a reference to an entry anywhere: up to version 2 that of an address (DWARF 2,
-- section 7.5.4), then a word
abbrev pub reference_size : Encoding → ℕ
reference_size encoding =
    if nat_le encoding.version 2 then encoding.address_size else word_size encoding.format

-- the forms whose values depend on the unit: addresses, references, offsets into sections, and
-- numbers that may be such. A text in the supplementary object file isn't read
abbrev pub unit_shapes : Encoding → List (ℕ × Shape)
unit_shapes encoding =
    let word = word_size encoding.format in
    (DW_FORM_addr, Fixed encoding.address_size Other)
    ∷ (DW_FORM_ref_addr, Fixed (reference_size encoding) Other)
    ∷ (DW_FORM_sec_offset, Fixed word SectionOffset) ∷ (DW_FORM_strp, Fixed word StringOffset)
    ∷ (DW_FORM_line_strp, Fixed word LineStringOffset)
    ∷ (DW_FORM_strp_sup, Fixed word Other) ∷ (DW_FORM_GNU_ref_alt, Fixed word Other)
    ∷ (DW_FORM_GNU_strp_alt, Fixed word Other)
    ∷ (DW_FORM_data4, Fixed 4 (data_kind encoding.version))
    ∷ (DW_FORM_data8, Fixed 8 (data_kind encoding.version))
    ∷ []

-- numbers of a fixed size, flags, references within the unit, and indices
abbrev pub number_shapes : List (ℕ × Shape)
number_shapes =
    (DW_FORM_data1, Fixed 1 Other) ∷ (DW_FORM_ref1, Fixed 1 Other) ∷ (DW_FORM_flag, Fixed 1 Other)
    ∷ (DW_FORM_addrx1, Fixed 1 Other)
    ∷ (DW_FORM_data2, Fixed 2 Other) ∷ (DW_FORM_ref2, Fixed 2 Other)
    ∷ (DW_FORM_addrx2, Fixed 2 Other)
    ∷ (DW_FORM_addrx3, Fixed 3 Other)
    ∷ (DW_FORM_ref4, Fixed 4 Other) ∷ (DW_FORM_ref_sup4, Fixed 4 Other)
    ∷ (DW_FORM_addrx4, Fixed 4 Other)
    ∷ (DW_FORM_ref8, Fixed 8 Other) ∷ (DW_FORM_ref_sig8, Fixed 8 Other)
    ∷ (DW_FORM_ref_sup8, Fixed 8 Other)
    ∷ (DW_FORM_flag_present, Fixed 0 Other)
    ∷ (DW_FORM_strx1, Fixed 1 StringIndex) ∷ (DW_FORM_strx2, Fixed 2 StringIndex)
    ∷ (DW_FORM_strx3, Fixed 3 StringIndex)
    ∷ (DW_FORM_strx4, Fixed 4 StringIndex) ∷ []

-- LEB128 numbers. GNU's index of a text counts in another file, and isn't read
abbrev pub leb_shapes : List (ℕ × Shape)
leb_shapes =
    (DW_FORM_udata, Unsigned Other) ∷ (DW_FORM_ref_udata, Unsigned Other)
    ∷ (DW_FORM_addrx, Unsigned Other)
    ∷ (DW_FORM_loclistx, Unsigned Other) ∷ (DW_FORM_rnglistx, Unsigned Other)
    ∷ (DW_FORM_GNU_addr_index, Unsigned Other) ∷ (DW_FORM_GNU_str_index, Unsigned Other)
    ∷ (DW_FORM_strx, Unsigned StringIndex)
    ∷ (DW_FORM_sdata, Signed) ∷ []

-- blocks, expressions and texts
abbrev pub block_shapes : List (ℕ × Shape)
block_shapes =
    (DW_FORM_data16, Block 16) ∷ (DW_FORM_block1, Counted 1) ∷ (DW_FORM_block2, Counted 2)
    ∷ (DW_FORM_block4, Counted 4)
    ∷ (DW_FORM_block, UnsignedCounted) ∷ (DW_FORM_exprloc, UnsignedCounted)
    ∷ (DW_FORM_string, String) ∷ []

-- the forms that are known, by their numbers, but the two that stand for another
abbrev pub shapes : Encoding → List (ℕ × Shape)
shapes encoding = unit_shapes encoding ++ (number_shapes ++ (leb_shapes ++ block_shapes))

module _ (layout : OrderAndLimit) where
  -- that many bytes, of which nothing is kept
  abbrev pub passed_production : ℕ → Production (Value (List ℕ))
  passed_production n = do
    count ← below_limit layout (done n)
    some_bytes count
    done Passed

  -- a value of a shape; only numbers that may be offsets, and texts, are kept
  abbrev pub shape_production : Shape → Production (Value (List ℕ))
  shape_production (Fixed size kind) = do
    n ← number layout.is_big size
    done (Number kind n)
  shape_production (Unsigned kind) = do
    n ← unsigned
    done (Number kind n)
  shape_production Signed = do
    signed
    done Passed
  shape_production (Block size) = passed_production size
  shape_production (Counted size) = do
    n ← number layout.is_big size
    passed_production n
  shape_production UnsignedCounted = do
    n ← unsigned
    passed_production n
  shape_production String = do
    name ← text
    done (Text name)

-- a value in a form of the table; a form that isn't there is refused, whatever comes
unfoldable pub known_form_production : OrderAndLimit → Encoding → ℕ → Production (Value (List ℕ))
known_form_production layout encoding form = elim (lookup (nat_eq form) (shapes encoding)) [
  | Some shape ↦ shape_production layout shape
  | None ↦ refuse (UnknownForm (record { 0 = form }))
]

-- a value in a form. A value of DW_FORM_implicit_const takes no bytes here, since it stands in the
-- declaration; one of DW_FORM_indirect begins with its form, which is one of the table
unfoldable pub form_production : OrderAndLimit → Encoding → ℕ → Production (Value (List ℕ))
form_production layout encoding form =
    choose (nat_eq form DW_FORM_implicit_const) (done Passed)
    (choose (nat_eq form DW_FORM_indirect) (unsigned_16 >>= known_form_production layout encoding)
    (known_form_production layout encoding form))
