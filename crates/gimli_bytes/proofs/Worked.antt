-- Worked calls of writers: the bytes of each, or its refusal, by hand, computed from the definitions.
use Rattle.std.specs.Prelude.{◌≡◌, ◌-◌, ◌∷◌, ◌++◌}
use Rattle.gimli_bytes.proofs.Common
use Common.{ℕ, true, false, List, [], Result, Ok, Err, arith, refl, pos, negsuc, map, replicate, codes, DwEhPe}
use Common.{result_map, Placement, section_word, plain_reference, udata, sdata, address_bytes, escape_size, open_length}
use Common.{length_word, pointer_data, pointer_at_end, Relocatable, with_text, index_of_text, table_bytes, byte_count}
use Common.{offset_of, overwrite_of, patch, Constant, Symbol, Error, ValueTooLarge, UnsupportedWordSize}
use Common.{InitialLengthOverflow, InvalidAddress, InvalidReference, UnsupportedPointerEncoding, OffsetOutOfBounds}
use Common.{LengthOutOfBounds, InvalidRange, Addends, Listed, InPlace, OfSymbol, OfSection}
use Rattle.gimli_core.specs.declared.common.Format.TheVariants.{Dwarf32, Dwarf64}
use Rattle.gimli_core.specs.declared.common.SectionId.TheVariants.{DebugStr}
use Rattle.gimli_bytes.specs
use specs.Number.{uleb, sleb_within, sleb}
use specs.Pieces.{ArePieces, in_use, NeedsNoPiece}
use specs.Relocations.{
  Call,
  AddressOf,
  OffsetInto,
  ReferenceTo,
  BytesAt,
  OffsetAt,
  after_calls,
  applied,
  placed_address,
}

-- what a call writes
abbrev Written : Type 0
Written = Result (List ℕ) Error

-- the same byte so many times, as what is written
abbrev filled : ℕ → ℕ → Written
filled n byte = Ok (replicate n byte)

-- ---- unsigned numbers of 1, 2, 3, 4 or 8 bytes

pub unsigned_little : udata false 0x11 1 ∷ udata false 0x2233 2 ∷ udata false 0x112233 3 ∷ udata false 0x44556677 4
    ∷ udata false 0x8081828384858687 8 ∷ []
    ≡ Ok (0x11 ∷ []) ∷ Ok (0x33 ∷ 0x22 ∷ []) ∷ Ok (0x33 ∷ 0x22 ∷ 0x11 ∷ []) ∷ Ok (0x77 ∷ 0x66 ∷ 0x55 ∷ 0x44 ∷ [])
    ∷ Ok (0x87 ∷ 0x86 ∷ 0x85 ∷ 0x84 ∷ 0x83 ∷ 0x82 ∷ 0x81 ∷ 0x80 ∷ []) ∷ []
unsigned_little = refl

pub unsigned_big : udata true 0x11 1 ∷ udata true 0x2233 2 ∷ udata true 0x112233 3 ∷ udata true 0x44556677 4
    ∷ udata true 0x8081828384858687 8 ∷ []
    ≡ Ok (0x11 ∷ []) ∷ Ok (0x22 ∷ 0x33 ∷ []) ∷ Ok (0x11 ∷ 0x22 ∷ 0x33 ∷ []) ∷ Ok (0x44 ∷ 0x55 ∷ 0x66 ∷ 0x77 ∷ [])
    ∷ Ok (0x80 ∷ 0x81 ∷ 0x82 ∷ 0x83 ∷ 0x84 ∷ 0x85 ∷ 0x86 ∷ 0x87 ∷ []) ∷ []
unsigned_big = refl

pub least_unsigned : map (udata false 0) (1 ∷ 2 ∷ 3 ∷ 4 ∷ 8 ∷ []) ≡ map (λ n. filled n 0) (1 ∷ 2 ∷ 3 ∷ 4 ∷ 8 ∷ [])
least_unsigned = refl

pub greatest_unsigned : udata true 0xff 1 ∷ udata true 0xffff 2 ∷ udata true 0xff_ffff 3 ∷ udata true 0xffff_ffff 4
    ∷ udata true 0xffff_ffff_ffff_ffff 8 ∷ []
    ≡ map (λ n. filled n 0xff) (1 ∷ 2 ∷ 3 ∷ 4 ∷ 8 ∷ [])
greatest_unsigned = refl

pub unsigned_too_large : udata false 0x100 1 ∷ udata false 0x1_0000 2 ∷ udata false 0x100_0000 3
    ∷ udata false 0x1_0000_0000 4
    ∷ udata true 0xffff_ffff_ffff_ffff 4 ∷ []
    ≡ replicate 5 (Err ValueTooLarge)
unsigned_too_large = refl

-- the size is looked at before the value
pub sizes_of_no_unsigned_number : map (udata false 256) (0 ∷ 5 ∷ 6 ∷ 7 ∷ 9 ∷ 16 ∷ 32 ∷ 255 ∷ [])
    ≡ map (λ n. Err (UnsupportedWordSize n)) (0 ∷ 5 ∷ 6 ∷ 7 ∷ 9 ∷ 16 ∷ 32 ∷ 255 ∷ [])
sizes_of_no_unsigned_number = refl

-- ---- signed numbers of 1, 2, 4 or 8 bytes, in two's complement

pub least_signed : sdata true (negsuc 0x7f) 1 ∷ sdata true (negsuc 0x7fff) 2 ∷ sdata true (negsuc 0x7fff_ffff) 4
    ∷ sdata true (negsuc 0x7fff_ffff_ffff_ffff) 8
    ∷ []
    ≡ map (λ n. Ok (0x80 ∷ replicate n 0)) (0 ∷ 1 ∷ 3 ∷ 7 ∷ [])
least_signed = refl

pub greatest_signed : sdata true (pos 0x7f) 1 ∷ sdata true (pos 0x7fff) 2 ∷ sdata true (pos 0x7fff_ffff) 4
    ∷ sdata true (pos 0x7fff_ffff_ffff_ffff) 8 ∷ []
    ≡ map (λ n. Ok (0x7f ∷ replicate n 0xff)) (0 ∷ 1 ∷ 3 ∷ 7 ∷ [])
greatest_signed = refl

pub signed_numbers : sdata false (negsuc 1) 2 ∷ sdata true (negsuc 1) 2 ∷ sdata false (pos 0x7fff) 2
    ∷ sdata false (pos 0) 4 ∷ sdata false (negsuc 0) 8 ∷ []
    ≡ Ok (0xfe ∷ 0xff ∷ []) ∷ Ok (0xff ∷ 0xfe ∷ []) ∷ Ok (0xff ∷ 0x7f ∷ []) ∷ filled 4 0 ∷ filled 8 0xff ∷ []
signed_numbers = refl

pub signed_too_large : sdata false (pos 0x80) 1 ∷ sdata false (negsuc 0x80) 1 ∷ sdata false (pos 0x8000) 2
    ∷ sdata false (negsuc 0x8000) 2
    ∷ sdata false (pos 0x8000_0000) 4 ∷ sdata false (negsuc 0x8000_0000) 4 ∷ [] ≡ replicate 6 (Err ValueTooLarge)
signed_too_large = refl

pub sizes_of_no_signed_number : map (sdata false (pos 0)) (0 ∷ 3 ∷ 5 ∷ 6 ∷ 7 ∷ 9 ∷ 16 ∷ 255 ∷ [])
    ≡ map (λ n. Err (UnsupportedWordSize n)) (0 ∷ 3 ∷ 5 ∷ 6 ∷ 7 ∷ 9 ∷ 16 ∷ 255 ∷ [])
sizes_of_no_signed_number = refl

-- ---- LEB128 (DWARF 5, section 7.6)

-- the examples of the standard
pub unsigned_leb : map uleb (0 ∷ 2 ∷ 127 ∷ 128 ∷ 129 ∷ 130 ∷ 12857 ∷ [])
    ≡ (0 ∷ []) ∷ (2 ∷ []) ∷ (0x7f ∷ []) ∷ (0x80 ∷ 1 ∷ []) ∷ (0x81 ∷ 1 ∷ []) ∷ (0x82 ∷ 1 ∷ []) ∷ (0xb9 ∷ 0x64 ∷ []) ∷ []
unfolding uleb
unsigned_leb = refl

-- at the ends of groups of seven bits
pub unsigned_leb_of_more_groups : map uleb (0x3fff ∷ 0x4000 ∷ 0x1f_ffff ∷ 0x20_0000 ∷ 0xffff_ffff ∷ [])
    ≡ (0xff ∷ 0x7f ∷ []) ∷ (0x80 ∷ 0x80 ∷ 1 ∷ []) ∷ (0xff ∷ 0xff ∷ 0x7f ∷ []) ∷ (0x80 ∷ 0x80 ∷ 0x80 ∷ 1 ∷ [])
    ∷ (replicate 4 0xff ++ 0x0f ∷ []) ∷ []
unfolding uleb
unsigned_leb_of_more_groups = refl

pub unsigned_leb_of_64_bits : map uleb (0x7fff_ffff_ffff_ffff ∷ 0x8000_0000_0000_0000 ∷ 0xffff_ffff_ffff_ffff ∷ [])
    ≡ (replicate 8 0xff ++ 0x7f ∷ []) ∷ (replicate 9 0x80 ++ 1 ∷ []) ∷ (replicate 9 0xff ++ 1 ∷ []) ∷ []
unfolding uleb
unsigned_leb_of_64_bits = refl

-- the examples of the standard
pub signed_leb : map sleb (pos 2 ∷ negsuc 1 ∷ pos 127 ∷ negsuc 126 ∷ pos 128 ∷ negsuc 127 ∷ pos 129 ∷ negsuc 128 ∷ [])
    ≡ (2 ∷ []) ∷ (0x7e ∷ []) ∷ (0xff ∷ 0 ∷ []) ∷ (0x81 ∷ 0x7f ∷ []) ∷ (0x80 ∷ 1 ∷ []) ∷ (0x80 ∷ 0x7f ∷ [])
    ∷ (0x81 ∷ 1 ∷ []) ∷ (0xff ∷ 0x7e ∷ []) ∷ []
unfolding sleb sleb_within
signed_leb = refl

-- at the sign
pub signed_leb_at_the_sign : map sleb
    (pos 0 ∷ negsuc 0 ∷ pos 63 ∷ pos 64 ∷ negsuc 63 ∷ negsuc 64 ∷ pos 8191 ∷ pos 8192 ∷ negsuc 8191 ∷ negsuc 8192 ∷ [])
    ≡ (0 ∷ []) ∷ (0x7f ∷ []) ∷ (0x3f ∷ []) ∷ (0xc0 ∷ 0 ∷ []) ∷ (0x40 ∷ []) ∷ (0xbf ∷ 0x7f ∷ [])
    ∷ (0xff ∷ 0x3f ∷ []) ∷ (0x80 ∷ 0xc0 ∷ 0 ∷ []) ∷ (0x80 ∷ 0x40 ∷ []) ∷ (0xff ∷ 0xbf ∷ 0x7f ∷ []) ∷ []
unfolding sleb sleb_within
signed_leb_at_the_sign = refl

pub signed_leb_of_64_bits : map sleb
    (pos 0x3fff_ffff_ffff_ffff ∷ pos 0x4000_0000_0000_0000 ∷ negsuc 0x3fff_ffff_ffff_ffff ∷ pos 0x7fff_ffff_ffff_ffff
    ∷ negsuc 0x7fff_ffff_ffff_ffff ∷ [])
    ≡ (replicate 8 0xff ++ 0x3f ∷ []) ∷ (replicate 8 0x80 ++ 0xc0 ∷ 0 ∷ []) ∷ (replicate 8 0x80 ++ 0x40 ∷ [])
    ∷ (replicate 9 0xff ++ 0 ∷ [])
    ∷ (replicate 9 0x80 ++ 0x7f ∷ []) ∷ []
unfolding sleb sleb_within
signed_leb_of_64_bits = refl

-- ---- addresses, offsets and references

pub addresses : address_bytes false (Constant 0x1122) 2 ∷ address_bytes true (Constant 0x1122_3344) 4
    ∷ address_bytes false (Constant 0x100) 1
    ∷ address_bytes false (Constant 0) 6 ∷ []
    ≡ Ok (0x22 ∷ 0x11 ∷ []) ∷ Ok (0x11 ∷ 0x22 ∷ 0x33 ∷ 0x44 ∷ []) ∷ Err ValueTooLarge ∷ Err (UnsupportedWordSize 6) ∷ []
addresses = refl

-- no number is known for a symbol, whatever the size is
pub symbols : address_bytes false (Symbol 0 (pos 0)) 4 ∷ address_bytes false (Symbol 0 (pos 0)) 6
    ∷ plain_reference false 0 4 ∷ plain_reference false 0 6 ∷ []
    ≡ Err InvalidAddress ∷ Err InvalidAddress ∷ Err InvalidReference ∷ Err InvalidReference ∷ []
symbols = refl

pub offsets : section_word false 0x1122 2 ∷ section_word true 0x1122_3344_5566_7788 8 ∷ section_word false 0x100 1
    ∷ section_word false 0x1_0000_0000 4
    ∷ section_word false 0 6 ∷ []
    ≡ Ok (0x22 ∷ 0x11 ∷ []) ∷ Ok (0x11 ∷ 0x22 ∷ 0x33 ∷ 0x44 ∷ 0x55 ∷ 0x66 ∷ 0x77 ∷ 0x88 ∷ []) ∷ Err ValueTooLarge
    ∷ Err ValueTooLarge
    ∷ Err (UnsupportedWordSize 6) ∷ []
offsets = refl

-- ---- initial lengths (DWARF 5, section 7.4)

pub open_lengths : map (open_length true) (Dwarf32 ∷ Dwarf64 ∷ [])
    ≡ replicate 4 0 ∷ (replicate 4 0xff ++ replicate 8 0) ∷ []
open_lengths = refl

pub places_of_words : map escape_size (Dwarf32 ∷ Dwarf64 ∷ []) ≡ 0 ∷ 4 ∷ []
places_of_words = refl

-- in the 32-bit format the words from 0xffff_fff0 on are reserved
pub lengths_of_32_bits : map (length_word true Dwarf32)
    (0x1122_3344 ∷ 0xffff_ffef ∷ 0xffff_fff0 ∷ 0xffff_ffff ∷ 0x1_0000_0000 ∷ [])
    ≡ Ok (0x11 ∷ 0x22 ∷ 0x33 ∷ 0x44 ∷ []) ∷ Ok (0xff ∷ 0xff ∷ 0xff ∷ 0xef ∷ []) ∷ Err InitialLengthOverflow
    ∷ Err InitialLengthOverflow ∷ Err ValueTooLarge ∷ []
lengths_of_32_bits = refl

-- in the 64-bit format none is
pub lengths_of_64_bits : map (length_word false Dwarf64)
    (0xffff_fff0 ∷ 0xffff_ffff ∷ 0x1_0000_0000 ∷ 0xffff_ffff_ffff_ffff ∷ [])
    ≡ Ok (0xf0 ∷ replicate 3 0xff ++ replicate 4 0) ∷ Ok (replicate 4 0xff ++ replicate 4 0)
    ∷ Ok (replicate 4 0 ++ 1 ∷ replicate 3 0) ∷ filled 8 0xff ∷ []
lengths_of_64_bits = refl

-- ---- pointers (Linux Standard Base, "DWARF Exception Header Encoding")

abbrev encoding : ℕ → DwEhPe
encoding n = record { 0 = n }

-- a number in a pointer format, with addresses of eight bytes
abbrev data_in : ℕ → ℕ → Written
data_in format n = pointer_data false n (encoding format) 8

pub formats : data_in 0x00 0x1122 ∷ data_in 0x01 0x80 ∷ data_in 0x02 0x1122 ∷ data_in 0x03 0x1122_3344
    ∷ data_in 0x04 0x1122 ∷ []
    ≡ Ok (0x22 ∷ 0x11 ∷ replicate 6 0) ∷ Ok (0x80 ∷ 1 ∷ []) ∷ Ok (0x22 ∷ 0x11 ∷ [])
    ∷ Ok (0x44 ∷ 0x33 ∷ 0x22 ∷ 0x11 ∷ []) ∷ Ok (0x22 ∷ 0x11 ∷ replicate 6 0)
    ∷ []
unfolding uleb sleb sleb_within
formats = refl

-- the signed formats take a number by its 64 bits
pub signed_formats : data_in 0x09 0xffff_ffff_ffff_ffff ∷ data_in 0x0a 0xffff_ffff_ffff_8000
    ∷ data_in 0x0b 0xffff_ffff_8000_0000
    ∷ data_in 0x0c 0xffff_ffff_ffff_fffe ∷ []
    ≡ Ok (0x7f ∷ []) ∷ Ok (0 ∷ 0x80 ∷ []) ∷ Ok (0 ∷ 0 ∷ 0 ∷ 0x80 ∷ []) ∷ Ok (0xfe ∷ replicate 7 0xff) ∷ []
unfolding uleb sleb sleb_within
signed_formats = refl

pub numbers_of_formats : data_in 0x02 0xffff ∷ data_in 0x02 0x1_0000 ∷ data_in 0x03 0x1_0000_0000 ∷ data_in 0x0a 0x7fff
    ∷ data_in 0x0a 0x8000
    ∷ data_in 0x0a 0xffff_ffff_ffff_7fff ∷ data_in 0x0b 0x8000_0000 ∷ []
    ≡ Ok (0xff ∷ 0xff ∷ []) ∷ Err ValueTooLarge ∷ Err ValueTooLarge ∷ Ok (0xff ∷ 0x7f ∷ []) ∷ Err ValueTooLarge
    ∷ Err ValueTooLarge ∷ Err ValueTooLarge ∷ []
unfolding uleb sleb sleb_within
numbers_of_formats = refl

-- 0x05 to 0x08 and 0x0d to 0x0f are none, and a format has four bits
pub no_formats : map (λ format. data_in format 0)
    (0x05 ∷ 0x06 ∷ 0x07 ∷ 0x08 ∷ 0x0d ∷ 0x0e ∷ 0x0f ∷ 0x10 ∷ 0x1b ∷ 0x80 ∷ [])
    ≡ map (λ format. Err (UnsupportedPointerEncoding (encoding format)))
    (0x05 ∷ 0x06 ∷ 0x07 ∷ 0x08 ∷ 0x0d ∷ 0x0e ∷ 0x0f ∷ 0x10 ∷ 0x1b ∷ 0x80 ∷ [])
unfolding uleb sleb sleb_within
no_formats = refl

-- a pointer in an encoding, after four bytes
abbrev pointer : ℕ → ℕ → ℕ → Written
pointer n code size = pointer_at_end false (replicate 4 0xaa) (Constant n) (encoding code) size

-- absptr has the size of an address
pub absolute_pointers : pointer 0x11 0x00 1 ∷ pointer 0x1122 0x00 2 ∷ pointer 0x1122_3344 0x00 4 ∷ pointer 0x100 0x00 1
    ∷ pointer 0 0x00 6
    ∷ pointer 0x1004 0x10 2 ∷ pointer 0x1122 0x02 8 ∷ []
    ≡ Ok (0x11 ∷ []) ∷ Ok (0x22 ∷ 0x11 ∷ []) ∷ Ok (0x44 ∷ 0x33 ∷ 0x22 ∷ 0x11 ∷ []) ∷ Err ValueTooLarge
    ∷ Err (UnsupportedWordSize 6) ∷ Ok (0 ∷ 0x10 ∷ [])
    ∷ Ok (0x22 ∷ 0x11 ∷ []) ∷ []
unfolding uleb sleb sleb_within
absolute_pointers = refl

-- a relative one is less by the bytes before it
pub relative_pointers : pointer 0x10 0x1b 8 ∷ pointer 4 0x11 8 ∷ pointer 0x1004 0x12 8 ∷ pointer 0x8003 0x1a 8
    ∷ pointer 0x8004 0x1a 8 ∷ pointer 0x1_0004 0x12 8
    ∷ []
    ≡ Ok (0x0c ∷ 0 ∷ 0 ∷ 0 ∷ []) ∷ Ok (0 ∷ []) ∷ Ok (0 ∷ 0x10 ∷ []) ∷ Ok (0xff ∷ 0x7f ∷ []) ∷ Err ValueTooLarge
    ∷ Err ValueTooLarge ∷ []
unfolding uleb sleb sleb_within
relative_pointers = refl

-- what goes below 0 begins anew at the top of 64 bits, and fits the signed formats, and eight bytes
pub pointers_back : pointer 0 0x1b 8 ∷ pointer 3 0x19 8 ∷ pointer 0 0x14 8 ∷ pointer 0 0x12 8 ∷ pointer 0 0x13 8 ∷ []
    ≡ Ok (0xfc ∷ replicate 3 0xff) ∷ Ok (0x7f ∷ []) ∷ Ok (0xfc ∷ replicate 7 0xff) ∷ Err ValueTooLarge
    ∷ Err ValueTooLarge ∷ []
unfolding uleb sleb sleb_within
pointers_back = refl

-- the bit 0x80 says that a pointer to the pointer is written, and changes nothing
pub indirect_pointers : pointer 0x10 0x9b 8 ∷ pointer 0x1122 0x82 8 ∷ pointer 0 0xb0 8 ∷ []
    ≡ Ok (0x0c ∷ 0 ∷ 0 ∷ 0 ∷ []) ∷ Ok (0x22 ∷ 0x11 ∷ []) ∷ Err (UnsupportedPointerEncoding (encoding 0xb0)) ∷ []
unfolding uleb sleb sleb_within
indirect_pointers = refl

-- relative to the text, to data, to a function; aligned; and two that are none
pub other_pointers : map (λ code. pointer 0 code 8) (0x20 ∷ 0x30 ∷ 0x40 ∷ 0x50 ∷ 0x60 ∷ 0x70 ∷ 0x2b ∷ 0xff ∷ [])
    ≡ map (λ code. Err (UnsupportedPointerEncoding (encoding code)))
    (0x20 ∷ 0x30 ∷ 0x40 ∷ 0x50 ∷ 0x60 ∷ 0x70 ∷ 0x2b ∷ 0xff ∷ [])
unfolding uleb sleb sleb_within
other_pointers = refl

-- of an encoding with a format that is none the format is told
pub formats_of_pointers : map (λ code. pointer 0 code 8) (0x05 ∷ 0x1f ∷ [])
    ≡ map (λ code. Err (UnsupportedPointerEncoding (encoding code))) (0x05 ∷ 0x0f ∷ [])
unfolding uleb sleb sleb_within
formats_of_pointers = refl

-- a symbol is refused first
pub pointers_to_symbols : map (λ code. pointer_at_end false [] (Symbol 0 (pos 0)) (encoding code) 8)
    (0x00 ∷ 0x1b ∷ 0x30 ∷ 0x05 ∷ 0x9b ∷ [])
    ≡ replicate 5 (Err InvalidAddress)
pointers_to_symbols = refl

-- ---- bytes over others

abbrev five : List ℕ
five = 1 ∷ 2 ∷ 3 ∷ 4 ∷ 5 ∷ []

-- a place may be the end, and nothing passes the end
pub overwritten : overwrite_of five 0 (6 ∷ 7 ∷ []) ∷ overwrite_of five 3 (8 ∷ 9 ∷ []) ∷ overwrite_of five 5 []
    ∷ overwrite_of five 4 (6 ∷ 7 ∷ [])
    ∷ overwrite_of five 5 (6 ∷ [])
    ∷ overwrite_of five 6 [] ∷ []
    ≡ Ok (6 ∷ 7 ∷ 3 ∷ 4 ∷ 5 ∷ []) ∷ Ok (1 ∷ 2 ∷ 3 ∷ 8 ∷ 9 ∷ []) ∷ Ok five ∷ Err LengthOutOfBounds
    ∷ Err LengthOutOfBounds ∷ Err OffsetOutOfBounds ∷ []
overwritten = refl

pub overwritten_nothing : overwrite_of [] 0 [] ∷ overwrite_of [] 1 [] ∷ [] ≡ Ok [] ∷ Err OffsetOutOfBounds ∷ []
overwritten_nothing = refl

-- the value and the size are looked at before the place
pub numbers_over_others : patch (udata false 0xffff 2) five 1 ∷ patch (udata false 0x10 1) [] 9
    ∷ patch (udata false 0x100 1) [] 9
    ∷ patch (udata false 0 5) [] 9 ∷ []
    ≡ Ok (1 ∷ 0xff ∷ 0xff ∷ 4 ∷ 5 ∷ []) ∷ Err OffsetOutOfBounds ∷ Err ValueTooLarge ∷ Err (UnsupportedWordSize 5) ∷ []
numbers_over_others = refl

-- ---- string tables

abbrev one_two : List (List ℕ)
one_two = codes "one" ∷ codes "two" ∷ []

-- one, two, the empty text, and one again
pub texts_added : with_text (with_text (with_text (with_text [] (codes "one")) (codes "two")) []) (codes "one")
    ≡ one_two ++ [] ∷ []
texts_added = refl

pub ids_of_texts : map (index_of_text (one_two ++ [] ∷ [])) (codes "one" ∷ codes "two" ∷ [] ∷ codes "on" ∷ [])
    ≡ 0 ∷ 1 ∷ 2 ∷ 3 ∷ []
ids_of_texts = refl

-- each text has its zero byte
pub offsets_of_texts : map (offset_of (one_two ++ [] ∷ [])) (0 ∷ 1 ∷ 2 ∷ 3 ∷ []) ≡ 0 ∷ 4 ∷ 8 ∷ 9 ∷ []
offsets_of_texts = refl

pub bytes_of_a_table : table_bytes (one_two ++ [] ∷ []) ≡ codes "one" ++ 0 ∷ codes "two" ++ 0 ∷ 0 ∷ []
bytes_of_a_table = refl

pub count_of_bytes : map byte_count ([] ∷ one_two ∷ (one_two ++ [] ∷ []) ∷ []) ≡ 0 ∷ 8 ∷ 9 ∷ []
count_of_bytes = refl

-- ---- pieces

-- all are full but the last
pub pieces_of_four : ArePieces 4 five ((1 ∷ 2 ∷ 3 ∷ 4 ∷ []) ∷ (5 ∷ []) ∷ [])
pieces_of_four = record { joined = refl; sizes = (refl, (omega arith, omega arith)) }

pub pieces_in_use : in_use 5 ((1 ∷ 2 ∷ 3 ∷ 4 ∷ []) ∷ (5 ∷ 0 ∷ 0 ∷ 0 ∷ []) ∷ []) ≡ (1 ∷ 2 ∷ 3 ∷ 4 ∷ []) ∷ (5 ∷ []) ∷ []
pieces_in_use = refl

pub room_in_the_last_piece : NeedsNoPiece 4 1 3
room_in_the_last_piece = refl

-- ---- what a linker completes

-- one byte, and whether addends stand in the list or in place
abbrev begun : Addends → Relocatable
begun addends = record { bytes = 0xaa ∷ []; is_big = false; relocations = []; addends = addends }

abbrev refusal_of : Call → Result Relocatable Error
refusal_of call = after_calls (begun Listed) (AddressOf (Symbol 3 (pos 5)) 4 ∷ call ∷ [])

pub addend_in_the_list : after_calls (begun Listed) (AddressOf (Symbol 3 (negsuc 3)) 4 ∷ [])
    ≡ Ok (record (begun Listed) {
      bytes = 0xaa ∷ replicate 4 0;
      relocations = record { offset = 1; size = 4; target = OfSymbol 3; addend = negsuc 3 } ∷ [];
    })
addend_in_the_list = refl

pub addend_in_place : after_calls (begun InPlace) (AddressOf (Symbol 3 (negsuc 3)) 4 ∷ [])
    ≡ Ok
    (record
    (begun InPlace) {
      bytes = 0xaa ∷ 0xfc ∷ replicate 3 0xff;
      relocations = record { offset = 1; size = 4; target = OfSymbol 3; addend = pos 0 } ∷ [];
    })
addend_in_place = refl

pub offset_in_the_list : after_calls (begun Listed) (OffsetInto DebugStr 7 4 ∷ ReferenceTo 2 1 ∷ [])
    ≡ Ok (record (begun Listed) {
      bytes = 0xaa ∷ replicate 5 0;
      relocations = record { offset = 1; size = 4; target = OfSection DebugStr; addend = pos 7 }
          ∷ record { offset = 5; size = 1; target = OfSymbol 2; addend = pos 0 }
          ∷ [];
    })
offset_in_the_list = refl

-- nothing is written over a place that the linker fills in: the place stands from 1 to 4
pub places_stand : map refusal_of
    (BytesAt 1 (0 ∷ []) ∷ BytesAt 4 (0 ∷ []) ∷ BytesAt 0 (0 ∷ 0 ∷ []) ∷ OffsetAt 1 DebugStr 0 4 ∷ [])
    ≡ replicate 4 (Err InvalidRange)
places_stand = refl

pub sizes_of_no_place : map refusal_of (AddressOf (Symbol 3 (pos 0)) 6 ∷ OffsetInto DebugStr 0 0 ∷ ReferenceTo 3 5 ∷ [])
    ≡ Err (UnsupportedWordSize 6) ∷ Err (UnsupportedWordSize 0) ∷ Err (UnsupportedWordSize 5) ∷ []
sizes_of_no_place = refl

-- symbols at 0x401000; a linker that merges texts puts 3 at 0x20, and 0 at 0x23
abbrev there : Placement
there = record { symbol = λ n. 0x401000; section = λ s n. 0x23 - n }

-- a linker adds what stands in the list and what stands in place
pub completed : map (λ addends. applied there (record (begun addends) {
  bytes = 0xaa ∷ 4 ∷ 0 ∷ 0 ∷ 0 ∷ [];
  relocations = record { offset = 1; size = 4; target = OfSymbol 3; addend = pos 1 } ∷ [];
})) (Listed ∷ InPlace ∷ []) ≡ replicate 2 (0xaa ∷ 0x05 ∷ 0x10 ∷ 0x40 ∷ 0 ∷ [])
completed = refl

-- and puts what an offset becomes
pub completed_offset : map (λ addends. result_map (applied there) (after_calls (begun addends)
    (OffsetInto DebugStr 3 1 ∷ OffsetInto DebugStr 0 1 ∷ []))) (Listed ∷ InPlace ∷ [])
    ≡ replicate 2 (Ok (0xaa ∷ 0x20 ∷ 0x23 ∷ []))
completed_offset = refl

-- of a sum the lowest bytes
pub placed_symbols : placed_address there false (Symbol 3 (negsuc 3)) 4
    ∷ placed_address there false (Symbol 3 (pos 0)) 2
    ∷ placed_address there false (Constant 5) 2 ∷ []
    ≡ Ok (0xfc ∷ 0x0f ∷ 0x40 ∷ 0 ∷ []) ∷ Ok (0 ∷ 0x10 ∷ []) ∷ Ok (5 ∷ 0 ∷ []) ∷ []
placed_symbols = refl
