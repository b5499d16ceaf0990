-- Worked calls of readers: what each takes from the front of bytes and what it leaves, by hand,
-- computed from the definitions.
use Rattle.std.proofs.Common.{◌≡◌, ℕ, true, false, List, [], ◌∷◌, ◌++◌, Option, Some, None, Ok, Err, refl}
use Rattle.std.specs.Map.{lookup}
use Rattle.std.specs.Prelude.{pos, negsuc, map, replicate, codes, not, nat_eq}
use Rattle.gimli_core.specs
use specs.Numbers.{value_of, number_bytes, word_size, initial_length_size}
use specs.Layout.{layout_of}
use specs.Production.{signed_byte, offset_word, unit_length, address_size}
use specs.Reading.{split_at, skip_at, truncate_at, find_at, text_at, byte_at}
use specs.Reading.{number_at, uleb_at, unsigned_at}
use specs.Reading.{sleb_at, signed_at, sized_sum}
use specs.Order.{is_big_endian}
use specs.Values.{Value, udata_value}
use specs.Form.{Shape, fixed, three_bytes, word_offset, leb, signed_leb, leb_offset, block, counted, leb_counted}
use specs.Form.{string, index, shapes}
use specs.declared.attribute_value.AttributeValue.TheVariants.{Block, Data1, Data2, Data4, Data8}
use specs.declared.attribute_value.AttributeValue.TheVariants.{Udata, Sdata, Flag, SecOffset, String}
use specs.declared.attribute_value.AttributeValue.TheVariants.{
  DebugStrRef,
  DebugStrRefSup,
  DebugLineStrRef,
}
use specs.declared.common.Format.TheVariants.{Dwarf32, Dwarf64}
use specs.declared.endianity.RunTimeEndian.TheVariants.{Little, Big}
use specs.declared.error.Error.{Error}
use specs.declared.error.Error.TheVariants.{UnexpectedEof, BadUnsignedLeb128, BadSignedLeb128, UnknownReservedLength}
use specs.declared.error.Error.TheVariants.{UnsupportedAddressSize, UnsupportedOffset, AddressOverflow}

-- bytes are missing, and so many are there
abbrev missing : ℕ → Error
missing n = UnexpectedEof (record { 0 = n })

-- so many times a byte, and others after them
abbrev run : ℕ → ℕ → List ℕ → List ℕ
run n byte others = replicate n byte ++ others

-- offsets of 64 bits, and of 32
abbrev wide : ℕ
wide = 0x1_0000_0000_0000_0000

abbrev narrow : ℕ
narrow = 0x1_0000_0000

-- ---- bytes

pub bytes : map byte_at ((0xfe ∷ 1 ∷ []) ∷ (0 ∷ []) ∷ [] ∷ [])
    ≡ (Ok 254, 1 ∷ []) ∷ (Ok 0, []) ∷ (Err (missing 0), []) ∷ []
bytes = refl

pub signed_bytes : map signed_byte.read ((0x7f ∷ []) ∷ (0x80 ∷ []) ∷ (0xfe ∷ 1 ∷ []) ∷ [] ∷ [])
    ≡ (Ok (pos 127), []) ∷ (Ok (negsuc 127), []) ∷ (Ok (negsuc 1), 1 ∷ []) ∷ (Err (missing 0), []) ∷ []
signed_bytes = refl

pub sixteen_bytes : map (split_at 16) (run 16 7 (1 ∷ []) ∷ replicate 15 7 ∷ [])
    ≡ (Ok (replicate 16 7), 1 ∷ []) ∷ (Err (missing 15), replicate 15 7) ∷ []
sixteen_bytes = refl

pub no_bytes_taken : split_at 0 (1 ∷ []) ≡ (Ok [], 1 ∷ [])
no_bytes_taken = refl

pub skipped : map (skip_at 2) ((1 ∷ 2 ∷ 3 ∷ []) ∷ (1 ∷ 2 ∷ []) ∷ (1 ∷ []) ∷ [])
    ≡ (Ok tt, 3 ∷ []) ∷ (Ok tt, []) ∷ (Err (missing 1), 1 ∷ []) ∷ []
skipped = refl

pub truncated : map (truncate_at 2) ((1 ∷ 2 ∷ 3 ∷ []) ∷ (1 ∷ 2 ∷ []) ∷ (1 ∷ []) ∷ [])
    ≡ (Ok tt, 1 ∷ 2 ∷ []) ∷ (Ok tt, 1 ∷ 2 ∷ []) ∷ (Err (missing 1), 1 ∷ []) ∷ []
truncated = refl

-- the first such byte
pub found : map (λ byte. find_at byte (5 ∷ 6 ∷ 0 ∷ 6 ∷ [])) (5 ∷ 6 ∷ 0 ∷ 9 ∷ [])
    ≡ Ok 0 ∷ Ok 1 ∷ Ok 2 ∷ Err (missing 4) ∷ []
found = refl

-- the zero byte goes too
pub texts : map text_at ((codes "a.c" ++ 0 ∷ 0x62 ∷ []) ∷ (0 ∷ []) ∷ codes "a.c" ∷ [] ∷ [])
    ≡ (Ok (codes "a.c"), 0x62 ∷ []) ∷ (Ok [], []) ∷ (Err (missing 3), codes "a.c") ∷ (Err (missing 0), []) ∷ []
texts = refl

-- ---- numbers of a size

pub orders : is_big_endian Little ∷ is_big_endian Big ∷ [] ≡ false ∷ true ∷ []
orders = refl

pub little_endian : map (λ size. number_at false size (1 ∷ 2 ∷ 3 ∷ 4 ∷ 5 ∷ 6 ∷ 7 ∷ 8 ∷ [])) (0 ∷ 1 ∷ 2 ∷ 3 ∷ 4 ∷ 8 ∷ [])
    ≡ (Ok 0, 1 ∷ 2 ∷ 3 ∷ 4 ∷ 5 ∷ 6 ∷ 7 ∷ 8 ∷ []) ∷ (Ok 1, 2 ∷ 3 ∷ 4 ∷ 5 ∷ 6 ∷ 7 ∷ 8 ∷ [])
    ∷ (Ok 0x0201, 3 ∷ 4 ∷ 5 ∷ 6 ∷ 7 ∷ 8 ∷ [])
    ∷ (Ok 0x03_0201, 4 ∷ 5 ∷ 6 ∷ 7 ∷ 8 ∷ []) ∷ (Ok 0x0403_0201, 5 ∷ 6 ∷ 7 ∷ 8 ∷ []) ∷ (Ok 0x0807_0605_0403_0201, [])
    ∷ []
little_endian = refl

pub big_endian : map (λ size. number_at true size (1 ∷ 2 ∷ 3 ∷ 4 ∷ 5 ∷ 6 ∷ 7 ∷ 8 ∷ [])) (0 ∷ 1 ∷ 2 ∷ 3 ∷ 4 ∷ 8 ∷ [])
    ≡ (Ok 0, 1 ∷ 2 ∷ 3 ∷ 4 ∷ 5 ∷ 6 ∷ 7 ∷ 8 ∷ []) ∷ (Ok 1, 2 ∷ 3 ∷ 4 ∷ 5 ∷ 6 ∷ 7 ∷ 8 ∷ [])
    ∷ (Ok 0x0102, 3 ∷ 4 ∷ 5 ∷ 6 ∷ 7 ∷ 8 ∷ [])
    ∷ (Ok 0x01_0203, 4 ∷ 5 ∷ 6 ∷ 7 ∷ 8 ∷ []) ∷ (Ok 0x0102_0304, 5 ∷ 6 ∷ 7 ∷ 8 ∷ []) ∷ (Ok 0x0102_0304_0506_0708, [])
    ∷ []
big_endian = refl

-- bytes go only where all are there
pub numbers_cut : map (λ size. number_at false size (1 ∷ [])) (2 ∷ 3 ∷ 4 ∷ 8 ∷ [])
    ≡ replicate 4 (Err (missing 1), 1 ∷ [])
numbers_cut = refl

pub sixteen_bytes_of_a_number : map (λ is_big. value_of is_big (1 ∷ run 14 0 (2 ∷ []))) (false ∷ true ∷ [])
    ≡ 0x0200_0000_0000_0000_0000_0000_0000_0001 ∷ 0x0100_0000_0000_0000_0000_0000_0000_0002 ∷ []
sixteen_bytes_of_a_number = refl

pub sixteen_bytes_for_a_number : map (λ is_big. number_bytes is_big 16 0x0100_0000_0000_0000_0000_0000_0000_0002)
    (false ∷ true ∷ [])
    ≡ (2 ∷ run 14 0 (1 ∷ [])) ∷ (1 ∷ run 14 0 (2 ∷ [])) ∷ []
sixteen_bytes_for_a_number = refl

pub bytes_of_numbers : number_bytes false 1 0x11 ∷ number_bytes false 2 0x2233 ∷ number_bytes true 2 0x2233
    ∷ number_bytes true 4 0x4455_6677 ∷ []
    ≡ (0x11 ∷ []) ∷ (0x33 ∷ 0x22 ∷ []) ∷ (0x22 ∷ 0x33 ∷ []) ∷ (0x44 ∷ 0x55 ∷ 0x66 ∷ 0x77 ∷ []) ∷ []
bytes_of_numbers = refl

-- ---- unsigned LEB128 (DWARF 5, section 7.6)

-- the examples of the standard
pub unsigned : map unsigned_at
    ((2 ∷ []) ∷ (127 ∷ []) ∷ (0x80 ∷ 1 ∷ []) ∷ (0x81 ∷ 1 ∷ []) ∷ (0x82 ∷ 1 ∷ []) ∷ (0xb9 ∷ 0x64 ∷ []) ∷ [])
    ≡ map (λ n. (Ok n, [])) (2 ∷ 127 ∷ 128 ∷ 129 ∷ 130 ∷ 12857 ∷ [])
unfolding uleb_at
unsigned = refl

pub unsigned_of_more_groups : map (λ n. unsigned_at (run n 0x80 (1 ∷ 5 ∷ []))) (0 ∷ 2 ∷ 3 ∷ 4 ∷ 8 ∷ 9 ∷ [])
    ≡ map (λ n. (Ok n, 5 ∷ []))
    (1 ∷ 0x4000 ∷ 0x20_0000 ∷ 0x1000_0000 ∷ 0x100_0000_0000_0000 ∷ 0x8000_0000_0000_0000 ∷ [])
unfolding uleb_at
unsigned_of_more_groups = refl

-- ten bytes are 64 bits; a number may be spelled longer than it needs
pub greatest_unsigned : map unsigned_at (run 9 0xff (1 ∷ []) ∷ run 8 0xff (0x7f ∷ []) ∷ run 9 0x80 (0 ∷ []) ∷ [])
    ≡ map (λ n. (Ok n, [])) (0xffff_ffff_ffff_ffff ∷ 0x7fff_ffff_ffff_ffff ∷ 0 ∷ [])
unfolding uleb_at
greatest_unsigned = refl

-- the tenth byte is at most 1
pub unsigned_too_large : map unsigned_at
    (run 9 0x80 (2 ∷ []) ∷ run 9 0x80 (0x7f ∷ []) ∷ run 9 0xff (0x81 ∷ 0 ∷ []) ∷ run 10 0x80 (1 ∷ []) ∷ [])
    ≡ (Err BadUnsignedLeb128, []) ∷ (Err BadUnsignedLeb128, []) ∷ (Err BadUnsignedLeb128, 0 ∷ [])
    ∷ (Err BadUnsignedLeb128, 1 ∷ []) ∷ []
unfolding uleb_at
unsigned_too_large = refl

pub unsigned_cut : map (λ n. unsigned_at (replicate n 0x80)) (0 ∷ 1 ∷ 9 ∷ []) ≡ replicate 3 (Err (missing 0), [])
unfolding uleb_at
unsigned_cut = refl

pub unsigned_16 : map (uleb_at 2 3) ((0xff ∷ 0x7f ∷ []) ∷ (0x80 ∷ 0x80 ∷ 1 ∷ []) ∷ (0xff ∷ 0xff ∷ 3 ∷ [])
    ∷ (0x80 ∷ 0x80 ∷ 0 ∷ []) ∷ (3 ∷ 0x55 ∷ []) ∷ [])
    ≡ (Ok 16383, []) ∷ (Ok 16384, []) ∷ (Ok 65535, []) ∷ (Ok 0, []) ∷ (Ok 3, 0x55 ∷ []) ∷ []
unfolding uleb_at
unsigned_16 = refl

-- the third byte is at most 3
pub unsigned_16_refused : map (uleb_at 2 3)
    ((0x80 ∷ 0x80 ∷ 4 ∷ []) ∷ (0xff ∷ 0xff ∷ 0x7f ∷ 1 ∷ []) ∷ (0x80 ∷ 0x80 ∷ 0x83 ∷ []) ∷ (0x80 ∷ 0x80 ∷ []) ∷ [])
    ≡ (Err BadUnsignedLeb128, []) ∷ (Err BadUnsignedLeb128, 1 ∷ []) ∷ (Err BadUnsignedLeb128, [])
    ∷ (Err (missing 0), []) ∷ []
unfolding uleb_at
unsigned_16_refused = refl

-- ---- signed LEB128 (DWARF 5, section 7.6)

-- the examples of the standard
pub signed : map signed_at ((2 ∷ []) ∷ (0x7e ∷ []) ∷ (0xff ∷ 0 ∷ []) ∷ (0x81 ∷ 0x7f ∷ []) ∷ (0x80 ∷ 1 ∷ [])
    ∷ (0x80 ∷ 0x7f ∷ []) ∷ (0xff ∷ 0x7e ∷ []) ∷ [])
    ≡ map (λ z. (Ok z, [])) (pos 2 ∷ negsuc 1 ∷ pos 127 ∷ negsuc 126 ∷ pos 128 ∷ negsuc 127 ∷ negsuc 128 ∷ [])
unfolding sleb_at
signed = refl

-- bit 6 of the last byte is the sign
pub signed_at_the_sign : map signed_at ((0x3f ∷ []) ∷ (0x40 ∷ []) ∷ (0xc0 ∷ 0 ∷ []) ∷ (0xbf ∷ 0x7f ∷ [])
    ∷ (0xff ∷ 0x3f ∷ []) ∷ (0x80 ∷ 0x40 ∷ 1 ∷ []) ∷ [])
    ≡ (Ok (pos 63), []) ∷ (Ok (negsuc 63), []) ∷ (Ok (pos 64), []) ∷ (Ok (negsuc 64), []) ∷ (Ok (pos 8191), [])
    ∷ (Ok (negsuc 8191), 1 ∷ []) ∷ []
unfolding sleb_at
signed_at_the_sign = refl

pub signed_of_nine_bytes : map signed_at (run 8 0xff (0x3f ∷ []) ∷ run 8 0x80 (0x40 ∷ []) ∷ [])
    ≡ (Ok (pos 0x3fff_ffff_ffff_ffff), []) ∷ (Ok (negsuc 0x3fff_ffff_ffff_ffff), []) ∷ []
unfolding sleb_at
signed_of_nine_bytes = refl

-- the ends of 64 bits; 0 and -1 in ten bytes
pub signed_of_ten_bytes : map signed_at
    (run 9 0xff (0 ∷ []) ∷ run 9 0x80 (0x7f ∷ []) ∷ run 9 0x80 (0 ∷ []) ∷ run 9 0xff (0x7f ∷ []) ∷ [])
    ≡ map (λ z. (Ok z, [])) (pos 0x7fff_ffff_ffff_ffff ∷ negsuc 0x7fff_ffff_ffff_ffff ∷ pos 0 ∷ negsuc 0 ∷ [])
unfolding sleb_at
signed_of_ten_bytes = refl

-- the tenth byte is 00 or 7f
pub signed_too_large : map (λ byte. signed_at (run 9 0xff (byte ∷ 5 ∷ []))) (1 ∷ 0x3f ∷ 0x40 ∷ 0x7e ∷ 0x80 ∷ 0xff ∷ [])
    ≡ replicate 6 (Err BadSignedLeb128, 5 ∷ [])
unfolding sleb_at
signed_too_large = refl

pub signed_cut : map (λ n. signed_at (replicate n 0xff)) (0 ∷ 1 ∷ 9 ∷ []) ≡ replicate 3 (Err (missing 0), [])
unfolding sleb_at
signed_cut = refl

-- ---- words, lengths and addresses

-- DWARF 5, section 7.4
pub sizes_of_words : map word_size (Dwarf32 ∷ Dwarf64 ∷ []) ≡ 4 ∷ 8 ∷ []
sizes_of_words = refl

pub sizes_of_lengths : map initial_length_size (Dwarf32 ∷ Dwarf64 ∷ []) ≡ 4 ∷ 12 ∷ []
sizes_of_lengths = refl

pub words : (offset_word (layout_of false wide) Dwarf32).read (1 ∷ 2 ∷ 3 ∷ 4 ∷ 5 ∷ [])
    ∷ (offset_word (layout_of true wide) Dwarf32).read (replicate 4 0xff)
    ∷ (offset_word (layout_of true wide) Dwarf64).read (run 4 0 (1 ∷ 2 ∷ 3 ∷ 4 ∷ [])) ∷ []
    ≡ (Ok 0x0403_0201, 5 ∷ []) ∷ (Ok 0xffff_ffff, []) ∷ (Ok 0x0102_0304, []) ∷ []
unfolding offset_word
words = refl

pub words_cut : (offset_word (layout_of true wide) Dwarf32).read (1 ∷ 2 ∷ 3 ∷ [])
    ∷ (offset_word (layout_of true wide) Dwarf64).read (replicate 7 1) ∷ []
    ≡ (Err (missing 3), 1 ∷ 2 ∷ 3 ∷ []) ∷ (Err (missing 7), replicate 7 1) ∷ []
unfolding offset_word
words_cut = refl

-- an offset of 32 bits holds no more; the bytes are taken
pub words_of_32_bits : map
    (λ limit. (offset_word (layout_of true limit) Dwarf64).read (0 ∷ 0 ∷ 0 ∷ 1 ∷ run 4 0 (9 ∷ []))) (wide ∷ narrow ∷ [])
    ≡ (Ok 0x1_0000_0000, 9 ∷ []) ∷ (Err UnsupportedOffset, 9 ∷ []) ∷ []
unfolding offset_word
words_of_32_bits = refl

pub lengths : (unit_length (layout_of false wide)).read (0x2f ∷ 0 ∷ 0 ∷ 0 ∷ 9 ∷ [])
    ∷ (unit_length (layout_of true wide)).read (0 ∷ 0 ∷ 0 ∷ 0x2f ∷ [])
    ∷ (unit_length (layout_of false wide)).read (0xef ∷ replicate 3 0xff) ∷ []
    ≡ (Ok (0x2f, Dwarf32), 9 ∷ []) ∷ (Ok (0x2f, Dwarf32), []) ∷ (Ok (0xffff_ffef, Dwarf32), []) ∷ []
unfolding unit_length
lengths = refl

pub lengths_of_64_bits : (unit_length (layout_of false wide)).read (run 4 0xff (0x1d ∷ run 7 0 (7 ∷ [])))
    ∷ (unit_length (layout_of true wide)).read (run 4 0xff (run 3 0 (1 ∷ replicate 4 0))) ∷ []
    ≡ (Ok (0x1d, Dwarf64), 7 ∷ []) ∷ (Ok (0x1_0000_0000, Dwarf64), []) ∷ []
unfolding unit_length
lengths_of_64_bits = refl

-- the words from 0xffff_fff0 to 0xffff_fffe are reserved
pub reserved_lengths : map (λ low. (unit_length (layout_of true wide)).read (run 3 0xff (low ∷ 1 ∷ [])))
    (0xf0 ∷ 0xf1 ∷ 0xf7 ∷ 0xf8 ∷ 0xfd ∷ 0xfe ∷ [])
    ≡ replicate 6 (Err UnknownReservedLength, 1 ∷ [])
unfolding unit_length
reserved_lengths = refl

pub length_of_32_bits : (unit_length (layout_of true narrow)).read (run 4 0xff (run 3 0 (1 ∷ replicate 4 0)))
    ≡ (Err UnsupportedOffset, [])
unfolding unit_length
length_of_32_bits = refl

-- what was looked at is taken
pub lengths_cut : map (unit_length (layout_of false wide)).read
    ((1 ∷ 2 ∷ []) ∷ replicate 4 0xff ∷ run 4 0xff (replicate 7 1) ∷ [])
    ≡ (Err (missing 2), 1 ∷ 2 ∷ []) ∷ (Err (missing 0), []) ∷ (Err (missing 7), replicate 7 1) ∷ []
unfolding unit_length
lengths_cut = refl

pub sizes_of_addresses : map (λ n. address_size.read (n ∷ 5 ∷ [])) (1 ∷ 2 ∷ 4 ∷ 8 ∷ [])
    ≡ map (λ n. (Ok n, 5 ∷ [])) (1 ∷ 2 ∷ 4 ∷ 8 ∷ [])
unfolding address_size
sizes_of_addresses = refl

pub no_sizes_of_addresses : map (λ n. address_size.read (n ∷ 5 ∷ [])) (0 ∷ 3 ∷ 5 ∷ 6 ∷ 7 ∷ 9 ∷ 16 ∷ 32 ∷ 255 ∷ [])
    ≡ map (λ n. (Err (UnsupportedAddressSize n), 5 ∷ [])) (0 ∷ 3 ∷ 5 ∷ 6 ∷ 7 ∷ 9 ∷ 16 ∷ 32 ∷ 255 ∷ [])
unfolding address_size
no_sizes_of_addresses = refl

pub no_byte_for_a_size : address_size.read [] ≡ (Err (missing 0), [])
unfolding address_size
no_byte_for_a_size = refl

-- an address may be the greatest of its size
pub greatest_addresses : sized_sum 0xfe 1 1 ∷ sized_sum 0xfffe 1 2 ∷ sized_sum 0xffff_fffe 1 4
    ∷ sized_sum 0xffff_ffff_ffff_fffe 1 8 ∷ []
    ≡ Ok 0xff ∷ Ok 0xffff ∷ Ok 0xffff_ffff ∷ Ok 0xffff_ffff_ffff_ffff ∷ []
greatest_addresses = refl

-- one past it is refused, and doesn't begin anew at 0; so is an address that is none of its size
pub addresses_that_overflow : sized_sum 0xff 1 1 ∷ sized_sum 0xffff 1 2 ∷ sized_sum 0xffff_ffff 1 4
    ∷ sized_sum 0xffff_ffff_ffff_ffff 1 8 ∷ sized_sum 0x100 0 1
    ∷ []
    ≡ replicate 5 (Err AddressOverflow)
addresses_that_overflow = refl

-- ---- the values of forms

abbrev unsigned_of : Value → Option ℕ
unsigned_of v = udata_value v

pub unsigned_values : map unsigned_of
    (Data1 0xff ∷ Data2 0xffff ∷ Data4 0xffff_ffff ∷ Data8 0xffff_ffff_ffff_ffff ∷ Udata 0 ∷ Sdata (pos 7)
    ∷ Sdata (pos 0) ∷ [])
    ≡ map Some (0xff ∷ 0xffff ∷ 0xffff_ffff ∷ 0xffff_ffff_ffff_ffff ∷ 0 ∷ 7 ∷ 0 ∷ [])
unsigned_values = refl

pub no_unsigned_values : map unsigned_of
    (Sdata (negsuc 0) ∷ Flag true ∷ SecOffset 1 ∷ DebugStrRef (record { 0 = 1 }) ∷ DebugStrRefSup (record { 0 = 1 })
    ∷ DebugLineStrRef (record { 0 = 1 }) ∷ index 1 ∷ Block (1 ∷ []) ∷ String (0x31 ∷ []) ∷ []) ≡ replicate 9 None
no_unsigned_values = refl

-- ---- the forms (DWARF 5, table 7.6)

abbrev shape_of : ℕ → Option Shape
shape_of form = lookup (nat_eq form) shapes

-- data1, data2, data4, data8, udata, sdata
pub forms_of_numbers : map shape_of (0x0b ∷ 0x05 ∷ 0x06 ∷ 0x07 ∷ 0x0f ∷ 0x0d ∷ [])
    ≡ Some (fixed 1 Data1) ∷ Some (fixed 2 Data2) ∷ Some (fixed 4 Data4) ∷ Some (fixed 8 Data8) ∷ Some (leb Udata)
    ∷ Some (signed_leb Sdata) ∷ []
forms_of_numbers = refl

-- block1, block2, block4, block, data16
pub forms_of_blocks : map shape_of (0x0a ∷ 0x03 ∷ 0x04 ∷ 0x09 ∷ 0x1e ∷ [])
    ≡ Some (counted 1) ∷ Some (counted 2) ∷ Some (counted 4) ∷ Some leb_counted ∷ Some (block 16) ∷ []
forms_of_blocks = refl

-- strp, strp_sup and GNU's, line_strp, sec_offset
pub forms_of_offsets : map shape_of (0x0e ∷ 0x1d ∷ 0x1f21 ∷ 0x1f ∷ 0x17 ∷ [])
    ≡ map Some (word_offset (λ n. DebugStrRef (record { 0 = n })) ∷ word_offset (λ n. DebugStrRefSup (record { 0 = n }))
    ∷ word_offset (λ n. DebugStrRefSup (record { 0 = n })) ∷ word_offset (λ n. DebugLineStrRef (record { 0 = n }))
    ∷ word_offset SecOffset ∷ [])
forms_of_offsets = refl

-- strx1 to strx4, strx and GNU's
pub forms_of_indexes : map shape_of (0x25 ∷ 0x26 ∷ 0x27 ∷ 0x28 ∷ 0x1a ∷ 0x1f02 ∷ [])
    ≡ Some (fixed 1 index) ∷ Some (fixed 2 index) ∷ Some (three_bytes index) ∷ Some (fixed 4 index)
    ∷ Some (leb_offset index) ∷ Some (leb_offset index) ∷ []
forms_of_indexes = refl

-- string; and flag, which is true for any byte but 0
pub form_of_texts_and_flags : map shape_of (0x08 ∷ 0x0c ∷ [])
    ≡ Some string ∷ Some (fixed 1 (λ n. Flag (not (nat_eq n 0)))) ∷ []
form_of_texts_and_flags = refl

-- addr, ref4, indirect, flag_present, addrx1
pub other_forms : map shape_of (0 ∷ 0x01 ∷ 0x13 ∷ 0x16 ∷ 0x19 ∷ 0x29 ∷ []) ≡ replicate 6 None
other_forms = refl
