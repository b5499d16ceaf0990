-- The bytes of a number as it is written, or the refusal of its value or its size. "is_big" says
-- that the most significant byte comes first.
use Rattle.std.specs.Prelude.{
  ◌+◌,
  ◌-◌,
  ◌*◌,
  ◌/◌,
  ◌%◌,
  ◌^◌,
  ◌||◌,
  if◌then◌else◌,
  ◌∷◌,
  ◌++◌,
  ℕ,
  zero,
  suc,
  Bool,
  nat_lt,
  nat_eq,
  List,
  [],
  length,
  Result,
  Ok,
  Err,
  ℤ,
  pos,
  negsuc,
  bit_and,
}
use Rattle.gimli_bytes.specs
use specs.Prelude.{number_bytes, result_map}
use Rattle.std.specs.Int.{w64, cast_signed}
use Rattle.gimli_core.specs.declared.common.Format.{Format}
use Rattle.gimli_core.specs.declared.common.Format.TheVariants.{Dwarf32, Dwarf64}
use Rattle.gimli_core.specs.declared.constants.DwEhPe.{DwEhPe}
use specs.declared.address.Address.{Address}
use specs.declared.address.Address.TheVariants.{Constant, Symbol}
use specs.declared.error.Error.{Error}
use specs.declared.error.Error.TheVariants.{
  ValueTooLarge,
  UnsupportedWordSize,
  InitialLengthOverflow,
  InvalidAddress,
  UnsupportedPointerEncoding,
}

-- ---- numbers of a size that is handed (DWARF 5, section 7.5.5)

-- an unsigned number of 1, 2, 3, 4 or 8 bytes
abbrev pub udata : Bool → ℕ → ℕ → Result (List ℕ) Error
udata is_big n size =
    if nat_eq size 1 || nat_eq size 2 || nat_eq size 3 || nat_eq size 4 || nat_eq size 8
    then (if nat_lt n (256 ^ size) then Ok (number_bytes is_big size n) else Err ValueTooLarge)
    else Err (UnsupportedWordSize size)

-- the number of so many bytes that stands for z in two's complement
abbrev pub twos_complement : ℕ → ℤ → Result ℕ Error
twos_complement size (pos n) = if nat_lt n (2 ^ (8 * size - 1)) then Ok n else Err ValueTooLarge
twos_complement size (negsuc n) =
    if nat_lt n (2 ^ (8 * size - 1)) then Ok (2 ^ (8 * size) - suc n) else Err ValueTooLarge

-- a signed number of 1, 2, 4 or 8 bytes
abbrev pub sdata : Bool → ℤ → ℕ → Result (List ℕ) Error
sdata is_big z size =
    if nat_eq size 1 || nat_eq size 2 || nat_eq size 4 || nat_eq size 8
    then result_map (number_bytes is_big size) (twos_complement size z)
    else Err (UnsupportedWordSize size)

-- ---- LEB128 (DWARF 5, section 7.6)

-- seven bits a byte, the least significant first, until nothing is left; at most so many bytes
-- before the last
abbrev pub uleb_within : ℕ → ℕ → List ℕ
uleb_within zero n = n % 128 ∷ []
uleb_within (suc more) n =
    if nat_lt n 128 then n ∷ [] else (n % 128 + 128) ∷ uleb_within more (n / 128)

-- an unsigned number of 64 bits
unfoldable pub uleb : ℕ → List ℕ
uleb n = uleb_within 9 n

-- the lowest seven bits of a signed number, in two's complement
abbrev pub low_bits : ℤ → ℕ
low_bits (pos n) = n % 128
low_bits (negsuc n) = 127 - n % 128

-- the bits above them
abbrev pub high_bits : ℤ → ℤ
high_bits (pos n) = pos (n / 128)
high_bits (negsuc n) = negsuc (n / 128)

-- seven bits hold the number, with its sign
abbrev pub has_seven_bits : ℤ → Bool
has_seven_bits (pos n) = nat_lt n 64
has_seven_bits (negsuc n) = nat_lt n 64

-- seven bits a byte, the least significant first, until no more than the sign is left; at most so
-- many bytes before the last
unfoldable pub sleb_within : ℕ → ℤ → List ℕ
sleb_within zero z = low_bits z ∷ []
sleb_within (suc more) z =
    if has_seven_bits z then low_bits z ∷ []
    else (low_bits z + 128) ∷ sleb_within more (high_bits z)

-- a signed number of 64 bits
unfoldable pub sleb : ℤ → List ℕ
sleb z = sleb_within 9 z

-- ---- addresses

-- an address of a size: what a symbol stands for isn't known
abbrev pub address_bytes : Bool → Address → ℕ → Result (List ℕ) Error
address_bytes is_big (Constant n) size = udata is_big n size
address_bytes is_big (Symbol symbol addend) size = Err InvalidAddress

-- ---- initial lengths (DWARF 5, section 7.4)

-- how many bytes stand before the word of a length
abbrev pub escape_size : Format → ℕ
escape_size Dwarf32 = 0
escape_size Dwarf64 = 4

-- a length whose word is still 0
abbrev pub open_length : Bool → Format → List ℕ
open_length is_big Dwarf32 = number_bytes is_big 4 0
open_length is_big Dwarf64 = number_bytes is_big 4 0xffff_ffff ++ number_bytes is_big 8 0

-- the word of a length: in the 32-bit format the greatest sixteen words are reserved
abbrev pub length_word : Bool → Format → ℕ → Result (List ℕ) Error
length_word is_big Dwarf32 n =
    if nat_lt n 0xffff_fff0 then Ok (number_bytes is_big 4 n)
    else (if nat_lt n (2 ^ 32) then Err InitialLengthOverflow else Err ValueTooLarge)
length_word is_big Dwarf64 n = Ok (number_bytes is_big 8 n)

-- ---- pointers of .eh_frame

-- the formats of a pointer, and how it is applied (Linux Standard Base,
-- "DWARF Exception Header Encoding"): an address of the target
abbrev pub DW_EH_PE_absptr : ℕ
DW_EH_PE_absptr = 0x00

-- an unsigned LEB128 number
abbrev pub DW_EH_PE_uleb128 : ℕ
DW_EH_PE_uleb128 = 0x01

-- an unsigned number of two bytes
abbrev pub DW_EH_PE_udata2 : ℕ
DW_EH_PE_udata2 = 0x02

-- of four bytes
abbrev pub DW_EH_PE_udata4 : ℕ
DW_EH_PE_udata4 = 0x03

-- of eight bytes
abbrev pub DW_EH_PE_udata8 : ℕ
DW_EH_PE_udata8 = 0x04

-- a signed LEB128 number
abbrev pub DW_EH_PE_sleb128 : ℕ
DW_EH_PE_sleb128 = 0x09

-- a signed number of two bytes
abbrev pub DW_EH_PE_sdata2 : ℕ
DW_EH_PE_sdata2 = 0x0a

-- of four bytes
abbrev pub DW_EH_PE_sdata4 : ℕ
DW_EH_PE_sdata4 = 0x0b

-- of eight bytes
abbrev pub DW_EH_PE_sdata8 : ℕ
DW_EH_PE_sdata8 = 0x0c

-- the application: the number counts from the place where it stands
abbrev pub DW_EH_PE_pcrel : ℕ
DW_EH_PE_pcrel = 0x10

-- a value in a pointer format; the size is that of the format absptr
abbrev pub pointer_data : Bool → ℕ → DwEhPe → ℕ → Result (List ℕ) Error
pointer_data is_big n format size =
    if nat_eq format.0 DW_EH_PE_absptr then udata is_big n size
    else (if nat_eq format.0 DW_EH_PE_uleb128 then Ok (uleb n)
    else (if nat_eq format.0 DW_EH_PE_udata2 then udata is_big n 2
    else (if nat_eq format.0 DW_EH_PE_udata4 then udata is_big n 4
    else (if nat_eq format.0 DW_EH_PE_udata8 then udata is_big n 8
    else (if nat_eq format.0 DW_EH_PE_sleb128 then Ok (sleb (cast_signed w64 n))
    else (if nat_eq format.0 DW_EH_PE_sdata2 then sdata is_big (cast_signed w64 n) 2
    else (if nat_eq format.0 DW_EH_PE_sdata4 then sdata is_big (cast_signed w64 n) 4
    else (if nat_eq format.0 DW_EH_PE_sdata8 then sdata is_big (cast_signed w64 n) 8
    else Err (UnsupportedPointerEncoding format)))))))))

-- the format of an encoding: its low four bits
abbrev pub format_of : DwEhPe → DwEhPe
format_of encoding = record { 0 = bit_and encoding.0 0x0f }

-- an address in a pointer encoding, as it is or relative to the place where it is written; the bit
-- 0x80 (indirect) isn't looked at
abbrev pub pointer_bytes : Bool → ℕ → Address → DwEhPe → ℕ → Result (List ℕ) Error
pointer_bytes is_big place (Constant n) encoding size =
    if nat_eq (bit_and encoding.0 0x70) DW_EH_PE_absptr
    then pointer_data is_big n (format_of encoding) size
    else (if nat_eq (bit_and encoding.0 0x70) DW_EH_PE_pcrel
    then pointer_data is_big ((n + (2 ^ 64 - place)) % 2 ^ 64) (format_of encoding) size
    else Err (UnsupportedPointerEncoding encoding))
pointer_bytes is_big place (Symbol symbol addend) encoding size = Err InvalidAddress

-- the same for an address that is written after these bytes
abbrev pub pointer_at_end : Bool → List ℕ → Address → DwEhPe → ℕ → Result (List ℕ) Error
pointer_at_end is_big old address encoding size =
    pointer_bytes is_big (length old) address encoding size
