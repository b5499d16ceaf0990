-- How a file notes its numbers (System V ABI, chapter 4: `e_ident`, and the sizes of the types).
use Rattle.std.specs.Prelude.{ℕ, ◌+◌, ◌%◌, ◌^◌, List, [], ◌∷◌, ◌++◌, length, take, drop}
use Rattle.std.specs.Prelude.{slice_index, nat_eq, nat_lt, not, if◌then◌else◌, Result, Ok, Err}
use Rattle.std.specs.List.{starts_with}
use Rattle.gimli_core.specs.Numbers.{value_of, number_bytes}
use Rattle.gimli_core.specs.Order.{is_big_endian}
use Rattle.gimli_core.specs.declared.endianity.RunTimeEndian.{RunTimeEndian}
use Rattle.gimli_core.specs.declared.endianity.RunTimeEndian.TheVariants.{Little, Big}
use Rattle.elf_sections.specs.Steps.{◌>>=◌}
use Rattle.elf_sections.specs.declared.error.ElfError.{ElfError}
use Rattle.elf_sections.specs.declared.error.ElfError.TheVariants.{
  NotElf,
  HeaderCut,
  Class as UnknownClass,
  ByteOrder as UnknownOrder,
  Version as UnknownVersion,
}
use Rattle.elf_sections.specs.declared.layout.Class.{Class}
use Rattle.elf_sections.specs.declared.layout.Class.TheVariants.{Elf32, Elf64}
use Rattle.elf_sections.specs.declared.layout.Layout.{Layout}

-- the bytes of an address, and of an offset
abbrev pub address_size : Class → ℕ
address_size Elf32 = 4
address_size Elf64 = 8

-- the number in so many bytes at an offset
abbrev pub number_at : Layout → ℕ → ℕ → List ℕ → ℕ
number_at layout size offset bytes =
    value_of (is_big_endian layout.order) (take size (drop offset bytes))

-- the bytes in which the lowest so many bytes of a number stand at an offset
abbrev pub with_number : Layout → ℕ → ℕ → ℕ → List ℕ → List ℕ
with_number layout size offset n bytes =
    take offset bytes ++ number_bytes (is_big_endian layout.order) size (n % 256 ^ size)
    ++ drop (offset + size) bytes

-- the bytes that each file begins with: 7f, E, L and F
abbrev pub magic : List ℕ
magic = 0x7f ∷ 0x45 ∷ 0x4c ∷ 0x46 ∷ []

-- EI_CLASS
abbrev pub class_of : ℕ → Result Class ElfError
class_of n =
    if nat_eq n 1 then Ok Elf32 else (if nat_eq n 2 then Ok Elf64 else Err (UnknownClass n))

-- EI_DATA
abbrev pub order_of : ℕ → Result RunTimeEndian ElfError
order_of n = if nat_eq n 1 then Ok Little else (if nat_eq n 2 then Ok Big else Err (UnknownOrder n))

-- how the numbers of a file are noted, by its first 16 bytes (e_ident)
abbrev pub layout_at : List ℕ → Result Layout ElfError
layout_at bytes =
    if not (starts_with nat_eq bytes magic) then Err NotElf
    else (if nat_lt (length bytes) 16 then Err HeaderCut
    else (class_of (slice_index bytes 4) >>= λ class.
    order_of (slice_index bytes 5) >>= λ order.
    if nat_eq (slice_index bytes 6) 1 then Ok (record { class = class; order = order })
    else Err (UnknownVersion (slice_index bytes 6))))
