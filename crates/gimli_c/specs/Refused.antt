-- Why an encoding that is handed over to be written is refused, and by which number (DWARF 5,
-- section 6.2.4).
use Rattle.std.specs.Prelude.{◌≡◌, ℕ, Bool, not, ◌&&◌, ◌||◌, nat_eq, nat_le, if◌then◌else◌, Option}
use Rattle.std.specs.Prelude.{Some, None}
use Rattle.gimli_build.specs.Advance.{CanEncode}
use Rattle.gimli_core.specs.Numbers.{is_address_size}
use Rattle.gimli_c.specs.declared.encoding.GimliEncoding.{GimliEncoding}
use Rattle.gimli_c.specs.Handed.{line_encoding_of}

-- the versions that are written
abbrev pub is_known_version : ℕ → Bool
is_known_version version = nat_le 2 version && nat_le version 5

-- the numbers of bytes that an offset can have: in the 32-bit format 4, in the 64-bit format 8
abbrev pub is_offset_size : ℕ → Bool
is_offset_size size = nat_eq size 4 || nat_eq size 8

-- the number by which the version or a size is refused: the first of these that is at fault
abbrev pub encoding_fault : GimliEncoding → Option ℕ
encoding_fault e =
    if not (is_known_version e.version) then Some 5
    else (if not (is_address_size e.address_size) then Some 6
    else (if not (is_offset_size e.offset_size) then Some 19
    else None))

-- the version and the sizes are well, and rows can't be written by the numbers of the line encoding
pub record HasBadLines (e : GimliEncoding) : Type 0 where
  pub well : encoding_fault e ≡ None
  pub cannot : CanEncode (line_encoding_of e) → ⊥
