-- The header of an index, its first 48 bytes (docs/reference/INDEX.md, "Header"), and its numbers:
-- the least significant byte comes first.
use Rattle.std.specs.Prelude.{ℕ, List, take, drop, Result, Ok, Err, ◌+◌, [], ◌∷◌, length, nat_eq}
use Rattle.std.specs.Prelude.{nat_lt, not, if◌then◌else◌}
use Rattle.gimli_core.specs.Numbers.{le_value, is_address_size}
pub use Rattle.gimli_core.specs.Results.{◌>>=◌}
use Rattle.std.specs.List.{starts_with}
use Rattle.gimli_index.specs.declared.error.IndexError.{IndexError}
use Rattle.gimli_index.specs.declared.error.IndexError.TheVariants.{NotIndex, HeaderCut, Version}
use Rattle.gimli_index.specs.declared.error.IndexError.TheVariants.{AddressSize}
use Rattle.gimli_index.specs.declared.error.IndexError.TheVariants.{StartSize as UnknownStartSize}
use Rattle.gimli_index.specs.declared.error.IndexError.TheVariants.{Base}
use Rattle.gimli_index.specs.declared.header.Header.{Header}
use Rattle.gimli_index.specs.declared.header.StartSize.{StartSize}
use Rattle.gimli_index.specs.declared.header.StartSize.TheVariants.{Four, Eight}

-- the number in so many bytes at an offset
abbrev pub number_at : ℕ → ℕ → List ℕ → ℕ
number_at size offset bytes = le_value (take size (drop offset bytes))

-- the bytes that each index begins with: those of LINEIDX, and a zero byte
abbrev pub magic : List ℕ
magic = 0x4c ∷ 0x49 ∷ 0x4e ∷ 0x45 ∷ 0x49 ∷ 0x44 ∷ 0x58 ∷ 0 ∷ []

-- the bytes of a start
abbrev pub size_of : StartSize → ℕ
size_of Four = 4
size_of Eight = 8

-- the bytes of a statement: the number of its source, its line, and its address as far as it is
-- above the base
abbrev pub statement_size : StartSize → ℕ
statement_size size = 8 + size_of size

-- the highest base: what it and any start come to is an address of 64 bits
abbrev pub highest_base : StartSize → ℕ
highest_base Four = 0xffff_ffff_0000_0000
highest_base Eight = 0

-- ---- the fields

-- the bytes of an address; other sizes are refused
abbrev pub address_size_of : ℕ → Result ℕ IndexError
address_size_of n = if is_address_size n then Ok n else Err (AddressSize n)

-- the bytes of a start; other sizes are refused
abbrev pub start_size_of : ℕ → Result StartSize IndexError
start_size_of n =
    if nat_eq n 4 then Ok Four else (if nat_eq n 8 then Ok Eight else Err (UnknownStartSize n))

-- the base, up to the highest one
abbrev pub base_of : StartSize → ℕ → Result ℕ IndexError
base_of size n = if nat_lt (highest_base size) n then Err (Base n) else Ok n

-- the fields after the version
abbrev pub fields_at : List ℕ → Result Header IndexError
fields_at bytes =
    address_size_of (number_at 2 12 bytes) >>= λ address_size.
    start_size_of (number_at 2 14 bytes) >>= λ start_size.
    base_of start_size (number_at 8 16 bytes) >>= λ base.
    Ok (record {
      address_size = address_size;
      start_size = start_size;
      base = base;
      starts = number_at 4 24 bytes;
      sources = number_at 4 28 bytes;
      paths = number_at 4 32 bytes;
      identity = number_at 4 36 bytes;
      statements = number_at 4 40 bytes;
    })

-- the header that bytes begin with
abbrev pub header_at : List ℕ → Result Header IndexError
header_at bytes =
    if not (starts_with nat_eq bytes magic) then Err NotIndex
    else (if nat_lt (length bytes) 48 then Err HeaderCut
    else (if nat_eq (number_at 4 8 bytes) 2 then fields_at bytes
    else Err (Version (number_at 4 8 bytes))))
