-- How a writer writes what it may leave to a linker: addresses, offsets into sections, and
-- references to symbols.
use Rattle.std.specs.Prelude.{if◌then◌else◌, ℕ, Bool, List, Result, Ok, Err, nat_eq}
use Rattle.gimli_bytes.specs
use specs.Prelude.{number_bytes, SectionId}
use specs.Number.{udata, address_bytes}
use specs.declared.address.Address.{Address}
use specs.declared.error.Error.{Error}
use specs.declared.error.Error.TheVariants.{InvalidReference}

-- the address of each symbol, and what each offset into a section becomes: it counts from where the
-- section begins; or a linker that merges texts moves each by itself
pub record Placement : Type 0 where
  pub symbol : ℕ → ℕ
  pub section : SectionId → ℕ → ℕ

-- each offset as it is
abbrev pub unplaced : Placement
unplaced = record { symbol = λ symbol. 0; section = λ section n. n }

-- the bytes of an address, of an offset into a section and of a reference to a symbol, each with
-- whether the most significant byte comes first and with its size
pub record Hand : Type 0 where
  pub address : Bool → Address → ℕ → Result (List ℕ) Error
  pub offset : Bool → SectionId → ℕ → ℕ → Result (List ℕ) Error
  pub reference : Bool → ℕ → ℕ → Result (List ℕ) Error

-- an offset in a section, or a length, of a size: eight bytes hold each
abbrev pub section_word : Bool → ℕ → ℕ → Result (List ℕ) Error
section_word is_big n size =
    if nat_eq size 8 then Ok (number_bytes is_big 8 n) else udata is_big n size

-- an offset into a section, as the number that it is
abbrev pub plain_offset : Bool → SectionId → ℕ → ℕ → Result (List ℕ) Error
plain_offset is_big section n size = section_word is_big n size

-- a reference to a symbol, which is no number
abbrev pub plain_reference : Bool → ℕ → ℕ → Result (List ℕ) Error
plain_reference is_big symbol size = Err InvalidReference

-- as numbers; a symbol has none
abbrev pub plain : Hand
plain = record {
  address = address_bytes;
  offset = plain_offset;
  reference = plain_reference;
}
