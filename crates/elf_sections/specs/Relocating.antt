-- Sections of object files, once their relocations are applied (System V ABI, chapter 4,
-- "Relocation").
use Rattle.std.specs.Prelude.{ℕ, ◌+◌, ◌-◌, ◌%◌, ◌^◌, List, length, filter, slice_get, nat_eq}
use Rattle.std.specs.Prelude.{nat_lt, Bool, false, not, ◌&&◌, if◌then◌else◌, Option, Some, None}
use Rattle.std.specs.Prelude.{Result, Ok, Err}
use Rattle.std.specs.List.{position_from}
use Rattle.elf_sections.specs.ElfNumbers.{SHF_ALLOC, SHN_XINDEX}
use Rattle.elf_sections.specs.Steps.{◌>>=◌, steps}
use Rattle.elf_sections.specs.Layout.{number_at, with_number}
use Rattle.elf_sections.specs.SectionHeader.{is_active, has_flag}
use Rattle.elf_sections.specs.Compression.{has_old_name, old_name}
use Rattle.elf_sections.specs.Table.{is_name_at}
use Rattle.elf_sections.specs.File.{File, some_of, section_data_at}
use Rattle.elf_sections.specs.Relocation.{relocation, relocation_size, form_of, of_machine}
use Rattle.elf_sections.specs.Relocation.{relocates}
use Rattle.elf_sections.specs.Machine.{change_of, size_of, number_after}
use Rattle.elf_sections.specs.Entries.{entries_at, symbols_in, symbol_at}
use Rattle.elf_sections.specs.declared.error.ElfError.{ElfError}
use Rattle.elf_sections.specs.declared.error.ElfError.TheVariants.{
  RelocationOutside,
  RelocationsTooLarge,
  SymbolSection,
}
use Rattle.elf_sections.specs.declared.machine.Change.{Change}
use Rattle.elf_sections.specs.declared.machine.Change.TheVariants.{Nothing, Number}
use Rattle.elf_sections.specs.declared.machine.Operation.{Operation}
use Rattle.elf_sections.specs.declared.machine.Operation.TheVariants.{Address}
use Rattle.elf_sections.specs.declared.relocation.Form.{Form}
use Rattle.elf_sections.specs.declared.relocation.Relocation.{Relocation}
use Rattle.elf_sections.specs.declared.place.SectionPlace.{SectionPlace}
use Rattle.elf_sections.specs.declared.place.SectionPlace.TheVariants.{AllAtZero, Only}
use Rattle.elf_sections.specs.declared.section_header.SectionHeader.{SectionHeader}
use Rattle.elf_sections.specs.declared.symbol.Symbol.{Symbol}

-- ---- one entry

-- the section is in memory when the program runs
abbrev pub is_in_memory : Option SectionHeader → Bool
is_in_memory (Some header) = has_flag header SHF_ALLOC
is_in_memory None = false

-- the address of a symbol; none where it is in another section's memory than the one that counts.
-- SHN_XINDEX says that the section's index stands elsewhere
abbrev pub address_of : List SectionHeader → SectionPlace → Symbol → Result (Option ℕ) ElfError
address_of headers AllAtZero symbol = Ok (Some symbol.value)
address_of headers (Only index) symbol =
    if nat_eq symbol.section SHN_XINDEX then Err SymbolSection
    else (if not (nat_eq symbol.section index) && is_in_memory (slice_get headers symbol.section)
    then Ok None
    else Ok (Some symbol.value))

-- a number and the addend, modulo 2 ^ 64. In SHT_REL the addend is what stands at the place
abbrev pub with_addend : Option ℕ → ℕ → ℕ → ℕ
with_addend (Some addend) old n = (n + addend) % 2 ^ 64
with_addend None old n = (n + old) % 2 ^ 64

-- an address and the addend, or all ones where there is no address
abbrev pub address_value : Option ℕ → ℕ → Option ℕ → ℕ
address_value addend old (Some address) = with_addend addend old address
address_value addend old None = 2 ^ 64 - 1

-- the value that is put at the place, added or subtracted
abbrev pub value_of : Operation → List SectionHeader → SectionPlace → Symbol → Option ℕ → ℕ
    → Result ℕ ElfError
value_of Address headers place symbol addend old =
    address_of headers place symbol >>= λ address. Ok (address_value addend old address)
value_of _ headers place symbol addend old = Ok (with_addend addend old symbol.value)

-- the data, with another number at the place of an entry
abbrev pub changed : File → SectionPlace → Operation → ℕ → Relocation → Symbol → List ℕ
    → Result (List ℕ) ElfError
changed file place operation size entry symbol bytes =
    if nat_lt (length bytes) (entry.offset + size) then Err RelocationOutside
    else (let old = number_at file.layout size entry.offset bytes in
    value_of operation file.headers place symbol entry.addend old >>= λ value.
    Ok (with_number file.layout size entry.offset (number_after operation old value) bytes))

abbrev pub change_applied : File → SectionPlace → List (List ℕ) → Relocation → List ℕ → Change
    → Result (List ℕ) ElfError
change_applied file place symbols entry bytes Nothing = Ok bytes
change_applied file place symbols entry bytes (Number operation width) =
    symbol_at file.layout symbols entry.symbol >>= λ symbol.
    changed file place operation (size_of width) entry symbol bytes

-- the data, once an entry is applied to it
abbrev pub applied : File → SectionPlace → List (List ℕ) → List ℕ → Relocation
    → Result (List ℕ) ElfError
applied file place symbols bytes entry =
    change_of file.machine entry.kind >>= λ change.
    change_applied file place symbols entry bytes change

-- ---- all entries

-- the data, once an entry of bytes is applied to it
abbrev pub entry_applied : File → SectionPlace → Form → List (List ℕ) → List ℕ → List ℕ
    → Result (List ℕ) ElfError
entry_applied file place form symbols bytes entry =
    applied file place symbols bytes
    (of_machine file.machine file.layout (relocation file.layout form entry))

-- the data, once the entries of a section are applied to it, in order. Their symbols are in the
-- section of its link
abbrev pub section_applied : File → SectionPlace → List ℕ → SectionHeader → Result (List ℕ) ElfError
section_applied file place bytes header =
    entries_at file.bytes (relocation_size file.layout.class (form_of header)) header >>= λ entries.
    symbols_in file.layout file.bytes (slice_get file.headers header.link) >>= λ symbols.
    steps (entry_applied file place (form_of header) symbols) bytes entries

-- the bytes that are left of so many, once a section of relocations takes its own
abbrev pub room_after : ℕ → SectionHeader → Result ℕ ElfError
room_after room header =
    if nat_lt room header.size then Err RelocationsTooLarge else Ok (room - header.size)

-- the data of the section of an index, once all sections of its relocations are applied, in order.
-- Together these have no more bytes than the file, as is so unless they share bytes
abbrev pub all_applied : File → SectionPlace → ℕ → List ℕ → Result (List ℕ) ElfError
all_applied file place index bytes =
    steps room_after (length file.bytes) (filter (relocates index) file.headers) >>= λ room.
    steps (section_applied file place) bytes (filter (relocates index) file.headers)

-- ---- a section by its name

-- the index of the first section of a name
abbrev pub index_of : File → List ℕ → Option ℕ
index_of file name =
    position_from (λ header. is_active header && is_name_at file.names header.name name) 0
    file.headers

-- or else of the older form of the name
abbrev pub index_or : Option ℕ → File → List ℕ → Option ℕ
index_or (Some index) file name = Some index
index_or None file name = if has_old_name name then index_of file (old_name name) else None

abbrev pub data_index : File → List ℕ → Option ℕ
data_index file name = index_or (index_of file name) file name

abbrev pub applied_at : File → SectionPlace → List ℕ → Option ℕ → Result (List ℕ) ElfError
applied_at file place bytes (Some index) = all_applied file place index bytes
applied_at file place bytes None = Ok bytes

-- the data of a section, relocated where the file isn't linked (ET_REL)
abbrev pub relocated_data : File → SectionPlace → List ℕ → Option (List ℕ)
    → Result (Option (List ℕ)) ElfError
relocated_data file place name None = Ok None
relocated_data file place name (Some bytes) =
    if nat_eq file.kind 1 then some_of (applied_at file place bytes (data_index file name))
    else Ok (Some bytes)

-- what the first section of a name holds, relocated
abbrev pub relocated_at : File → SectionPlace → ℕ → List ℕ → Result (Option (List ℕ)) ElfError
relocated_at file place limit name =
    section_data_at file limit name >>= relocated_data file place name
