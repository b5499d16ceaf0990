-- The section table of a file, and the names of its sections.
use Rattle.std.specs.Prelude.{ℕ, ◌+◌, ◌*◌, List, [], ◌∷◌, ◌++◌, map, length, drop, slice_get}
use Rattle.std.specs.Prelude.{nat_eq, nat_lt, Bool, not, ◌&&◌, if◌then◌else◌, Option, Some, None}
use Rattle.std.specs.Prelude.{Result, Ok, Err}
use Rattle.std.specs.List.{range_with_len, list_all, starts_with}
use Rattle.elf_sections.specs.ElfNumbers.{SHN_UNDEF, SHN_XINDEX}
use Rattle.elf_sections.specs.SectionHeader.{section_header_size, section_header, section_bytes}
use Rattle.elf_sections.specs.declared.error.ElfError.{ElfError}
use Rattle.elf_sections.specs.declared.error.ElfError.TheVariants.{
  SectionHeaderSize,
  SectionTableCut,
  NamesCut,
}
use Rattle.elf_sections.specs.declared.header.Header.{Header}
use Rattle.elf_sections.specs.declared.layout.Layout.{Layout}
use Rattle.elf_sections.specs.declared.section_header.SectionHeader.{SectionHeader}

-- section headers, and the index of the section that holds their names
pub record Table : Type 0 where
  pub headers : List SectionHeader
  pub names_index : ℕ

-- so many section headers, each in an entry of so many bytes
abbrev pub section_headers : Layout → ℕ → ℕ → List ℕ → List SectionHeader
section_headers layout entry_size count bytes =
    map (λ index. section_header layout (drop (index * entry_size) bytes)) (range_with_len 0 count)

-- how many headers there are: where e_shnum is 0, as the size of section 0 says
abbrev pub count_of : Header → SectionHeader → ℕ
count_of header first = if nat_eq header.count 0 then first.size else header.count

-- the index of the section of names: where e_shstrndx is SHN_XINDEX, as the link of section 0 says
abbrev pub names_index_of : Header → SectionHeader → ℕ
names_index_of header first =
    if nat_eq header.names_index SHN_XINDEX then first.link else header.names_index

-- the section table of a file; none where e_shoff is 0
abbrev pub table_at : Layout → Header → List ℕ → Result Table ElfError
table_at layout header bytes =
    if nat_eq header.table_offset 0 then Ok (record { headers = []; names_index = 0 })
    else (if nat_lt header.entry_size (section_header_size layout.class)
    then Err (SectionHeaderSize header.entry_size)
    else (if nat_lt (length bytes) (header.table_offset + section_header_size layout.class)
    then Err SectionTableCut
    else (let first = section_header layout (drop header.table_offset bytes) in
    if nat_lt (length bytes) (header.table_offset + count_of header first * header.entry_size)
    then Err SectionTableCut
    else Ok (record {
      headers = section_headers layout header.entry_size (count_of header first)
          (drop header.table_offset bytes);
      names_index = names_index_of header first;
    }))))

-- the bytes of names, unless the section of names has none
abbrev pub names_or_cut : Result (List ℕ) ElfError → Result (List ℕ) ElfError
names_or_cut (Ok names) = Ok names
names_or_cut (Err e) = Err NamesCut

abbrev pub names_in : List ℕ → Option SectionHeader → Result (List ℕ) ElfError
names_in file (Some header) = names_or_cut (section_bytes file header)
names_in file None = Err NamesCut

-- the names of the sections; none where the index is SHN_UNDEF
abbrev pub names_at : List ℕ → Table → Result (List ℕ) ElfError
names_at file table =
    if nat_eq table.names_index SHN_UNDEF then Ok []
    else names_in file (slice_get table.headers table.names_index)

-- whether this text, which a zero byte ends, stands at an offset of the names
abbrev pub is_name_at : List ℕ → ℕ → List ℕ → Bool
is_name_at names offset name =
    list_all (λ b. not (nat_eq b 0)) name && starts_with nat_eq (drop offset names) (name ++ 0 ∷ [])
