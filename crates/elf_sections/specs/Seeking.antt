-- What is read of a file to know its sections, part by part.
use Rattle.std.specs.Prelude.{ℕ, ◌*◌, List, length, take, map, filter, find, slice_get, nat_eq}
use Rattle.std.specs.Prelude.{nat_lt, if◌then◌else◌, Option, Some, None, Result, Ok, Err}
use Rattle.std.specs.Option.{option_map}
use Rattle.elf_sections.specs.Steps.{◌>>=◌}
use Rattle.elf_sections.specs.Layout.{layout_at}
use Rattle.elf_sections.specs.Header.{header_at}
use Rattle.elf_sections.specs.SectionHeader.{section_header_size, section_header, is_active}
use Rattle.elf_sections.specs.SectionHeader.{is_code, end_of}
use Rattle.elf_sections.specs.Table.{Table, section_headers, count_of, names_index_of, is_name_at}
use Rattle.elf_sections.specs.File.{File, file_at, section_at}
use Rattle.elf_sections.specs.FileRange.{bytes_at, nowhere, range_in, or_refused, header_range}
use Rattle.elf_sections.specs.declared.error.ElfError.{ElfError}
use Rattle.elf_sections.specs.declared.error.ElfError.TheVariants.{
  SectionHeaderSize,
  SectionTableCut,
  NamesCut,
}
use Rattle.elf_sections.specs.declared.file_range.FileRange.{FileRange}
use Rattle.elf_sections.specs.declared.layout.Layout.{Layout}
use Rattle.elf_sections.specs.declared.section_header.SectionHeader.{SectionHeader}
use Rattle.elf_sections.specs.declared.seeking.FileHeader.{FileHeader}

-- ---- the header

abbrev pub header_by : ℕ → List ℕ → Result FileHeader ElfError
header_by length start =
    layout_at start >>= λ layout.
    header_at layout start >>= λ header.
    Ok (record { layout = layout; header = header; length = length })

-- ---- the section table

abbrev pub first_range : FileHeader → Result FileRange ElfError
first_range file =
    if nat_eq file.header.table_offset 0 then Ok nowhere
    else (if nat_lt file.header.entry_size (section_header_size file.layout.class)
    then Err (SectionHeaderSize file.header.entry_size)
    else or_refused SectionTableCut
    (range_in file.header.table_offset (section_header_size file.layout.class) file.length))

-- where a table is: the file's header without what the table has no need of, and the numbers that
-- the first entry may hold
pub record TablePlace : Type 0 where
  pub layout : Layout
  pub kind : ℕ
  pub length : ℕ
  pub range : FileRange
  pub entry_size : ℕ
  pub count : ℕ
  pub names_index : ℕ

abbrev pub no_table : FileHeader → TablePlace
no_table file = record {
  layout = file.layout;
  kind = file.header.kind;
  length = file.length;
  range = nowhere;
  entry_size = section_header_size file.layout.class;
  count = 0;
  names_index = 0;
}

abbrev pub table_with : FileHeader → SectionHeader → Result TablePlace ElfError
table_with file first =
    or_refused SectionTableCut
    (range_in file.header.table_offset (count_of file.header first * file.header.entry_size)
    file.length)
    >>= λ range.
    Ok (record {
      layout = file.layout;
      kind = file.header.kind;
      length = file.length;
      range = range;
      entry_size = file.header.entry_size;
      count = count_of file.header first;
      names_index = names_index_of file.header first;
    })

-- by the bytes of the first entry
abbrev pub table_by : FileHeader → List ℕ → Result TablePlace ElfError
table_by file first =
    first_range file >>= λ range.
    if nat_eq file.header.table_offset 0 then Ok (no_table file)
    else (if nat_lt (length first) (section_header_size file.layout.class) then Err SectionTableCut
    else table_with file (section_header file.layout first))

-- by the bytes of all entries
abbrev pub table_in : TablePlace → List ℕ → Result Table ElfError
table_in place entries =
    if nat_lt (length entries) (place.count * place.entry_size) then Err SectionTableCut
    else Ok (record {
      headers = section_headers place.layout place.entry_size place.count entries;
      names_index = place.names_index;
    })

-- ---- the names

abbrev pub range_or_cut : Result FileRange ElfError → Result FileRange ElfError
range_or_cut (Ok range) = Ok range
range_or_cut (Err e) = Err NamesCut

abbrev pub names_of_header : ℕ → Option SectionHeader → Result FileRange ElfError
names_of_header length (Some header) = range_or_cut (header_range length header)
names_of_header length None = Err NamesCut

abbrev pub names_in_table : ℕ → Table → Result FileRange ElfError
names_in_table length table =
    if nat_eq table.names_index 0 then Ok nowhere
    else names_of_header length (slice_get table.headers table.names_index)

abbrev pub names_range : TablePlace → List ℕ → Result FileRange ElfError
names_range place entries = table_in place entries >>= λ table. names_in_table place.length table

-- ---- the sections

-- a file without its bytes
pub record Listed : Type 0 where
  pub layout : Layout
  pub kind : ℕ
  pub length : ℕ
  pub headers : List SectionHeader
  pub names : List ℕ

abbrev pub list_by : TablePlace → List ℕ → List ℕ → Result Listed ElfError
list_by place entries names =
    table_in place entries >>= λ table.
    Ok (record {
      layout = place.layout;
      kind = place.kind;
      length = place.length;
      headers = table.headers;
      names = names;
    })

abbrev pub header_named : Listed → List ℕ → Option SectionHeader
header_named list name =
    find (λ header. is_name_at list.names header.name name) (filter is_active list.headers)

abbrev pub range_of : ℕ → Option SectionHeader → Result (Option FileRange) ElfError
range_of length None = Ok None
range_of length (Some header) = header_range length header >>= λ range. Ok (Some range)

abbrev pub range_named : Listed → List ℕ → Result (Option FileRange) ElfError
range_named list name = range_of list.length (header_named list name)

abbrev pub listed_code : Listed → List ℕ
listed_code list = map (λ header. header.address) (filter is_code (filter is_active list.headers))

abbrev pub listed_ends : Listed → List ℕ
listed_ends list = map end_of (filter is_code (filter is_active list.headers))

-- ---- all of it: what is known of a file whose parts are read one after the other

abbrev pub listed : List ℕ → Result Listed ElfError
listed bytes =
    header_by (length bytes) (take 64 bytes) >>= λ file.
    first_range file >>= λ first.
    table_by file (bytes_at bytes first) >>= λ place.
    names_range place (bytes_at bytes place.range) >>= λ names.
    list_by place (bytes_at bytes place.range) (bytes_at bytes names)

-- the same of a file that is read whole
abbrev pub listed_of : File → Listed
listed_of file = record {
  layout = file.layout;
  kind = file.kind;
  length = length file.bytes;
  headers = file.headers;
  names = file.names;
}

abbrev pub listed_at : List ℕ → Result Listed ElfError
listed_at bytes = file_at bytes >>= λ file. Ok (listed_of file)

-- the bytes of a section of a file that is read whole
abbrev pub section_in : List ℕ → List ℕ → Result (Option (List ℕ)) ElfError
section_in bytes name = file_at bytes >>= λ file. section_at file name

-- the bytes of a file at a range, if there is one
abbrev pub read_at : List ℕ → Result (Option FileRange) ElfError → Result (Option (List ℕ)) ElfError
read_at bytes found = found >>= λ range. Ok (option_map (bytes_at bytes) range)
