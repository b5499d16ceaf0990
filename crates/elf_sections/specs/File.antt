-- A file, as its header and its section table say (System V ABI, chapter 4).
use Rattle.std.specs.Prelude.{◌≤◌, ℕ, List, map, filter, find, All, Contains, if◌then◌else◌, Option}
use Rattle.std.specs.Prelude.{Some, None, Result, Ok}
use Rattle.elf_sections.specs.Steps.{◌>>=◌}
use Rattle.elf_sections.specs.Layout.{layout_at}
use Rattle.elf_sections.specs.Header.{header_at}
use Rattle.elf_sections.specs.SectionHeader.{is_active, is_code, end_of, section_bytes}
use Rattle.elf_sections.specs.Compression.{data_of, old_data_of, has_old_name, old_name}
use Rattle.elf_sections.specs.Table.{table_at, names_at, is_name_at}
use Rattle.elf_sections.specs.declared.error.ElfError.{ElfError}
use Rattle.elf_sections.specs.declared.layout.Layout.{Layout}
use Rattle.elf_sections.specs.declared.section_header.SectionHeader.{SectionHeader}

pub record File : Type 0 where
  pub bytes : List ℕ
  pub layout : Layout
  -- e_type
  pub kind : ℕ
  -- e_machine
  pub machine : ℕ
  pub headers : List SectionHeader
  pub names : List ℕ

-- the file of these bytes, or the first thing that keeps them from being one
abbrev pub file_at : List ℕ → Result File ElfError
file_at bytes =
    layout_at bytes >>= λ layout.
    header_at layout bytes >>= λ header.
    table_at layout header bytes >>= λ table.
    names_at bytes table >>= λ names.
    Ok (record {
      bytes = bytes;
      layout = layout;
      kind = header.kind;
      machine = header.machine;
      headers = table.headers;
      names = names;
    })

-- the headers of sections
abbrev pub sections : File → List SectionHeader
sections file = filter is_active file.headers

-- the first section of a name
abbrev pub section_named : File → List ℕ → Option SectionHeader
section_named file name = find (λ header. is_name_at file.names header.name name) (sections file)

-- the bytes of a section, if there is one
abbrev pub bytes_in : List ℕ → Option SectionHeader → Result (Option (List ℕ)) ElfError
bytes_in file None = Ok None
bytes_in file (Some header) = section_bytes file header >>= λ bytes. Ok (Some bytes)

-- the bytes of the first section of a name
abbrev pub section_at : File → List ℕ → Result (Option (List ℕ)) ElfError
section_at file name = bytes_in file.bytes (section_named file name)

-- some bytes, once they are there
abbrev pub some_of : Result (List ℕ) ElfError → Result (Option (List ℕ)) ElfError
some_of answer = answer >>= λ bytes. Ok (Some bytes)

-- the data of the first section of the older form of a name
abbrev pub old_data_in : ℕ → List ℕ → Option SectionHeader → Result (Option (List ℕ)) ElfError
old_data_in limit file None = Ok None
old_data_in limit file (Some header) = some_of (old_data_of limit file header)

-- the data of a section, or else of the section of the older form
abbrev pub data_or_old : File → ℕ → List ℕ → Option SectionHeader
    → Result (Option (List ℕ)) ElfError
data_or_old file limit name (Some header) = some_of (data_of limit file.layout file.bytes header)
data_or_old file limit name None =
    if has_old_name name then old_data_in limit file.bytes (section_named file (old_name name))
    else Ok None

-- the data of the first section of a name, made whole where it is compressed, up to a limit
abbrev pub section_data_at : File → ℕ → List ℕ → Result (Option (List ℕ)) ElfError
section_data_at file limit name = data_or_old file limit name (section_named file name)

-- the addresses of the sections of code
abbrev pub code_addresses : File → List ℕ
code_addresses file = map (λ header. header.address) (filter is_code (sections file))

-- the ends of the sections of code
abbrev pub code_ends : File → List ℕ
code_ends file = map end_of (filter is_code (sections file))

-- the least of numbers
pub record IsLeast (numbers : List ℕ) (n : ℕ) : Type 0 where
  pub is_one : Contains numbers n
  pub is_least : All (λ m. n ≤ m) numbers

-- the greatest of numbers
pub record IsGreatest (numbers : List ℕ) (n : ℕ) : Type 0 where
  pub is_one : Contains numbers n
  pub is_greatest : All (λ m. m ≤ n) numbers
