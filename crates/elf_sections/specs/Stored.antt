-- Where the data of a section are in a file that isn't read whole, and what they are once they are
-- read.
use Rattle.std.specs.Prelude.{ℕ, List, if◌then◌else◌, Option, Some, None, Result, Ok}
use Rattle.elf_sections.specs.ElfNumbers.{SHF_COMPRESSED}
use Rattle.elf_sections.specs.Steps.{◌>>=◌}
use Rattle.elf_sections.specs.SectionHeader.{has_flag}
use Rattle.elf_sections.specs.Compression.{uncompressed, uncompressed_old, has_old_name, old_name}
use Rattle.elf_sections.specs.File.{file_at, some_of, section_data_at}
use Rattle.elf_sections.specs.FileRange.{bytes_at, stored_range, header_range}
use Rattle.elf_sections.specs.Seeking.{Listed, header_named}
use Rattle.elf_sections.specs.declared.error.ElfError.{ElfError}
use Rattle.elf_sections.specs.declared.file_range.FileRange.{FileRange}
use Rattle.elf_sections.specs.declared.layout.Layout.{Layout}
use Rattle.elf_sections.specs.declared.section_header.SectionHeader.{SectionHeader}
use Rattle.elf_sections.specs.declared.stored.StoredForm.{StoredForm}
use Rattle.elf_sections.specs.declared.stored.StoredForm.TheVariants.{Plain, Compressed, Old}
use Rattle.elf_sections.specs.declared.stored.StoredSection.{StoredSection}

-- ---- where they are, and how they are stored

abbrev pub stored_at : Layout → StoredForm → Result FileRange ElfError
    → Result (Option StoredSection) ElfError
stored_at layout form range =
    range >>= λ range. Ok (Some (record { layout = layout; range = range; form = form }))

-- how a section that has its own name is stored
abbrev pub stored_form : SectionHeader → StoredForm
stored_form header = if has_flag header SHF_COMPRESSED then Compressed else Plain

abbrev pub old_stored : Listed → Option SectionHeader → Result (Option StoredSection) ElfError
old_stored list None = Ok None
old_stored list (Some header) = stored_at list.layout Old (header_range list.length header)

abbrev pub stored_or_old : Listed → List ℕ → Option SectionHeader
    → Result (Option StoredSection) ElfError
stored_or_old list name (Some header) =
    stored_at list.layout (stored_form header) (stored_range list.length header)
stored_or_old list name None =
    if has_old_name name then old_stored list (header_named list (old_name name)) else Ok None

-- the first section of a name, or else of the older form of the name
abbrev pub stored_named : Listed → List ℕ → Result (Option StoredSection) ElfError
stored_named list name = stored_or_old list name (header_named list name)

-- ---- what they are

abbrev pub data_by : Layout → StoredForm → ℕ → List ℕ → Result (List ℕ) ElfError
data_by layout Plain limit bytes = Ok bytes
data_by layout Compressed limit bytes = uncompressed limit layout bytes
data_by layout Old limit bytes = uncompressed_old limit bytes

-- by the bytes where they are
abbrev pub stored_data : StoredSection → ℕ → List ℕ → Result (List ℕ) ElfError
stored_data section limit bytes = data_by section.layout section.form limit bytes

-- the data in a file, if there is such a section
abbrev pub data_there : ℕ → List ℕ → Option StoredSection → Result (Option (List ℕ)) ElfError
data_there limit bytes None = Ok None
data_there limit bytes (Some section) =
    some_of (stored_data section limit (bytes_at bytes section.range))

abbrev pub data_at : ℕ → List ℕ → Result (Option StoredSection) ElfError
    → Result (Option (List ℕ)) ElfError
data_at limit bytes found = found >>= data_there limit bytes

-- the data of a section of a file that is read whole
abbrev pub data_in : List ℕ → ℕ → List ℕ → Result (Option (List ℕ)) ElfError
data_in bytes limit name = file_at bytes >>= λ file. section_data_at file limit name
