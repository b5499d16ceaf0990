-- What the outline of a file says of a section, and what is read of it.
use Rattle.std.specs.Prelude.{◌≡◌, ℕ, List, length, Option, Some, Result, Ok}
use Rattle.elf_sections.specs.Steps.{◌>>=◌}
use Rattle.elf_sections.specs.Seeking.{Listed, list_by}
use Rattle.elf_sections.specs.SeekingViews.{place_of}
use Rattle.elf_sections.specs.Stored.{stored_named, stored_data}
use Rattle.elf_sections.specs.declared.error.ElfError.{ElfError}
use Rattle.elf_sections.specs.declared.stored.StoredSection.{StoredSection}
use Rattle.debug_files.specs.declared.outline.Outline.{Outline}

-- the sections that it knows of
abbrev pub outlined : Outline → Result Listed ElfError
outlined outline = list_by (place_of outline.table) outline.entries.items outline.names.items

-- where the data of the first section of a name are
abbrev pub section_in : Outline → List ℕ → Result (Option StoredSection) ElfError
section_in outline name = outlined outline >>= λ list. stored_named list name

-- the data of that section, by as many bytes as it has, up to a limit
pub record Holds (outline : Outline) (limit : ℕ) (name held : List ℕ) : Type 0 where
  pub section : StoredSection
  pub is_section : section_in outline name ≡ Ok (Some section)
  pub bytes : List ℕ
  pub is_whole : length bytes ≡ section.range.size
  pub is_held : stored_data section limit bytes ≡ Ok held
