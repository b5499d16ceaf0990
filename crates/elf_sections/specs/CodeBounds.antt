-- Where the code of a file is, section after section.
use Rattle.std.specs.Prelude.{min, max, Option, Some, None}
use Rattle.elf_sections.specs.SectionHeader.{end_of}
use Rattle.elf_sections.specs.declared.code_bounds.CodeBounds.{CodeBounds}
use Rattle.elf_sections.specs.declared.section_header.SectionHeader.{SectionHeader}

-- the bounds of a section, and of those before it
abbrev pub bounds_with : Option CodeBounds → SectionHeader → CodeBounds
bounds_with None header = record { lowest = header.address; end = end_of header }
bounds_with (Some bounds) header = record {
  lowest = min bounds.lowest header.address;
  end = max bounds.end (end_of header);
}
