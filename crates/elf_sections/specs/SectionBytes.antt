-- What the bytes of a section are, lent or made.
use Rattle.std.specs.Prelude.{ℕ, List}
use Rattle.elf_sections.specs.declared.section_bytes.SectionBytes.{SectionBytes}
use Rattle.elf_sections.specs.declared.section_bytes.SectionBytes.TheVariants.{Lent, Made}

abbrev pub bytes_of : SectionBytes → List ℕ
bytes_of (Lent bytes) = bytes.now
bytes_of (Made bytes) = bytes.items
