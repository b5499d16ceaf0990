-- What an `Elf` is: its file.
use Rattle.elf_sections.specs.File.{File}
use Rattle.elf_sections.specs.SectionTable.{table_of}
use Rattle.elf_sections.specs.declared.elf.Elf.{Elf}

abbrev pub file_of : Elf → File
file_of elf = record {
  bytes = elf.bytes.now;
  layout = elf.layout;
  kind = elf.kind;
  machine = elf.machine;
  headers = (table_of elf.table).headers;
  names = elf.names.now;
}
