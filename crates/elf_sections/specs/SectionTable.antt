-- What the section table of a program is.
use Rattle.elf_sections.specs.Table.{Table, section_headers}
use Rattle.elf_sections.specs.declared.section_table.SectionTable.{SectionTable}

abbrev pub table_of : SectionTable → Table
table_of table = record {
  headers = section_headers table.layout table.entry_size table.count table.entries.now;
  names_index = table.names_index;
}
