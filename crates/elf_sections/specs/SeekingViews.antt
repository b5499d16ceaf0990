-- What a table and a list of the program are.
use Rattle.elf_sections.specs.Seeking.{TablePlace, Listed}
use Rattle.elf_sections.specs.SectionTable.{table_of}
use Rattle.elf_sections.specs.declared.seeking.FileTable.{FileTable}
use Rattle.elf_sections.specs.declared.seeking.SectionList.{SectionList}

abbrev pub place_of : FileTable → TablePlace
place_of table = record {
  layout = table.layout;
  kind = table.kind;
  length = table.length;
  range = table.range;
  entry_size = table.entry_size;
  count = table.count;
  names_index = table.names_index;
}

abbrev pub list_of : SectionList → Listed
list_of list = record {
  layout = list.layout;
  kind = list.kind;
  length = list.length;
  headers = (table_of list.table).headers;
  names = list.names.now;
}
