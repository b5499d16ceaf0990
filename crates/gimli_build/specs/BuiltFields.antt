-- The fields of a line program, as what was built.
use Rattle.gimli_build.specs
use specs.Built.{Built}
use specs.Tables.{keys_of}
use specs.Conditions.{IsProgram}
use specs.declared.built.line_program.LineProgram.TheInside.{Inside}

-- the program that these fields hold
abbrev pub built_of : Inside → Built
built_of a = record {
  is_none = a.none;
  encoding = a.encoding;
  line_encoding = a.line_encoding;
  directories = a.tables.directories;
  files = a.tables.files;
  file_has_timestamp = a.file_has_timestamp;
  file_has_size = a.file_has_size;
  file_has_md5 = a.file_has_md5;
  file_has_source = a.file_has_source;
  items = a.items;
  row = a.row;
  in_sequence = a.in_sequence;
}

-- what is true of every program, of these fields
abbrev pub IsKept : Inside → Type 0
IsKept a =
    IsProgram a.none a.encoding a.line_encoding a.tables.directories (keys_of a.tables.files)
    a.items
