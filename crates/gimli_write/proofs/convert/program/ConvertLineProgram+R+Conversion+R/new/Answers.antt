use Rattle.gimli_write.proofs.convert.program.ConvertLineProgram+R+Conversion+R.new.Goals as goal

pub returns-clause-string_tables : goal.returns-clause-string_tables
returns-clause-string_tables g c = record {
  line_strings = rw c.converter.ensures.string_tables.line_strings c.in_ok-header.ensures.stays;
  strings = c.converter.ensures.string_tables.strings;
  lent_line_strings = c.converter.ensures.string_tables.lent_line_strings;
  lent_strings = c.converter.ensures.string_tables.lent_strings;
}
