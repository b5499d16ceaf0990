use Rattle.gimli_write.proofs.MappedLaws.{conversion_back, unit_back}
use Rattle.gimli_write.proofs.conversion_laws.converted_rows_are_read_back.Goals as goal

pub returns : goal.returns
returns c = record {
  answered =
      λ d rows back can events built.
      conversion_back d.convert_address d.source d.line_strings d.outcome d.is can rows back events built;
  written = λ d rows can events u. unit_back d.convert_address d.source d.line_strings d.outcome d.is can rows events u;
}
