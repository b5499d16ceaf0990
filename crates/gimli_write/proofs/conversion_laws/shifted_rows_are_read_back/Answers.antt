use Rattle.gimli_write.proofs.MappedLaws.{was_converted}
use Rattle.gimli_write.proofs.MovedLaws.{shift_back, unit_shifted}
use Rattle.gimli_write.proofs.conversion_laws.shifted_rows_are_read_back.Goals as goal

pub returns : goal.returns
returns c = record {
  answered =
      λ n d rows back can events built.
      shift_back (was_converted d.convert_address d.source d.line_strings d.outcome d.is) n can rows back events built;
  written =
      λ n d rows can events unit.
      unit_shifted (was_converted d.convert_address d.source d.line_strings d.outcome d.is) n can rows events unit;
}
