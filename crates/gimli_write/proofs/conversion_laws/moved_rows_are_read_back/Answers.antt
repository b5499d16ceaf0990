use Rattle.gimli_write.proofs.Common.{refl}
use Rattle.gimli_write.proofs.MappedLaws.{was_converted}
use Rattle.gimli_write.proofs.MovedLaws.{rows_moved, unit_moved}
use Rattle.gimli_write.proofs.conversion_laws.moved_rows_are_read_back.Goals as goal

pub returns : goal.returns
returns c = record {
  answered =
      λ d back can built.
      rows_moved (was_converted d.convert_address d.source d.line_strings d.outcome d.is) can
      d.outcome.program.encoding.version refl back built;
  written =
      λ d can unit.
      unit_moved (was_converted d.convert_address d.source d.line_strings d.outcome d.is) can unit;
}
