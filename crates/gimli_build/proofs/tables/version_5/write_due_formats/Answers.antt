use Rattle.gimli_build.proofs
use proofs.Common.{ap, take_all}
use proofs.building.FormatLemmas.{due_bytes, due_more}
use proofs.writing.Writes.{joins, passed_on, same_bytes, unwritten}
use proofs.tables.version_5.write_due_formats.Goals as goal

pub loop-index-preserved : goal.loop-index-preserved
loop-index-preserved g c = record {
  so = same_bytes (due_more _ _ _ c.loop-index-test.true)
      (joins c.loop-index.invariant.so c.in_ok-write_format_if.ensures);
}

pub returns-in_err-write_format_if : goal.returns-in_err-write_format_if
returns-in_err-write_format_if g c =
    passed_on c.from_residual.ensures.1 (unwritten c.loop-index.invariant.so c.in_err-write_format_if.ensures)

pub returns : goal.returns
returns g c = same_bytes (ap due_bytes (take_all c.loop-index.index c.args.formats.now c.loop-index-test.false))
    c.loop-index.invariant.so
