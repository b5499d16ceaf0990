use Rattle.std.proofs.Common.{List, sym, subst}
use Rattle.gimli_line.specs.declared.run.row.LineRow.{LineRow}
use Rattle.gimli_line.specs.header.Orders.{source_of}
use Rattle.gimli_line.specs.run.Passing.{RunState}
use Rattle.gimli_line.specs.run.Rows.{KeepsRun}
use Rattle.gimli_lookup.specs.Section.{header_of}
use Rattle.gimli_lookup.specs.inside.SequenceCut.{AreTaken}
use Rattle.gimli_lookup.specs.UnitRun.{IsKept}
use Rattle.gimli_lookup.specs.inside.SequenceCut.{SequenceCut}
use Rattle.gimli_lookup.proofs.UnitRuns.{is_kept}
use Rattle.gimli_lookup.proofs.unit_run.run_unit.Goals as goal

pub returns-clause-kept : goal.returns-clause-kept
returns-clause-kept g c =
    let old = c.rows-run.result in
    let new = c.take_rows.new.run in
    let fault = c.in_ok-fault.fault in
    let taken =
    subst (λ (from : SequenceCut). AreTaken old new fault from c.take_rows.new.cut) c.new-cut.ensures
    c.in_ok-fault.ensures.ok in
    subst (λ (kept : List (List LineRow)).
    IsKept c.args.program.layout c.args.lowest c.args.program.meaning (header_of new) fault kept)
    (sym c.into_parts.ensures)
    (is_kept c.args.lowest c.args.program.meaning
    (source_of g.R.Reader.seen g.R.Offset.ReaderOffset.number c.args.program)
    old new fault c.take_rows.new.cut c.rows-run.ensures.start c.rows-run.ensures.made c.rows-run.ensures.files taken)

pub returns-clause-run : goal.returns-clause-run
returns-clause-run g c =
    subst (λ (a : RunState). KeepsRun a c.take_rows.new.run) c.rows-run.ensures.start c.in_ok-fault.ensures.ok.keeps.run
