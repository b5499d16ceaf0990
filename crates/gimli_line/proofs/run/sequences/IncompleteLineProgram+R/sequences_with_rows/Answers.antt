use Rattle.gimli_line.proofs
use proofs.Common
use Common.{[], map, List, subst, sym, ap, ◌∙◌, err_from_is_err_and, without_files, Event, row, source_of, Unread}
use Common.{with_reset_row}
use Rattle.gimli_line.specs.run.Sequences.{Sequence, sequence_of, HaveRuns}
use proofs.ResumedRuns.{resume_to_rows}
use proofs.SequenceLaws.{split_starts, split_goes, split_faults, split_source, split_ends, has_front, row_takes}
use proofs.SequenceLaws.{starts_keeping, goes_keeping, kept_runs, runs_are_kept}
use proofs.run.sequences.IncompleteLineProgram+R.sequences_with_rows.Goals as goal

pub run-init : goal.run-init
run-init g c =
    let h = c.args.self.meaning in
    let source = source_of g.R.Reader.seen g.R.Offset.ReaderOffset.number c.args.self in
    let unread : Unread = record { bytes = h.program; layout = c.args.self.layout } in
    split_starts h source _ c.rows-run.result c.rows-run.ensures.start
    (rw (
      c.new-split.ensures,
      c.clone.ensures ∙ c.instructions.ensures,
      c.rows-run.ensures.start,
      c.new-kept.ensures,
    ) (starts_keeping h source unread))

pub returns-in_err-advance-clause-err : goal.returns-in_err-advance-clause-err
returns-in_err-advance-clause-err g c =
    let p = err_from_is_err_and c.from_residual.result c.from_residual.ensures.1 in
    rw (p.1, p.2) (λ other.
    split_faults _ _ _ _ c.advance.new.self c.run.invariant c.in_err-advance.ensures.keeps _ other
    c.in_err-advance.ensures.err)

pub returns-in_err-keep-clause-err : goal.returns-in_err-keep-clause-err
returns-in_err-keep-clause-err g c =
    let p = err_from_is_err_and c.from_residual-in_err-keep.result c.from_residual-in_err-keep.ensures.1 in
    rw (p.1, p.2) (λ other. absurd (other c.in_err-keep.ensures.err))

pub returns-in_err-row-clause-err : goal.returns-in_err-row-clause-err
returns-in_err-row-clause-err g c =
    let p = err_from_is_err_and c.from_residual-in_err-row.result c.from_residual-in_err-row.ensures.1 in
    rw (p.1, p.2) (λ other. absurd (other c.in_err-row.ensures.err))

pub row-requires : goal.row-requires
row-requires g c =
    let m = rw c.if-branch.true at c.in_ok-advance.ensures.passes in
    rw c.instructions-in-run.ensures
    (has_front c.args.self.meaning c.run.split _ (with_reset_row c.run.run) c.advance.new.self
    c.run.invariant.split.splitting m)

pub run-smaller : goal.run-smaller
run-smaller g c =
    let m = rw c.if-branch.true at c.in_ok-advance.ensures.passes in
    row_takes (with_reset_row c.run.run) (with_reset_row c.advance.new.self) (row c.advance.new.self.row) [] m

pub run-preserved : goal.run-preserved
run-preserved g c =
    let m = rw c.if-branch.true at c.in_ok-advance.ensures.passes in
    let i = c.run.invariant in
    split_goes _ _ _ c.run.run c.advance.new.self i c.in_ok-advance.ensures.keeps _ m
    (rw (c.in_ok-row.ensures.ok, c.in_ok-keep.ensures.ok, c.row-row.ensures, c.instructions-in-run.ensures)
    (goes_keeping c.args.self.meaning c.run.split _ (with_reset_row c.run.run) c.advance.new.self i.split.splitting m
    c.run.kept i.split.unended i.split.closed))

pub returns-clause-ok : goal.returns-clause-ok
returns-clause-ok g c =
    let m = rw c.if-branch.false at c.in_ok-advance.ensures.passes in
    let i = c.run.invariant in
    rw c.into_sequences.ensures
    (split_ends _ _ _ c.run.run c.advance.new.self i c.in_ok-advance.ensures.keeps c.header.inside.header.meaning
    c.run.split i.split.splitting m.0 m.1
    (ap (λ v. without_files v.meaning) c.header.view_is ∙ c.into_program.ensures.header)
    (ap (λ v. v.meaning.files) c.header.view_is ∙ c.into_program.ensures.files))

pub returns-clause-each : goal.returns-clause-each
returns-clause-each g c =
    let h = c.args.self.meaning in
    let parts = map sequence_of c.into_sequences.result.items in
    let i = c.run.invariant in
    let runs : List (List Event) = map (map row) c.run.kept.closed in
    let have = subst (λ (xs : List Sequence). HaveRuns (without_files h) xs runs) (sym c.into_sequences.ensures)
    (kept_runs h c.run.split c.run.kept i.done (with_reset_row c.run.run) i.split) in
    rw c.into_rows.ensures
    (runs_are_kept c.args.self.layout h c.header.inside.header.meaning parts runs (returns-clause-ok g c) have)

pub returns-clause-source : goal.returns-clause-source
returns-clause-source g c =
    split_source _ _ _ c.run.run c.advance.new.self c.run.invariant c.in_ok-advance.ensures.keeps _
    (ap (source_of g.R.Reader.seen g.R.Offset.ReaderOffset.number) c.header.view_is ∙ c.into_program.ensures.source)

pub returns-clause-unrefused : goal.returns-clause-unrefused
returns-clause-unrefused g c =
    let are = returns-clause-ok g c in
    resume_to_rows c.header.inside.header.meaning (map sequence_of c.into_sequences.result.items) are.runs are.each
