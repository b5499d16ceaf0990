use Rattle.gimli_line.proofs
use proofs.Common
use Common.{[], map, ap, ◌∙◌, err_from_is_err_and, without_files, row, source_of, Unread, with_reset_row}
use Rattle.gimli_line.specs.run.Sequences.{sequence_of}
use proofs.ResumedRuns.{resume_to_rows}
use proofs.SequenceLaws.{
  split_starts,
  split_goes,
  split_faults,
  split_source,
  split_ends,
  has_front,
  row_takes,
  starts_splitting,
  goes_splitting,
}
use proofs.run.sequences.IncompleteLineProgram+R.sequences.Goals as goal

pub rows-init : goal.rows-init
rows-init g c =
    let h = c.args.self.meaning in
    let source = source_of g.R.Reader.seen g.R.Offset.ReaderOffset.number c.args.self in
    let unread : Unread = record { bytes = h.program; layout = c.args.self.layout } in
    split_starts h source _ c.rows-rows.result c.rows-rows.ensures.start
    (rw (
      c.new-split.ensures,
      c.clone.ensures ∙ c.instructions.ensures,
      c.rows-rows.ensures.start,
    ) (starts_splitting h source unread))

pub returns-in_err-advance-clause-err : goal.returns-in_err-advance-clause-err
returns-in_err-advance-clause-err g c =
    let p = err_from_is_err_and c.from_residual.result c.from_residual.ensures.1 in
    rw (p.1, p.2) (λ other.
    split_faults _ _ _ _ c.advance.new.self c.rows.invariant c.in_err-advance.ensures.keeps _ other
    c.in_err-advance.ensures.err)

pub returns-in_err-row-clause-err : goal.returns-in_err-row-clause-err
returns-in_err-row-clause-err g c =
    let p = err_from_is_err_and c.from_residual-in_err-row.result c.from_residual-in_err-row.ensures.1 in
    rw (p.1, p.2) (λ other. absurd (other c.in_err-row.ensures.err))

pub row-requires-in-rows : goal.row-requires-in-rows
row-requires-in-rows g c =
    let m = rw c.if-branch.true at c.in_ok-advance.ensures.passes in
    rw c.instructions-in-rows.ensures
    (has_front c.args.self.meaning c.rows.split _ (with_reset_row c.rows.rows) c.advance.new.self
    c.rows.invariant.split m)

pub rows-smaller : goal.rows-smaller
rows-smaller g c =
    let m = rw c.if-branch.true at c.in_ok-advance.ensures.passes in
    row_takes (with_reset_row c.rows.rows) (with_reset_row c.advance.new.self) (row c.advance.new.self.row) [] m

pub rows-preserved : goal.rows-preserved
rows-preserved g c =
    let m = rw c.if-branch.true at c.in_ok-advance.ensures.passes in
    let i = c.rows.invariant in
    split_goes _ _ _ c.rows.rows c.advance.new.self i c.in_ok-advance.ensures.keeps _ m
    (rw (c.in_ok-row.ensures.ok, c.row.ensures, c.instructions-in-rows.ensures)
    (goes_splitting c.args.self.meaning c.rows.split _ (with_reset_row c.rows.rows) c.advance.new.self i.split m))

pub returns-clause-ok : goal.returns-clause-ok
returns-clause-ok g c =
    let m = rw c.if-branch.false at c.in_ok-advance.ensures.passes in
    let i = c.rows.invariant in
    rw c.into_sequences.ensures
    (split_ends _ _ _ c.rows.rows c.advance.new.self i c.in_ok-advance.ensures.keeps c.header.inside.header.meaning
    c.rows.split i.split m.0 m.1
    (ap (λ v. without_files v.meaning) c.header.view_is ∙ c.into_program.ensures.header)
    (ap (λ v. v.meaning.files) c.header.view_is ∙ c.into_program.ensures.files))

pub returns-clause-source : goal.returns-clause-source
returns-clause-source g c =
    split_source _ _ _ c.rows.rows c.advance.new.self c.rows.invariant c.in_ok-advance.ensures.keeps _
    (ap (source_of g.R.Reader.seen g.R.Offset.ReaderOffset.number) c.header.view_is ∙ c.into_program.ensures.source)

pub returns-clause-unrefused : goal.returns-clause-unrefused
returns-clause-unrefused g c =
    let are = returns-clause-ok g c in
    resume_to_rows c.header.inside.header.meaning (map sequence_of c.into_sequences.result.items) are.runs are.each
