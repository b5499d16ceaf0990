use Rattle.std.proofs.Common.{map, sym, subst}
use Rattle.std.specs.Prelude.{All}
use Rattle.std.proofs.lemmas.Result.{IfOk-weaker, IfErr-weaker}
use Rattle.gimli_line.specs.run.Sequences.{sequence_of, AreSequences, ResumesToRows}
use Rattle.uses.proofs.ResumedRows.{whole_run}
use Rattle.uses.proofs.sequences.rows_of_sequences.Goals as goal

pub rows_of_each-requires : goal.rows_of_each-requires
rows_of_each-requires g c =
    subst (λ xs. All (ResumesToRows c.in_ok-program.program.meaning) (map sequence_of xs)) (sym c.deref.ensures.value)
    c.in_ok-program.ensures.unrefused

pub returns-clause-ok : goal.returns-clause-ok
returns-clause-ok g c =
    IfOk-weaker c.rows_of_each.result _ _ (λ rows resumed.
    whole_run c.args.program.layout c.args.program.meaning c.in_ok-program.program.meaning _
    (subst (λ xs. AreSequences c.args.program.layout c.args.program.meaning c.in_ok-program.program.meaning
    (map sequence_of xs)) (sym c.deref.ensures.value) c.in_ok-program.ensures.ok) rows.items resumed)
    c.rows_of_each.ensures.ok

pub returns-clause-err : goal.returns-clause-err
returns-clause-err g c =
    IfErr-weaker c.rows_of_each.result _ _ (λ e memory other. absurd (other memory)) c.rows_of_each.ensures.err
