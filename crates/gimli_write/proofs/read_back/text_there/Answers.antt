use Rattle.gimli_write.proofs
use proofs.Common.{inl, inr, IfOk-weaker, MatchResult-weaker, value_seen}
use proofs.ReadTexts.{text_read, text_not_refused}
use proofs.read_back.text_there.Goals as goal

pub returns-clause-ok : goal.returns-clause-ok
returns-clause-ok g c =
    let s = c.args.sections.now in
    let v = value_seen g.R.Reader.seen g.R.Offset.ReaderOffset.number c.args.value in
    IfOk-weaker c.text.result _ _ (λ text is. text_read s v is) c.text.ensures.ok

pub returns-clause-err : goal.returns-clause-err
returns-clause-err g c =
    let s = c.args.sections.now in
    let v = value_seen g.R.Reader.seen g.R.Offset.ReaderOffset.number c.args.value in
    MatchResult-weaker c.text.result c.text.ensures.err (λ _ u. u) (λ e h. elim h [
      | inl memory ↦ memory
      | inr f ↦ absurd (text_not_refused s v c.requires f.2)
    ])
