use Rattle.gimli_compilation.proofs.AbbreviationTables.{table_asked}
use Rattle.gimli_compilation.proofs.abbreviation.Abbreviations.find.Goals as goal
use Rattle.gimli_compilation.proofs.abbreviation.Abbreviations.find.Goals.{then-self+in_ok-read_up_to, else-self}

pub returns-clause-listed : goal.returns-clause-listed
returns-clause-listed g c = λ section table. c.answer-found.ensures.listed section (elim c.if-self.branch [
  | then-self+in_ok-read_up_to w ↦ rw w.self-is (w.read_up_to.ensures.table section table)
  | else-self w ↦ rw w.self-is (table_asked _ _ _ _ table)
])
