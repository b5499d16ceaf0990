use Rattle.gimli_line.proofs.Bounds.{unit_bounded}
use Rattle.gimli_line.proofs.laws.tables_are_bounded.Goals as goal

pub returns : goal.returns
returns c = record {
  entries = λ layout unit_entry bytes h s. (unit_bounded _ _ _ h s).0;
  header = λ layout unit_entry bytes h s. (unit_bounded _ _ _ h s).1;
  unit = λ layout unit_entry bytes h s. (unit_bounded _ _ _ h s).2;
}
