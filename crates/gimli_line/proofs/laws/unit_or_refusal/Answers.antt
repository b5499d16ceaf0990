use Rattle.gimli_line.proofs.HeaderLaws.{unit_or_fault}
use Rattle.gimli_line.proofs.laws.unit_or_refusal.Goals as goal

pub returns : goal.returns
returns c = unit_or_fault
