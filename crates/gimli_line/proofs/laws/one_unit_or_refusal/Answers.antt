use Rattle.gimli_line.proofs.HeaderLaws.{no_fault, one_header, one_fault}
use Rattle.gimli_line.proofs.laws.one_unit_or_refusal.Goals as goal

pub returns : goal.returns
returns c = record { both = no_fault; header = one_header; refusal = one_fault }
