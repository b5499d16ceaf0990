use Rattle.gimli_build.proofs
use proofs.refusals.Causes.{cause-is}
use proofs.laws.first_cause_is_refusal.Goals as goal

pub returns : goal.returns
returns c = λ is_big unit p handed known. cause-is is_big unit p handed known
