use Rattle.gimli_bytes.proofs
use proofs.Relocating.{inside-from}
use proofs.CallsRelocated.{calls_same}
use proofs.laws.relocations_give_the_same.Goals as goal

pub returns : goal.returns
returns c = λ p v w calls is fit called. calls_same p v w _ (inside-from _ _ is) fit called
