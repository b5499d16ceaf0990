use Rattle.gimli_bytes.proofs
use proofs.Common.{◌∙◌, sym}
use proofs.Relocating.{inside-from, length-all}
use proofs.relocatable_vec.RelocatableVecWriter.len.Goals as goal

pub returns-clause-completed : goal.returns-clause-completed
returns-clause-completed g c = rw (← c.self.view_is) (λ at is.
    let v = c.self.inside in
    c.len.ensures.contents ∙ sym
    (length-all _ _ _ _ (inside-from _ _ is)))
