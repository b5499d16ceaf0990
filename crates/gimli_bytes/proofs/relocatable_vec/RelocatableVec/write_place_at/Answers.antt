use Rattle.gimli_bytes.proofs
use proofs.AscendingLemmas.{ascending_more}
use proofs.relocatable_vec.RelocatableVec.write_place_at.Goals as goal

pub invariant_of-self-4 : goal.invariant_of-self-4
invariant_of-self-4 g c = λ is.
    let ascends = c.ascends_to-ascends.ensures is in
    rw (c.push_reserved.ensures.items) (ascending_more _ _ ascends.0 ascends.1)
