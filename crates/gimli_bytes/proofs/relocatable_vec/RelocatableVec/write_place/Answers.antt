use Rattle.gimli_bytes.proofs
use proofs.AscendingLemmas.{ascending_more}
use proofs.relocatable_vec.RelocatableVec.write_place.Goals as goal

pub invariant_of-self-3 : goal.invariant_of-self-3
invariant_of-self-3 g c = λ is.
    let ascends = c.ascends_to-ascends.ensures is in
    rw (c.push_reserved.ensures.items) (ascending_more _ _ ascends.0 ascends.1)
