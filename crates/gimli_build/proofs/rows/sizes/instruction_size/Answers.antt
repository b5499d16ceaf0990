use Rattle.gimli_build.proofs
use proofs.sizes.ItemSizes.{discriminator_size}
use proofs.rows.sizes.instruction_size.Goals as goal

pub returns-in-SetDiscriminator-clause-size : goal.returns-in-SetDiscriminator-clause-size
returns-in-SetDiscriminator-clause-size c =
    let own = c.unsigned_size-in-SetDiscriminator.ensures in
    rw c.in-SetDiscriminator.is (discriminator_size _ _ own.size own.short)
