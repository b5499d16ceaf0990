use Rattle.gimli_write.proofs.RoundTrips.{refused_for_cause}
use Rattle.gimli_write.proofs.conversion_laws.fitting_programs_are_read.Goals as goal

pub returns : goal.returns
returns c = λ is_big encoding p texts old new e fits refused.
    refused_for_cause is_big encoding p texts old new e fits refused
