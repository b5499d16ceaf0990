use Rattle.gimli_build.proofs
use proofs.linking.FoundTexts.{placed-found, written-found}
use proofs.laws.texts_are_found.Goals as goal

pub returns : goal.returns
returns c = record { placed = placed-found; written = written-found }
