use Rattle.gimli_build.proofs
use proofs.reading.EventsBack.{items-run}
use proofs.laws.items_run.Goals as goal

pub returns : goal.returns
returns c = items-run
