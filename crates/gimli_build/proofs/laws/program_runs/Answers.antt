use Rattle.gimli_build.proofs
use proofs.reading.EventsBack.{program-runs}
use proofs.laws.program_runs.Goals as goal

pub returns : goal.returns
returns c = program-runs
