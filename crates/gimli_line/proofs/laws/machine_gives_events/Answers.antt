use Rattle.gimli_line.proofs
use proofs.Backwards.{made_start}
use proofs.EventsWithFilesLaws.{started_events, started_files}
use proofs.laws.machine_gives_events.Goals as goal

pub returns : goal.returns
returns c = record { machine = made_start; started = started_events; files = started_files }
