use Rattle.gimli_line.proofs
use proofs.RunLists.{without_files}
use proofs.laws.files_change_no_events.Goals as goal

pub returns : goal.returns
returns c = without_files
