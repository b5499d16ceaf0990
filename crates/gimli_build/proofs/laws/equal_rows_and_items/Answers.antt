use Rattle.gimli_build.proofs
use proofs.building.Equality.{row-Decides, item-Decides}
use proofs.laws.equal_rows_and_items.Goals as goal

pub returns : goal.returns
returns c = record { row = row-Decides; item = item-Decides }
