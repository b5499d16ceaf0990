use Rattle.gimli_line.proofs.Bounds.{entries_bounded}
use Rattle.gimli_line.proofs.laws.entries_are_bounded.Goals as goal

pub returns : goal.returns
returns c = entries_bounded
