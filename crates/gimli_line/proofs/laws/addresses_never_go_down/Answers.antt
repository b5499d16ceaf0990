use Rattle.gimli_line.proofs.NonDecreasingLaws.{never_down}
use Rattle.gimli_line.proofs.laws.addresses_never_go_down.Goals as goal

pub returns : goal.returns
returns c = never_down
