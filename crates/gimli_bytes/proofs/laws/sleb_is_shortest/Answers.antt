use Rattle.gimli_bytes.proofs.ShortestSleb.{sleb_shortest}
use Rattle.gimli_bytes.proofs.laws.sleb_is_shortest.Goals as goal

pub returns : goal.returns
returns c = sleb_shortest
