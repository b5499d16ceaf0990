use Rattle.gimli_bytes.proofs.ShortestUleb.{uleb_shortest}
use Rattle.gimli_bytes.proofs.laws.uleb_is_shortest.Goals as goal

pub returns : goal.returns
returns c = uleb_shortest
