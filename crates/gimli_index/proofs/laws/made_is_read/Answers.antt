use Rattle.gimli_index.proofs.ReadBack.{read_back}
use Rattle.gimli_index.proofs.laws.made_is_read.Goals as goal

pub returns : goal.returns
returns c = read_back
