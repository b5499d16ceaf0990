use Rattle.gimli_core.proofs.Written.{number_spelled}
use Rattle.gimli_core.proofs.laws.written_numbers.Goals as goal

pub returns : goal.returns
returns c = number_spelled
