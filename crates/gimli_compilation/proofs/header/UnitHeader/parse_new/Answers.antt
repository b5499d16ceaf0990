use Rattle.gimli_core.proofs.Taken.{read_of}
use Rattle.gimli_compilation.proofs.Sizes.{known_size}
use Rattle.gimli_compilation.proofs.header.UnitHeader.parse_new.Goals as goal

pub returns-clause-size : goal.returns-clause-size
returns-clause-size g c = known_size _ _ _ (read_of c.in_ok-address_size.ensures)
