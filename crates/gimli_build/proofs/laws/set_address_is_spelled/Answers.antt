use Rattle.gimli_build.specs.UnitReader.{bytes_of_address}
use Rattle.gimli_build.proofs
use proofs.spellings.ItemSpellings.{if_written}
use proofs.spellings.Spellings.{address-spelled}
use proofs.laws.set_address_is_spelled.Goals as goal

pub returns : goal.returns
returns c = λ u address. if_written (bytes_of_address u address) _ (λ bytes written.
    address-spelled u.layout u.header u.opcode_base u.longest address _ written)
