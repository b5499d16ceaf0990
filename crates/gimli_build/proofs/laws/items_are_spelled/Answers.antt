use Rattle.gimli_build.specs.UnitReader.{bytes_of_items}
use Rattle.gimli_build.proofs
use proofs.spellings.ItemSpellings.{if_written, items-spelled-under}
use proofs.laws.items_are_spelled.Goals as goal

pub returns : goal.returns
returns c = λ u here items can. if_written (bytes_of_items u here items) _ (λ bytes written.
    items-spelled-under u.layout u.header _ _ here.previous _ _ can.encoding u.opcode_base u.longest can.encode
    can.line_before can.built can.fit written)
