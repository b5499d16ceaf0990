use Rattle.std.proofs.Common.{◌∙◌}
use Rattle.gimli_c.proofs.Units.{same_next}
use Rattle.gimli_c.proofs.next_unit.next_unit.Goals as goal

pub returns : goal.returns
returns c =
    same_next c.args.section.now _ c.args.is_big _ c.args.offset c.next_offset.result c.new.ensures.bytes
    (c.new.ensures.order ∙ c.order.ensures)
    c.next_offset.ensures
