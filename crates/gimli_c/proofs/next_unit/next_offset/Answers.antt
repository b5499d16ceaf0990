use Rattle.gimli_line.proofs.UnitLaws.{rest_is_end}
use Rattle.gimli_c.proofs.Units.{next_is}
use Rattle.gimli_c.proofs.next_unit.next_offset.Goals as goal

pub offset_from-requires : goal.offset_from-requires
offset_from-requires g c =
    let after = rw (c.bytes_from-rest.ensures.bytes, c.bytes_from-rest.ensures.order) at c.skip_unit.ensures in
    rest_is_end _ _ _ _ after

pub returns : goal.returns
returns g c =
    let after = rw (c.bytes_from-rest.ensures.bytes, c.bytes_from-rest.ensures.order) at c.skip_unit.ensures in
    next_is _ _ _ _ _ after c.offset_from.ensures
