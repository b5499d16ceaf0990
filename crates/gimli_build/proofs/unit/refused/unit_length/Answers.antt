use Rattle.gimli_build.proofs
use proofs.sizes.UnitLengths.{unit-counted}
use proofs.unit.refused.unit_length.Goals as goal

pub returns : goal.returns
returns c = λ symbols is_big texts none.
    let size = rw (c.encoding-2.ensures.encoding, c.line_encoding.ensures, c.built_items-items.ensures.items) at
    c.items_size-size.ensures in
    unit-counted symbols is_big c.args.program.now texts
    (c.built_items-items.ensures.program.address_size c.requires) none _ _ _ _ _ (c.header_length.ensures texts) size
    (rw c.encoding.ensures.encoding at c.opening_size-opening.ensures)
    c.saturating_add.ensures c.saturating_add-2.ensures
