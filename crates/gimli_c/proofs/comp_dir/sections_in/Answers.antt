use Rattle.std.proofs.Common.{◌∙◌}
use Rattle.gimli_c.proofs.CompDirs.{same_sections}
use Rattle.gimli_c.proofs.comp_dir.sections_in.Goals as goal

pub returns : goal.returns
returns c =
    same_sections _ _ _ _ _ _ _ _ _ _ _ _ _ c.new.ensures.bytes c.new-2.ensures.bytes c.new-3.ensures.bytes
    c.new-4.ensures.bytes c.new-5.ensures.bytes
    (c.new.ensures.order ∙ c.order-order.ensures) (c.new-5.ensures.order ∙ c.order-order.ensures)
