use Rattle.std.proofs.Common.{◌∙◌}
use Rattle.gimli_c.proofs.MadeIndexes.{same_all_units}
use Rattle.gimli_c.proofs.index.write.program_of.Goals as goal

pub returns-in-Ok-clause-ok : goal.returns-in-Ok-clause-ok
returns-in-Ok-clause-ok c = λ line_strings strings.
    same_all_units c.args.section.now _ c.args.options.now.is_big _ _ _ line_strings strings c.in-Ok.program.lookup
    c.new-section.ensures.bytes
    (c.new-section.ensures.order ∙ c.order.ensures) c.in-Ok.ensures.units.offsets c.in-Ok.ensures.units.each
