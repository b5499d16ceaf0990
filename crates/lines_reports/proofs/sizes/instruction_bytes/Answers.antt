use Rattle.std.proofs.Common.{◌∙◌, ap}
use Rattle.gimli_core.specs.Reading.{Read}
use Rattle.lines_reports.specs.declared.sizes.InstructionBytes.{InstructionBytes}
use Rattle.lines_reports.specs.inside.Sizes.{size_at}
use Rattle.lines_reports.proofs.Passing.{size_is}
use Rattle.lines_reports.proofs.sizes.instruction_bytes.Goals as goal

pub returns-clause-sizes : goal.returns-clause-sizes
returns-clause-sizes g c layout h i front after is left spells =
    ap (λ (r : Read InstructionBytes). r.0)
    (c.count_bytes.ensures.read ∙ ap (size_at c.args.left) is ∙ size_is layout h front after i _ left spells)

pub returns-clause-left : goal.returns-clause-left
returns-clause-left g c layout h i front after is left spells =
    ap (λ (r : Read InstructionBytes). r.1)
    (c.count_bytes.ensures.read ∙ ap (size_at c.args.left) is ∙ size_is layout h front after i _ left spells)
