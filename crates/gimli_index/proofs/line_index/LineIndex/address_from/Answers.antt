use Rattle.std.proofs.Common.{◌∙◌, ap, sym, Some}
use Rattle.gimli_index.specs.Ranges.{first_start}
use Rattle.gimli_index.specs.Views.{index_of}
use Rattle.gimli_index.proofs.Starts.{no_start, start_here}
use Rattle.gimli_index.proofs.line_index.LineIndex.address_from.Goals as goal

pub returns-then-index-self : goal.returns-then-index-self
returns-then-index-self c =
    ap Some c.address_at.ensures
    ∙ sym (ap first_start (start_here (index_of c.args.self.now) c.args.index c.if-index-self.true))

pub returns-else-index-self : goal.returns-else-index-self
returns-else-index-self c =
    sym (ap first_start (no_start (index_of c.args.self.now) c.args.index c.if-index-self.false))
