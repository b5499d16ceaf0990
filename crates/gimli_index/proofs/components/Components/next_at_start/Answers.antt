use Rattle.std.proofs.Common.{arith}
use Rattle.gimli_index.proofs.PathStarts.{at_dots, at_root}
use Rattle.gimli_index.proofs.components.Components.next_at_start.Goals as goal

pub returns-then-self : goal.returns-then-self
returns-then-self c =
    at_root c.args.self.now.ups c.args.self.now.root c.args.self.now.text.now c.requires c.if-self.true

pub returns : goal.returns
returns c = at_dots c.args.self.now.ups c.args.self.now.root c.args.self.now.text.now c.requires c.if-self.false
    (λ e. omega (arith, e, c.if-self-eq0.false))
