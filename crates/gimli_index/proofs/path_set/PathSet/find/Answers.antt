use Rattle.std.proofs.Common.{◌≡◌, rules}
use Rattle.gimli_index.specs.inside.Numbered.{number_of_text}
use Rattle.gimli_index.proofs.path_set.PathSet.find.Goals as goal

pub returns : goal.returns
returns c =
    let found : c.copied.result ≡ number_of_text c.self.inside.numbers.entries c.args.path.now = search rules in
    rw (← c.self.view_is, found) (c.self.invariant.1 c.args.path.now)
