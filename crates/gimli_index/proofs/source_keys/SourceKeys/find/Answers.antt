use Rattle.std.proofs.Common.{◌≡◌, rules}
use Rattle.gimli_index.specs.inside.Numbered.{number_of_key}
use Rattle.gimli_index.proofs.source_keys.SourceKeys.find.Goals as goal

pub returns : goal.returns
returns c =
    let found : c.copied.result ≡ number_of_key c.self.inside.numbers.entries c.args.key = search rules in
    rw (← c.self.view_is, found) (c.self.invariant c.args.key)
