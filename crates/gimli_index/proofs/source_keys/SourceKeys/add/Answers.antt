use Rattle.std.proofs.Common.{◌≡◌, false, length, rules, is_err}
use Rattle.gimli_index.specs.inside.Numbered.{number_of_key}
use Rattle.gimli_index.proofs.Numbered.{key_pushed, on_success}
use Rattle.gimli_index.proofs.source_keys.SourceKeys.add.Goals as goal

pub invariant_of-self-else-is_err : goal.invariant_of-self-else-is_err
invariant_of-self-else-is_err c =
    let inserted : is_err c.insert.result ≡ false = search rules in
    let count : c.len-number.result ≡ length c.self.inside.keys.items = search rules in
    let updates = on_success c.insert.result _ c.insert.ensures.updates inserted in
    rw c.in_ok-push.ensures.items (key_pushed c.self.inside.keys.items c.args.key c.len-number.result
    (number_of_key c.self.inside.numbers.entries) _ count updates.0 c.self.invariant)
