use Rattle.std.proofs.Common.{◌≡◌, ◌≢◌, ◌∙◌, ◌++◌, ◌∷◌, [], List, ℕ, ap, sym, subst, length, rules}
use Rattle.std.specs.Prelude.{All}
use Rattle.gimli_index.specs.inside.Numbered.{texts_in_turn}
use Rattle.gimli_index.proofs.Numbered.{still_numbered, text_pushed}
use Rattle.gimli_index.proofs.path_set.PathSet.add.Goals as goal

pub invariant_of-self-2 : goal.invariant_of-self-2
invariant_of-self-2 c =
    let same : c.in_ok-copy.copy.items ≡ c.args.path.now = search rules in
    let count : c.len-number.result ≡ length c.self.inside.numbers.entries = search rules in
    rw c.in_ok-insert.ensures.entries (still_numbered c.self.inside.numbers.entries c.in_ok-copy.copy c.args.path.now
    c.len-number.result same count (subst (All (λ p. p ≢ c.args.path.now)) (sym c.self.view_is) c.requires)
    c.self.invariant)

pub returns : goal.returns
returns c =
    let same : c.in_ok-copy.copy.items ≡ c.args.path.now = search rules in
    let count : c.len-number.result ≡ length c.self.inside.numbers.entries = search rules in
    ap texts_in_turn c.in_ok-insert.ensures.entries
    ∙ text_pushed c.self.inside.numbers.entries c.in_ok-copy.copy c.args.path.now c.len-number.result same count
    (subst (All (λ p. p ≢ c.args.path.now)) (sym c.self.view_is) c.requires) c.self.invariant
    ∙ ap (λ (known : List (List ℕ)). known ++ c.args.path.now ∷ []) c.self.view_is
