use Rattle.std.specs.Prelude.{◌≡◌, ◌∷◌, ◌++◌}
use Rattle.gimli_bytes.proofs
use proofs.Common
use Common.{rules, sym, ap, ◌∙◌, [], false, true, arith, slice_get, with_text, index_of_text, texts_of}
use proofs.TextLemmas.{is_there, not_there, index_there, place_new, texts_new, with_text-there, offsets_new}
use proofs.TextLemmas.{with_text-found, with_text-KeepsTexts}
use proofs.str.Texts.add.Goals as goal

pub returns-in-Some-clause-ok : goal.returns-in-Some-clause-ok
returns-in-Some-clause-ok c = grind (arith, is_there)

pub returns-in-Some-clause-id : goal.returns-in-Some-clause-id
returns-in-Some-clause-id c = rw (← c.self.view_is)
    (index_there c.self.inside.strings.keys c.args.text.now c.in-Some.index c.in-Some.ensures.index)

added : (c : goal.After-self-1)
    → texts_of c.insert_full.new.self.keys ≡ with_text (texts_of c.self.inside.strings.keys) c.args.text.now
added c = ap texts_of c.in_ok-index.ensures.keys
    ∙ texts_new _ _ c.in_ok-copy.copy (search rules) c.in_default.ensures.found

listed : (c : goal.After-self-1)
    → c.push_reserved.new.self.items ≡ c.self.inside.offsets.items ++ c.self.inside.len ∷ []
listed c = grind (arith)

pub invariant_of-self-2 : goal.invariant_of-self-2
invariant_of-self-2 c =
    let absent = is_there c.self.inside.strings.keys c.args.text.now false c.in_default.ensures.found in
    rw (added c, listed c) (offsets_new (texts_of c.self.inside.strings.keys) c.args.text.now
    c.self.inside.offsets.items c.self.inside.len c.self.invariant absent c.requires)

pub returns-clause-ok : goal.returns-clause-ok
returns-clause-ok c = grind (arith, added)

pub returns-clause-id : goal.returns-clause-id
returns-clause-id c =
    let same : c.in_ok-copy.copy.items ≡ c.args.text.now = search rules in
    rw (← c.self.view_is)
    (c.in_ok-index.ensures.index ∙ place_new c.self.inside.strings.keys c.args.text.now c.in_ok-copy.copy same)

pub returns-in-Some-clause-found : goal.returns-in-Some-clause-found
returns-in-Some-clause-found c =
    let there = with_text-there (texts_of c.self.inside.strings.keys) c.args.text.now
    (is_there c.self.inside.strings.keys c.args.text.now true c.in-Some.ensures.found) in
    let place = index_there c.self.inside.strings.keys c.args.text.now c.in-Some.index c.in-Some.ensures.index in
    rw (← c.self.view_is) (ap (slice_get (texts_of c.self.inside.strings.keys)) place
    ∙ ap (λ ts. slice_get ts (index_of_text (texts_of c.self.inside.strings.keys) c.args.text.now)) (sym there)
    ∙ with_text-found (texts_of c.self.inside.strings.keys) c.args.text.now)

pub returns-clause-found : goal.returns-clause-found
returns-clause-found c =
    let same : c.in_ok-copy.copy.items ≡ c.args.text.now = search rules in
    let place =
    c.in_ok-index.ensures.index ∙ place_new c.self.inside.strings.keys c.args.text.now c.in_ok-copy.copy same in
    rw (added c) (ap (slice_get (with_text (texts_of c.self.inside.strings.keys) c.args.text.now)) place
    ∙ with_text-found (texts_of c.self.inside.strings.keys) c.args.text.now)

pub returns-clause-stays : goal.returns-clause-stays
returns-clause-stays c = grind (arith, added, with_text-KeepsTexts)

pub returns-then-text-self-clause-there : goal.returns-then-text-self-clause-there
returns-then-text-self-clause-there c =
    rw (← c.self.view_is) (λ there. absurd (not_there _ _ c.in_default.ensures.found there))

pub returns-in_err-copy-clause-there : goal.returns-in_err-copy-clause-there
returns-in_err-copy-clause-there c =
    rw (← c.self.view_is) (λ there. absurd (not_there _ _ c.in_default.ensures.found there))

pub returns-in_err-index-clause-there : goal.returns-in_err-index-clause-there
returns-in_err-index-clause-there c =
    rw (← c.self.view_is) (λ there. absurd (not_there _ _ c.in_default.ensures.found there))

pub returns-in_err-reserve-clause-there : goal.returns-in_err-reserve-clause-there
returns-in_err-reserve-clause-there c =
    rw (← c.self.view_is) (λ there. absurd (not_there _ _ c.in_default.ensures.found there))
