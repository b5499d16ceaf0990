use Rattle.std.proofs.Common.{List, ℕ, inl, inr, refl, rules, subst, sym}
use Rattle.gimli_c.specs.MadeIndex.{IsIndexBytesOf, source_handed}
use Rattle.gimli_c.proofs.Copied.{copied, not_copied, not_copied_at}
use Rattle.gimli_c.proofs.MadeIndexes.{refusal_is_none, same_index}
use Rattle.gimli_c.proofs.index.write.gimli_line_proved_index_write.Goals as goal

pub returns-then-options-ne-OPTIONS_SIZE-clause-index : goal.returns-then-options-ne-OPTIONS_SIZE-clause-index
returns-then-options-ne-OPTIONS_SIZE-clause-index c =
    not_copied_at _ _ _ _ _ refl refl (inr (inr (refl, c.if-options-ne-OPTIONS_SIZE.true)))

pub returns-then-not-is_address_size-clause-index : goal.returns-then-not-is_address_size-clause-index
returns-then-not-is_address_size-clause-index c =
    not_copied_at _ _ _ _ _ refl refl (inr (inl (refl, search rules)))

pub returns-in-Err-clause-index : goal.returns-in-Err-clause-index
returns-in-Err-clause-index c =
    let none = refusal_is_none _ c.in-Err.ensures.err in
    not_copied _ _ _ _ _ none.0 none.1 (inl c.in-Err.ensures.err)

pub returns-in-Ok-clause-index : goal.returns-in-Ok-clause-index
returns-in-Ok-clause-index c =
    copied _ _ _ _ _ _ _ _
    (subst
    (λ (xs : List ℕ).
    IsIndexBytesOf
    (source_handed c.args.options.now c.args.section.now c.args.line_strings.now c.args.strings.now c.args.info.now
    c.args.abbreviations.now c.args.string_offsets.now c.args.identity.now)
    xs)
    (sym c.as_slice.ensures.value)
    (same_index c.args.section.now c.args.options.now.is_big _ _ _ _ _ _ _ _ c.args.identity.now _
    c.new.ensures.bytes
    c.new-2.ensures.bytes
    c.sections_in-sections.ensures c.in-Ok.ensures.ok))
    c.put_bytes.ensures
