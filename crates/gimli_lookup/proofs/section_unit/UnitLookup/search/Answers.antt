use Rattle.std.proofs.Common.{◌≡◌, ◌≢◌, ◌⊎◌, true, not, is_some, List, length, refl, sym, ap, subst, ◌∙◌, inl, inr}
use Rattle.std.proofs.Common.{rules, arith}
use Rattle.gimli_lookup.specs.declared.section_lookup.CoveringRows.{CoveringRows}
use Rattle.gimli_lookup.specs.inside.Section.{bare_unit}
use Rattle.gimli_lookup.specs.inside.UnitSearch.{AreKeptBehind}
use Rattle.gimli_lookup.proofs.SectionSearches.{none_is, refused, searched}
use Rattle.gimli_line.proofs.Sources.{still_one}
use Rattle.gimli_lookup.proofs.section_unit.UnitLookup.search.Goals.{
  else-len-before-via-then-len-before+else-is_none,
  else-len-before-via-else-len-before,
}
use Rattle.gimli_lookup.proofs.section_unit.UnitLookup.search.Goals as goal

pub returns-in-Err-clause-searched : goal.returns-in-Err-clause-searched
returns-in-Err-clause-searched g c =
    rw (c.in-Err.is, c.bare.ensures)
    (refused c.args.lowest c.args.index c.args.addresses.now c.in-Err.e (g.R.Offset.ReaderOffset.number c.args.offset.0)
    c.args.pairs.now.items)

pub returns-then-is_none-clause-searched : goal.returns-then-is_none-clause-searched
returns-then-is_none-clause-searched g c =
    let found = c.in_ok-found-in-Ok.found in
    let parts = c.in_ok-found-in-Ok.ensures.found in
    let old = c.args.pairs.now.items in
    let new = c.keep_pairs.new.pairs.items in
    let kept =
    subst (λ (ps : List CoveringRows). AreKeptBehind c.args.addresses.now old ps new) c.deref.ensures.value
    c.in_ok-keep_pairs.ensures.ok in
    let before : c.len-before.result ≡ length old = search rules in
    let after : c.len.result ≡ length new = search rules in
    let none = none_is found.fault (c.is_none.ensures ∙ ap (λ b. not b) c.if-is_none.true) in
    let offset = g.R.Offset.ReaderOffset.number c.args.offset.0 in
    let bare = c.bare-then-is_none.ensures ∙ ap (λ o. bare_unit offset o) (sym none) in
    rw c.in-Ok.is
    (searched c.args.lowest c.args.index c.args.addresses.now c.in-Ok.program found.run offset found.fault
    c.bare-then-is_none.result old found.pairs.items new
    parts.0 parts.1 c.in_ok-found-in-Ok.ensures.run.source.layout parts.2 kept
    (inr (omega (arith, before, after, c.if-len-before.true), none, bare)))

pub invariant_of-result : goal.invariant_of-result
invariant_of-result g c =
    let order = rw c.in-Ok.is at c.requires.order in
    let same = rw c.in-Ok.is at c.requires.offset in
    rw c.in_ok-boxed.ensures.ok (
      still_one _ _ c.in_ok-found-in-Ok.ensures.run (record { readers = order; unread = λ adds. refl }),
      c.in_ok-found-in-Ok.ensures.run.source.offset ∙ ap (λ o. g.R.Offset.ReaderOffset.number o.0) same,
    )

pub returns-clause-searched : goal.returns-clause-searched
returns-clause-searched g c =
    let found = c.in_ok-found-in-Ok.found in
    let parts = c.in_ok-found-in-Ok.ensures.found in
    let old = c.args.pairs.now.items in
    let new = c.keep_pairs.new.pairs.items in
    let kept =
    subst (λ (ps : List CoveringRows). AreKeptBehind c.args.addresses.now old ps new) c.deref.ensures.value
    c.in_ok-keep_pairs.ensures.ok in
    let before : c.len-before.result ≡ length old = search rules in
    let after : c.len.result ≡ length new = search rules in
    let needed : (length new ≢ length old) ⊎ (is_some found.fault ≡ true) = elim c.else-len-before.branch [
      | else-len-before-via-then-len-before+else-is_none w ↦
          inr (w.is_none.ensures ∙ ap (λ b. not b) w.if-is_none.false)
      | else-len-before-via-else-len-before w ↦
          inl (λ same. omega (arith, before, after, same, w.if-len-before.false))
    ] in
    rw (c.in-Ok.is, c.in_ok-boxed.ensures.ok)
    (searched c.args.lowest c.args.index c.args.addresses.now c.in-Ok.program found.run
    (g.R.Offset.ReaderOffset.number c.args.offset.0) found.fault _ old
    found.pairs.items new
    parts.0 parts.1 c.in_ok-found-in-Ok.ensures.run.source.layout parts.2 kept (inl (needed, refl)))
