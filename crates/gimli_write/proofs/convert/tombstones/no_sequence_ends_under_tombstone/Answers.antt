use Rattle.std.specs.Prelude.{◌≡◌}
use Rattle.gimli_write.proofs
use proofs.Common.{true, false, refl, sym, ◌∙◌}
use proofs.Tombstones.{all_seen, seen_all, from_start}
use proofs.convert.tombstones.no_sequence_ends_under_tombstone.Goals as goal

pub returns-in-None : goal.returns-in-None
returns-in-None g c =
    let h = c.args.program.now.meaning in
    let layout = c.args.program.now.layout in
    let lent : c.header-header.result.now.meaning ≡ h = rw c.header-header.ensures refl in
    let order : c.header-header.result.now.layout ≡ layout = rw c.header-header.ensures refl in
    let says = rw c.in-None.is at c.step.ensures in (
      λ _. all_seen layout h h.program
          (from_start layout h _ _ _ lent order c.start-watch.ensures true (c.points.invariant ∙ says)),
      λ _. refl,
    )

pub returns-in-Some-true : goal.returns-in-Some-true
returns-in-Some-true g c =
    let h = c.args.program.now.meaning in
    let layout = c.args.program.now.layout in
    let lent : c.header-header.result.now.meaning ≡ h = rw c.header-header.ensures refl in
    let order : c.header-header.result.now.layout ≡ layout = rw c.header-header.ensures refl in
    let says = rw c.in-Some-true.field-0-test at (rw c.in-Some-true.is at c.step.ensures) in (
      λ is. absurd cc,
      λ none.
          let never =
          sym (seen_all layout h h.program none)
          ∙ from_start layout h _ _ _ lent order c.start-watch.ensures false (c.points.invariant ∙ says) in absurd cc,
    )
