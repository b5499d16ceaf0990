use Rattle.std.specs.Prelude.{◌≡◌, ◌<◌}
use Rattle.gimli_build.proofs
use proofs.Common.{ℕ, ap, length, ◌∙◌, arith, at_position, next_previous}
use Rattle.std.proofs.lemmas.List.{drop_all}
use proofs.reading.EventsBack.{start_position}
use proofs.writing.ItemsWritten.{way_on}
use proofs.writing.Joined.{next_left}
use proofs.sizes.Saturated.{at_most}
use proofs.sizes.ItemSizes.{nearer, from_nothing, reached}
use proofs.rows.sizes.items_size.Goals as goal

pub loop-item-init : goal.loop-item-init
loop-item-init c =
    let e = c.args.line_encoding in
    record {
      small = omega arith;
      way = grind (arith, start_position);
      so = rw c.initial-initial.ensures (from_nothing _ _);
    }

pub loop-item-preserved : goal.loop-item-preserved
loop-item-preserved c =
    let e = c.args.line_encoding in
    let encoding = c.args.encoding in
    let items = c.args.items.now in
    let item = c.item-item.result in
    let i = c.loop-item.item-index in
    let place = c.loop-item.place.now in
    let position : ℕ × ℕ = (place.address_offset, place.op_index) in
    let previous = at_position position c.loop-item.previous.now in
    let lt : i < length items = omega arith in
    let split = next_left _ i _ lt c.item-item.is in
    let way = rw split at c.loop-item.invariant.way in
    let so = rw split at c.loop-item.invariant.so in
    let next = c.next_row-next.ensures encoding.version e.default_is_stmt position c.initial-initial.ensures in
    let after = c.place_after-next_place.result.now in
    let moved : at_position (after.address_offset, after.op_index) c.next_row-next.result.now
    ≡ next_previous encoding.version e.default_is_stmt previous item =
    ap (λ p. at_position p c.next_row-next.result.now)
    (c.place_after-next_place.ensures encoding.version e.default_is_stmt c.initial-initial.ensures) ∙ next in
    record {
      small = at_most _ _ _ c.saturating_add-size.ensures;
      way = rw moved (way_on _ e c.requires.can _ _ _ way);
      so = rw moved (nearer _ _ _ _ _ c.saturating_add-size.ensures c.item_size.ensures ∙ so);
    }

pub returns : goal.returns
returns c =
    let ended = drop_all c.loop-item.item-index c.args.items.now (omega arith) in
    reached _ _ _ c.loop-item.invariant.small (rw ended at c.loop-item.invariant.so)
