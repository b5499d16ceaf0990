use Rattle.std.specs.Prelude.{◌≡◌, ◌<◌}
use Rattle.gimli_build.proofs
use proofs.Common.{ℕ, ap, length, ◌∙◌, arith, at_position, next_previous}
use proofs.reading.EventsBack.{start_position}
use proofs.writing.ItemsWritten.{taken_next, fit_more, way_on, none_standing, written_more, items_unwritten}
use proofs.writing.Joined.{next_left}
use proofs.writing.Writes.{passed_on}
use proofs.rows.encode.write_items.Goals as goal

pub loop-item-init : goal.loop-item-init
loop-item-init g c =
    let e = c.args.line_encoding in
    record {
      fit = tt;
      way =
          grind (arith, start_position);
      so =
          rw c.initial-initial.ensures (none_standing _ _ _ e _
          _ _);
    }

pub loop-item-preserved : goal.loop-item-preserved
loop-item-preserved g c =
    let e = c.args.line_encoding in
    let version = c.args.encoding.version in
    let items = c.args.items.now in
    let item = c.item-item.result in
    let i = c.loop-item.item-index in
    let place = c.loop-item.place.now in
    let position : ℕ × ℕ = (place.address_offset, place.op_index) in
    let previous = at_position position c.loop-item.previous.now in
    let lt : i < length items = omega arith in
    let split = next_left _ i _ lt c.item-item.is in
    let way = rw split at c.loop-item.invariant.way in
    let so = rw split at c.loop-item.invariant.so in
    let next = c.next_row-next.ensures version e.default_is_stmt position c.initial-initial.ensures in
    let after = c.place_after-next_place.result.now in
    let moved : at_position (after.address_offset, after.op_index) c.next_row-next.result.now
    ≡ next_previous version e.default_is_stmt previous item =
    ap (λ p. at_position p c.next_row-next.result.now)
    (c.place_after-next_place.ensures version e.default_is_stmt c.initial-initial.ensures) ∙ next in
    record {
      fit =
          rw (taken_next _ i _ lt c.item-item.is)
          (fit_more _ _ _ c.loop-item.invariant.fit c.in_ok-write_item.ensures.fit);
      way = rw moved (way_on _ e c.requires.can _ _ _ way);
      so = rw moved (written_more so (rw so.ordered at c.in_ok-write_item.ensures.writes));
    }

pub returns-in_err-write_item-clause-writes : goal.returns-in_err-write_item-clause-writes
returns-in_err-write_item-clause-writes g c =
    let items = c.args.items.now in
    let i = c.loop-item.item-index in
    let lt : i < length items = omega arith in
    let so = rw (next_left items i c.item-item.result lt c.item-item.is) at c.loop-item.invariant.so in
    passed_on c.from_residual.ensures.1 (items_unwritten so (rw so.ordered at c.in_err-write_item.ensures.writes))
