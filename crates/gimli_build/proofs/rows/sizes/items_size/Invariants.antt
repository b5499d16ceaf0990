use Rattle.std.specs.Prelude.{◌≡◌, ◌+◌, ◌-◌, ◌^◌, ◌≤◌}
use Rattle.gimli_build.proofs
use proofs.Common.{drop, min, initial_row, at_position}
use Rattle.gimli_build.specs.inside.ItemSizes.{items_size}
use proofs.writing.ItemsWritten.{OnTheWay}
use proofs.rows.sizes.items_size.Given as goal

abbrev pub invariant-loop-item : goal.invariant-loop-item
invariant-loop-item l =
    let e = l.line_encoding in
    let previous = at_position (l.place.address_offset, l.place.op_index) l.previous in
    let left = drop l.item-index l.items in
    record {
      small : l.size ≤ 2 ^ 64 - 1;
      way : OnTheWay e previous left;
      so : min (l.size + items_size l.encoding e previous left) (2 ^ 64 - 1)
          ≡ min (items_size l.encoding e (initial_row l.encoding.version e.default_is_stmt) l.items) (2 ^ 64 - 1);
    }
