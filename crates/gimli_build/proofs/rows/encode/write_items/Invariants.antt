use Rattle.gimli_build.proofs
use proofs.Common.{drop, take, Hand, items_bytes, AreFit, initial_row, at_position}
use proofs.writing.ItemsWritten.{OnTheWay, Written}
use proofs.rows.encode.write_items.Given as goal

abbrev pub invariant-loop-item : goal.invariant-loop-item
invariant-loop-item g l =
    let is_big = g.W.Sink.is_big l.fn.w in
    let e = l.line_encoding in
    let previous = at_position (l.place.address_offset, l.place.op_index) l.previous in
    let left = drop l.item-index l.items in
    record {
      fit : AreFit l.encoding.version (take l.item-index l.items);
      way : OnTheWay e previous left;
      so : Written g.W.Sink is_big l.encoding e
          (λ (hand : Hand). items_bytes hand is_big l.encoding e (initial_row l.encoding.version e.default_is_stmt)
          l.items)
          l.fn.w l.w previous left;
    }
