use Rattle.std.specs.Prelude.{◌≡◌, ◌++◌}
use Rattle.gimli_bytes.proofs
use proofs.Common.{rules, length, arith}
use proofs.PieceLemmas.{
  count-below,
  HoldPieces-grown,
  HoldPieces-same,
  bytes-within,
  bytes-length,
  bytes-more,
  no_piece,
}
use proofs.piece_vec.PieceVec.write.Goals as goal

pub overflow_sub-div_ceil : goal.overflow_sub-div_ceil
overflow_sub-div_ceil g c = grind (arith, rules, count-below)

pub put-requires-clause-sizes : goal.put-requires-clause-sizes
put-requires-clause-sizes g c =
    let size : c.len.result ≡ length c.self.inside.pieces.items = search rules in
    let items : c.append.new.self.items ≡ c.self.inside.pieces.items ++ c.in_ok-added.added.items = search rules in
    (HoldPieces-grown _ _ _ _ _ _ _ _ c.self.invariant items c.in_ok-added.ensures.sizes c.in_ok-added.ensures.count
    c.div_ceil.ensures
    size).sizes

pub put-requires-clause-fits : goal.put-requires-clause-fits
put-requires-clause-fits g c =
    let size : c.len.result ≡ length c.self.inside.pieces.items = search rules in
    let items : c.append.new.self.items ≡ c.self.inside.pieces.items ++ c.in_ok-added.added.items = search rules in
    bytes-within _ _ _
    (HoldPieces-grown _ _ _ _ _ _ _ _ c.self.invariant items c.in_ok-added.ensures.sizes c.in_ok-added.ensures.count
    c.div_ceil.ensures size)

pub invariant_of-self-2 : goal.invariant_of-self-2
invariant_of-self-2 g c =
    let size : c.len.result ≡ length c.self.inside.pieces.items = search rules in
    let items : c.append.new.self.items ≡ c.self.inside.pieces.items ++ c.in_ok-added.added.items = search rules in
    let grown =
    HoldPieces-grown _ _ _ _ _ _ _ _ c.self.invariant items c.in_ok-added.ensures.sizes c.in_ok-added.ensures.count
    c.div_ceil.ensures size in
    HoldPieces-same _ _ _ _ grown c.put.ensures.sizes c.put.ensures.count

pub returns-clause-ok : goal.returns-clause-ok
returns-clause-ok g c = grind (arith, rules, bytes-more)

pub returns-then-bytes-self-clause-room : goal.returns-then-bytes-self-clause-room
returns-then-bytes-self-clause-room g c = grind (arith, bytes-length)

pub returns-in_err-added-clause-room : goal.returns-in_err-added-clause-room
returns-in_err-added-clause-room g c = grind (arith, rules, no_piece)

pub returns-in_err-append-clause-room : goal.returns-in_err-append-clause-room
returns-in_err-append-clause-room g c = grind (arith, rules, no_piece)
