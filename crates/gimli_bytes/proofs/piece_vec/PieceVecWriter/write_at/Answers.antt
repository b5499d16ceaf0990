use Rattle.std.specs.Prelude.{◌≡◌, ◌+◌, ◌≤◌}
use Rattle.gimli_bytes.proofs
use proofs.Common.{arith, length, take, refl, concat}
use proofs.PieceLemmas.{HoldPieces-same, bytes-within, bytes-length, bytes-over, take-before}
use proofs.piece_vec.PieceVecWriter.write_at.Goals as goal

pub returns-then-bytes-self : goal.returns-then-bytes-self
returns-then-bytes-self g c = grind (arith, bytes-length)

pub put-requires-clause-fits : goal.put-requires-clause-fits
put-requires-clause-fits g c = omega (arith, bytes-within _ _ _ c.self.invariant)

pub returns : goal.returns
returns g c =
    let old = take c.self.inside.len (concat c.self.inside.pieces.items) in
    let size : length old ≡ c.self.inside.len = bytes-length _ _ _ c.self.invariant in
    let fits : c.args.offset + length c.args.bytes.now ≤ c.self.inside.len = omega arith in
    let over = bytes-over _ _ c.args.offset _ c.put.new.pieces.items c.args.bytes.now c.self.invariant fits
    c.put.ensures.bytes in
    let same = HoldPieces-same _ _ _ _ c.self.invariant c.put.ensures.sizes c.put.ensures.count in
    rw (← c.self.view_is) (record {
      len = grind (arith, bytes-length);
      before = grind (arith, take-before);
      ordered = refl;
      stays = λ completes. completes;
      unrefused = λ unrefused. unrefused;
      refused = tt;
      completed = grind (arith);
      ok = grind (arith);
      err = λ _. tt;
      own = tt;
      completed_own = grind (arith);
    })
