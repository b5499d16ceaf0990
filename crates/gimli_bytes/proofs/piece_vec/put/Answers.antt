use Rattle.std.specs.Prelude.{◌≡◌, ◌+◌, ◌<◌, ◌≤◌, ◌++◌, ◌/◌, ◌%◌}
use Rattle.gimli_bytes.proofs
use proofs.Common
use Common.{arith, ◌∙◌, length, List, ℕ, ap, length-append, take-append-drop, All-set, put_over}
use Rattle.std.proofs.Common.{length-set}
use Rattle.std.proofs.lemmas.Grind.{common_steps}
use proofs.PieceLemmas.{piece-inside, put-step, length-put_over, length-concat}
use proofs.piece_vec.put.Goals as goal

pub index_mut-piece-requires : goal.index_mut-piece-requires
index_mut-piece-requires c = grind (arith, common_steps, piece-inside)

pub put-requires : goal.put-requires
put-requires c = grind (arith, common_steps, piece-inside)

pub loop-rest-preserved : goal.loop-rest-preserved
loop-rest-preserved c =
    let n = c.args.size in
    let at = c.loop-rest.at in
    let ps = c.loop-rest.pieces.items in
    let piece = c.index_mut-piece.result.now in
    let some : 0 < length c.loop-rest.rest.now = grind (arith, common_steps) in
    let inside = piece-inside n at ps c.requires.size c.loop-rest.invariant.sizes (omega (arith)) in
    let size = ap (λ (l : List ℕ). length l) c.index_mut-piece.ensures.value
    ∙ c.loop-rest.invariant.sizes (at / n) piece inside in
    let fits : at % n + length c.split_at.result.0.now
    ≤ n = omega (arith) in
    let parts : c.split_at.result.0.now ++ c.split_at.result.1.now ≡ c.loop-rest.rest.now =
    rw (c.split_at.ensures.front, c.split_at.ensures.back) (take-append-drop c.min.result c.loop-rest.rest.now) in
    let counted = length-append c.split_at.result.0.now c.split_at.result.1.now in
    let whole = ap (λ (l : List ℕ). length l) parts in
    let same : length c.put.new.self ≡ n =
    ap (λ (l : List ℕ). length l) c.put.ensures ∙ length-put_over piece (at % n) c.split_at.result.0.now (omega arith)
    ∙ size in
    let sizes = All-set (λ piece. length piece ≡ n) ps (at / n) c.put.new.self same c.loop-rest.invariant.sizes in
    let count = length-set ps (at / n) c.put.new.self in
    let before = length-concat n _ c.loop-rest.invariant.sizes in
    let after = length-concat n _ sizes in
    let is = c.put.ensures
    ∙ ap (λ (q : List ℕ). put_over q (at % n) c.split_at.result.0.now) c.index_mut-piece.ensures.value in
    record {
      sizes = sizes;
      count = count ∙ c.loop-rest.invariant.count;
      fits = rw (after, count) (omega (arith));
      end = omega (arith);
      bytes = put-step n at ps piece c.split_at.result.0.now c.split_at.result.1.now c.loop-rest.rest.now c.put.new.self
          c.loop-rest.invariant.sizes inside parts
          c.loop-rest.invariant.fits fits is ∙ c.loop-rest.invariant.bytes;
    }
