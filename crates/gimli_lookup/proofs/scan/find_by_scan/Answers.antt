use Rattle.std.proofs.Common.{◌≡◌, ◌≤◌, ◌<◌, ◌+◌, ℕ, subst, sym, inl, inr, arith}
use Rattle.std.specs.Prelude.{slice_index_or}
use Rattle.std.proofs.lemmas.Bool.{leb-true, leb-false}
use Rattle.std.proofs.lemmas.Option.{slice_get_within}
use Rattle.gimli_line.specs.declared.run.row.LineRow.{LineRow}
use Rattle.gimli_lookup.proofs.Pairs.{first_scanned, none_more}
use Rattle.gimli_lookup.proofs.scan.find_by_scan.Goals.{
  else-is_from-via-then-is_from+else-a-address,
  else-is_from-via-else-is_from,
}
use Rattle.gimli_lookup.proofs.scan.find_by_scan.Goals as goal

pub returns-then-a-address-clause-pair : goal.returns-then-a-address-clause-pair
returns-then-a-address-clause-pair c =
    let i = c.loop-index.invariant in
    let from = i.from c.if-is_from.true in
    let y = c.pair.result.1 in
    first_scanned c.args.a c.args.rows.now c.loop-index.index c.pair.result.0 y from.0 from.1
    (omega (arith, c.address-address.ensures.address y, c.if-a-address.true)) c.pair.ensures.first c.pair.ensures.second
    i.none

pub loop-index-preserved : goal.loop-index-preserved
loop-index-preserved c =
    let i = c.loop-index.invariant in
    let a = c.args.a in
    let rows = c.args.rows.now in
    let index = c.loop-index.index in
    let address = c.address-address.result in
    record {
      count = omega (arith, c.address-address.ensures.counted, i.count);
      from = λ t. (
        omega arith,
        λ k d e. let same : k ≡ index = omega arith in
            subst (λ (j : ℕ). (slice_index_or rows j d).address ≤ a) (sym same)
            (omega (arith, leb-true address a t, c.address-address.ensures.address d)),
      );
      above = λ t k d e.
          let same : k ≡ index = omega arith in
          subst (λ (j : ℕ). a < (slice_index_or rows j d).address) (sym same)
          (omega (arith, leb-false address a t, c.address-address.ensures.address d));
      none = none_more a rows index i.none (elim c.else-is_from.branch [
        | else-is_from-via-then-is_from+else-a-address w ↦
            inr (λ (d : LineRow). omega (arith, w.if-a-address.false, c.address-address.ensures.address d))
        | else-is_from-via-else-is_from w ↦ inl (i.above w.if-is_from.false)
      ]);
    }

pub returns-clause-pair : goal.returns-clause-pair
returns-clause-pair c = λ k x y p. c.loop-index.invariant.none k x y
    (omega
    (arith, slice_get_within c.args.rows.now (k + 1) y p.second, c.loop-index-test.false, c.len-index-end.ensures))
    p
