use Rattle.std.specs.Prelude.{◌≡◌, ◌-◌, ◌++◌, ◌∷◌}
use Rattle.gimli_bytes.proofs
use proofs.Common
use Common.{ℕ, take, arith, ap, ◌∙◌, sym, pos, to_z, of_z, w64, [], ints, take_more_set, length-set, int_div_euclid}
use Rattle.gimli_bytes.specs.Number.{sleb, sleb_within}
use proofs.LebLemmas.{sleb_end, sleb_step}
use proofs.leb128.Leb128.signed.Goals as goal

pub returns-then-has_seven_bits : goal.returns-then-has_seven_bits
unfolding sleb
returns-then-has_seven_bits c =
    let back : to_z w64 (of_z w64 c.args.val) ≡ c.args.val = omega (arith, ints) in
    rw c.low_bits-low.ensures.value (sleb_end _ _ _ _
    (omega (arith, c.loop-len.invariant.ten)) (sym c.if-has_seven_bits.ensures) c.loop-len.invariant.so
    ∙ ap (sleb_within 9) back)

pub loop-len-preserved : goal.loop-len-preserved
loop-len-preserved c =
    let wide : to_z w64 (of_z w64 c.div_euclid-rest.result) ≡ c.div_euclid-rest.result = omega (arith, ints) in
    let back : to_z w64 (of_z w64 c.div_euclid-rest.result)
    ≡ int_div_euclid (to_z w64 c.loop-len.rest-bits) (pos 128) = wide ∙ c.div_euclid-rest.ensures in
    record {
      ten = grind (arith, length-set);
      so = grind (arith, sleb_step);
    }

pub returns : goal.returns
unfolding sleb sleb_within
returns c =
    let back : to_z w64 (of_z w64 c.args.val) ≡ c.args.val = omega (arith, ints) in
    let nine : c.loop-len.len ≡ 9 = omega arith in
    take_more_set c.loop-len.bytes 9 c.low_bits.result (omega (arith, c.loop-len.invariant.ten))
    ∙ ap (λ (x : ℕ). take 9 c.loop-len.bytes ++ x ∷ []) c.low_bits.ensures.value
    ∙ ap (λ (i : ℕ). take i c.loop-len.bytes ++ sleb_within (9 - i) (to_z w64 c.loop-len.rest-bits)) (sym nine)
    ∙ c.loop-len.invariant.so ∙ ap (sleb_within 9) back
