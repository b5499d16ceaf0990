use Rattle.std.specs.Prelude.{◌≡◌, ◌-◌, ◌++◌}
use Rattle.gimli_bytes.proofs
use proofs.Common.{ℕ, take, arith, ap, ◌∙◌, sym, take_more_set, length-set, uleb_within}
use Rattle.gimli_bytes.specs.Number.{uleb}
use proofs.LebLemmas.{uleb_end, uleb_step}
use proofs.leb128.Leb128.unsigned.Goals as goal

pub returns-then-rest-lt128 : goal.returns-then-rest-lt128
unfolding uleb
returns-then-rest-lt128 c = uleb_end _ _ _ _ (omega arith) c.if-rest-lt128.true c.loop-len.invariant.so

pub loop-len-preserved : goal.loop-len-preserved
loop-len-preserved c = grind (arith, length-set, uleb_step)

pub returns : goal.returns
unfolding uleb
returns c =
    let nine : c.loop-len.len ≡ 9 = omega arith in
    take_more_set c.loop-len.bytes 9 _ (omega arith)
    ∙ ap (λ (i : ℕ). take i c.loop-len.bytes ++ uleb_within (9 - i) c.loop-len.rest) (sym nine)
    ∙ c.loop-len.invariant.so
