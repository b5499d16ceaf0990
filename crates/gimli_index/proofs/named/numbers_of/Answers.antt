use Rattle.std.proofs.Common.{◌∙◌, ◌<◌, ◌≤◌, ◌+◌, ◌++◌, ◌∷◌, [], ℕ, Bool, false, List, length, drop, ap, sym}
use Rattle.std.proofs.Common.{arith}
use Rattle.std.proofs.Common.{append_assoc}
use Rattle.std.proofs.lemmas.List.{drop_all, drop_more}
use Rattle.gimli_index.specs.inside.Kept.{numbers_from}
use Rattle.gimli_index.proofs.Lists.{append_none}
use Rattle.gimli_index.proofs.named.numbers_of.Goals as goal

pub loop-mark-preserved : goal.loop-mark-preserved
loop-mark-preserved c =
    let named = c.args.named.now in
    let i = c.loop-mark.mark-index in
    let old = c.loop-mark.numbers.items in
    let n = c.loop-mark.next in
    let inside : i < length named = omega arith in
    let rest = drop (i + 1) named in
    record {
      low = omega (arith, c.loop-mark.invariant.low, c.after-next.ensures.most);
      made =
          ap (λ (xs : List ℕ). xs ++ numbers_from c.after-next.result rest) c.in_ok-push.ensures.items
          ∙ append_assoc old (n ∷ []) (numbers_from c.after-next.result rest)
          ∙ ap (λ (m : ℕ). old ++ (n ∷ numbers_from m rest)) c.after-next.ensures.is
          ∙ ap (λ (ms : List Bool). old ++ numbers_from n ms) (sym (drop_more named i false inside))
          ∙ c.loop-mark.invariant.made;
    }

pub returns : goal.returns
returns c =
    let named = c.args.named.now in
    let past : length named ≤ c.loop-mark.mark-index = omega arith in
    sym (append_none c.loop-mark.numbers.items)
    ∙ ap (λ (ms : List Bool). c.loop-mark.numbers.items ++ numbers_from c.loop-mark.next ms)
    (sym (drop_all c.loop-mark.mark-index named past))
    ∙ c.loop-mark.invariant.made
