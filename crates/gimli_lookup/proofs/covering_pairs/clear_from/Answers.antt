use Rattle.std.proofs.Common.{◌<◌, ℕ, List, length, subst, arith}
use Rattle.std.proofs.lemmas.List.{take_all}
use Rattle.gimli_lookup.specs.inside.UnitSearch.{AreClear}
use Rattle.gimli_lookup.proofs.CoveringSearches.{clear_next}
use Rattle.gimli_lookup.proofs.covering_pairs.clear_from.Goals as goal

pub loop-a-preserved : goal.loop-a-preserved
loop-a-preserved c =
    let i = c.loop-a.a-index in
    let lt : i < length c.args.addresses.now = omega arith in
    clear_next c.args.addresses.now i c.args.from c.loop-a.clear c.nearer-clear.result lt c.loop-a.invariant
    c.nearer-clear.ensures.found
    c.nearer-clear.ensures.asked

pub returns : goal.returns
returns c =
    subst (λ (xs : List ℕ). AreClear xs c.args.from c.loop-a.clear)
    (take_all c.loop-a.a-index c.args.addresses.now (omega (arith, c.loop-a-test.false))) c.loop-a.invariant
