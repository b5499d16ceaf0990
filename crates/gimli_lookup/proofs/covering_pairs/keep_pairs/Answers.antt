use Rattle.std.proofs.Common.{◌<◌, length, arith}
use Rattle.std.proofs.lemmas.List.{get_or_default}
use Rattle.gimli_lookup.proofs.CoveringSearches.{none_kept, kept_next}
use Rattle.gimli_lookup.proofs.covering_pairs.keep_pairs.Goals as goal

pub loop-pair-init : goal.loop-pair-init
loop-pair-init c = none_kept c.args.addresses.now c.args.pairs.now.items

pub loop-pair-preserved : goal.loop-pair-preserved
loop-pair-preserved c =
    let found = c.args.found.now in
    let i = c.loop-pair.pair-index in
    let lt : i < length found = omega arith in
    kept_next c.args.addresses.now c.args.pairs.now.items found i c.loop-pair.pairs.items _ c.keep_pair.new.pairs.items
    lt
    (get_or_default found i _ _ lt) c.loop-pair.invariant c.in_ok-keep_pair.ensures.ok
