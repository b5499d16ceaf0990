use Rattle.std.proofs.Common.{arith}
use Rattle.std.proofs.lemmas.Grind.{common_steps}
use Rattle.gimli_lookup.proofs.Pairs.{never_below_next}
use Rattle.gimli_lookup.proofs.kept_rows.addresses_never_go_down.Goals as goal

pub returns-then-address-lowest : goal.returns-then-address-lowest
returns-then-address-lowest c =
    let next =
    never_below_next c.loop-index.lowest c.address-address.result c.args.rows.now c.loop-index.index (omega arith)
    c.address-address.ensures in
    grind (arith, common_steps)

pub loop-index-preserved : goal.loop-index-preserved
loop-index-preserved c =
    let next =
    never_below_next c.loop-index.lowest c.address-address.result c.args.rows.now c.loop-index.index (omega arith)
    c.address-address.ensures in
    grind (arith, common_steps)
