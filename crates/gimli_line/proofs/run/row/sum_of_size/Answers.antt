use Rattle.gimli_line.proofs
use proofs.Common.{refl, arith}
use proofs.AddressSizes.{sum_fits}
use proofs.run.row.sum_of_size.Goals as goal

pub returns-then-size-gt4 : goal.returns-then-size-gt4
returns-then-size-gt4 c =
    sum_fits c.args.address c.args.length c.args.size _ c.requires c.if-size-gt4.true (omega (arith, c.ranges.length))
    refl c.if-address-sum.true
    (omega (arith, c.ranges.address))
