use Rattle.std.proofs.Common.{arith}
use Rattle.gimli_lookup.proofs.Pairs.{rises}
use Rattle.gimli_lookup.proofs.walk.rows_from.Goals as goal

pub returns-then-a-address_of_row-clause-after : goal.returns-then-a-address_of_row-clause-after
returns-then-a-address_of_row-clause-after c =
    λ k d le lt.
    omega (
      arith,
      rises c.args.rows.now c.loop-count.count k d c.requires.order le lt,
      c.address_of_row.ensures d,
      c.if-a-address_of_row.true,
    )
