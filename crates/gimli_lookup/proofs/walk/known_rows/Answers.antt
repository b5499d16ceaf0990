use Rattle.std.proofs.Common.{◌-◌, ◌<◌, length, arith}
use Rattle.gimli_lookup.proofs.Pairs.{rises}
use Rattle.gimli_lookup.proofs.walk.known_rows.Goals as goal

pub returns-clause-before : goal.returns-clause-before
returns-clause-before c = λ k d lt.
    let rows = c.args.rows.now in
    let last = c.args.near - 1 in
    let inside : last < length rows = omega (arith, c.if-near-eq0.false, c.if-len-near.false, c.len.ensures) in
    omega (
      arith,
      rises rows k last d c.requires.order (omega arith) inside,
      c.address_of_row.ensures d,
      c.if-a-address_of_row.false,
    )
