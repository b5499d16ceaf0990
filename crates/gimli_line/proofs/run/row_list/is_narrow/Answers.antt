use Rattle.std.proofs.Common.{arith}
use Rattle.gimli_line.proofs.NarrowBits.{narrow_by_bits, bits_of_narrow}
use Rattle.gimli_line.proofs.run.row_list.is_narrow.Goals as goal

pub returns-then-row : goal.returns-then-row
returns-then-row c =
    let r = c.args.row.now in
    ((λ h. narrow_by_bits r (grind arith) (grind arith)), (λ n. (let below = bits_of_narrow r n in grind arith)))
