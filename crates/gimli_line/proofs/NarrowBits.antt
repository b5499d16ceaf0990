-- Several numbers are below 2^32 where the number is that has the bits of all of them.
use Rattle.std.proofs.Common.{◌<◌, ◌^◌, arith, bit_or}
use Rattle.std.proofs.lemmas.Nat.{or_of_32, le_or_l, le_or_r}
use Rattle.gimli_line.specs.inside.run.Rows.{IsNarrow}
use Rattle.gimli_line.specs.declared.run.row.LineRow.{LineRow}

-- the numbers of a row fit a narrow one where op_index does, and the bits of the others
pub narrow_by_bits : (r : LineRow) → r.op_index < 2 ^ 8
    → bit_or (bit_or (bit_or (bit_or r.file r.line) r.column) r.isa) r.discriminator < 2 ^ 32
    → IsNarrow r
narrow_by_bits r o h =
    let two = bit_or r.file r.line in
    let three = bit_or two r.column in
    let four = bit_or three r.isa in
    let in_all = le_or_l four r.discriminator in
    let in_four = le_or_l three r.isa in
    let in_three = le_or_l two r.column in
    let in_two = le_or_l r.file r.line in
    let line_in = le_or_r r.file r.line in
    let column_in = le_or_r two r.column in
    let isa_in = le_or_r three r.isa in
    let discriminator_in = le_or_r four r.discriminator in
    record {
      op_index = o;
      file = grind arith;
      line = grind arith;
      column = grind arith;
      isa = grind arith;
      discriminator = grind arith;
    }

-- and only there
pub bits_of_narrow : (r : LineRow) → IsNarrow r
    → bit_or (bit_or (bit_or (bit_or r.file r.line) r.column) r.isa) r.discriminator < 2 ^ 32
bits_of_narrow r n =
    or_of_32 _ _ (or_of_32 _ _ (or_of_32 _ _ (or_of_32 _ _ n.file n.line) n.column) n.isa)
    n.discriminator
