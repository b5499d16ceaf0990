use Rattle.std.proofs.Common.{List, length, ap, arith}
use Rattle.std.specs.Prelude.{sum_by}
use Rattle.std.proofs.lemmas.List.{take_all}
use Rattle.gimli_line.specs.declared.run.row.LineRow.{LineRow}
use Rattle.gimli_lookup.proofs.step_table.are_countable.Goals as goal

pub returns : goal.returns
returns c = λ t.
    let rows = c.args.sequences.now in
    let i = c.loop-rows.invariant in
    omega (
      arith,
      i.count,
      i.fits,
      ap (λ (xs : List (List LineRow)). sum_by length xs)
          (take_all c.loop-rows.rows-index rows (omega (arith, c.loop-rows-test.false))),
    )
