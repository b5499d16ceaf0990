use Rattle.std.proofs.Common.{◌<◌, ◌+◌, ◌-◌, ◌^◌, ℕ, List, length, min, take, get_or, sym, ap, ◌∙◌, arith}
use Rattle.std.specs.Prelude.{sum_by}
use Rattle.std.proofs.lemmas.List.Sums.{sum_by_more}
use Rattle.gimli_line.specs.declared.run.row.LineRow.{LineRow}
use Rattle.gimli_lookup.proofs.RowCounts.{saturated}
use Rattle.gimli_lookup.proofs.row_counts.count_of.Goals as goal

pub loop-rows-preserved : goal.loop-rows-preserved
loop-rows-preserved c =
    let all = c.args.sequences.now in
    let i = c.loop-rows.rows-index in
    let rows = c.rows-item.result in
    let most : ℕ = 2 ^ 64 - 1 in
    let before = sum_by length (take i all) in
    let inside : i < length all = omega arith in
    c.saturating_add-count.ensures
    ∙ ap (λ (n : ℕ). min (n + c.len.result) most) c.loop-rows.invariant
    ∙ ap (λ (n : ℕ). min (min before most + n) most)
    (c.len.ensures ∙ ap (λ (r : List LineRow). length r) c.rows-item.is)
    ∙ saturated before (length (get_or all i rows)) most
    ∙ ap (λ (n : ℕ). min n most) (sym (sum_by_more (λ (r : List LineRow). length r) all i rows inside))
