use Rattle.std.proofs.Common.{◌<◌, ◌+◌, ◌||◌, ℕ, length, sym, ap, ◌∙◌, take, arith}
use Rattle.std.proofs.lemmas.List.Folds.{list_any_more}
use Rattle.gimli_lookup.specs.inside.Statements.{has_statement, have_statement}
use Rattle.gimli_lookup.proofs.StatementRuns.{first_with_same}
use Rattle.gimli_lookup.specs.inside.Statements.{is_among}
use Rattle.gimli_lookup.proofs.statements.first_line_of.Goals as goal

pub loop-rows-preserved : goal.loop-rows-preserved
loop-rows-preserved c =
    let is_file = is_among c.args.files.now in
    let all = c.args.sequences.now in
    let i = c.loop-rows.rows-index in
    let rows = c.rows-item.result in
    let inside : i < length all = omega arith in
    let before = λ (line : ℕ). have_statement is_file line (take i all) in
    let here = λ (line : ℕ). has_statement is_file line rows in
    first_with_same (λ line. before line || here line) (λ line. have_statement is_file line (take (i + 1) all))
    c.args.asked c.lesser-first.result
    (λ line. ap (λ r. before line || has_statement is_file line r) c.rows-item.is
    ∙ sym (list_any_more (has_statement is_file line) all i rows inside))
    (c.lesser-first.ensures before here c.args.asked c.loop-rows.invariant c.first_line_in.ensures)
