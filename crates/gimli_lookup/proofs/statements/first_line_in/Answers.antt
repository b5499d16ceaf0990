use Rattle.std.proofs.Common.{◌<◌, ◌+◌, ◌||◌, ℕ, length, sym, ap, ◌∙◌, take, arith}
use Rattle.std.proofs.lemmas.List.Folds.{list_any_more}
use Rattle.std.proofs.lemmas.Option.{get_or_from_slice_get}
use Rattle.gimli_lookup.specs.inside.Statements.{is_statement, has_statement}
use Rattle.gimli_lookup.proofs.StatementRuns.{first_with_same}
use Rattle.gimli_lookup.specs.inside.Statements.{is_among}
use Rattle.gimli_lookup.proofs.statements.first_line_in.Goals as goal

pub loop-index-preserved : goal.loop-index-preserved
loop-index-preserved c =
    let is_file = is_among c.args.files.now in
    let rows = c.args.rows.now in
    let i = c.loop-index.index in
    let row = c.row.result in
    let inside : i < length rows = omega arith in
    let before = λ (line : ℕ). has_statement is_file line (take i rows) in
    let here = λ (line : ℕ). is_statement is_file line row in
    first_with_same (λ line. before line || here line) (λ line. has_statement is_file line (take (i + 1) rows))
    c.args.asked c.lesser-first.result
    (λ line. sym
    (ap (λ r. before line || is_statement is_file line r) (get_or_from_slice_get rows i row row c.row.ensures))
    ∙ sym (list_any_more (is_statement is_file line) rows i row inside))
    (c.lesser-first.ensures before here c.args.asked c.loop-index.invariant c.statement_line.ensures)
