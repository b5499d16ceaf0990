use Rattle.std.proofs.Common.{◌≡◌, ◌<◌, ◌+◌, ◌++◌, [], ◌∷◌, length, drop, sym, ap, ◌∙◌, false, arith}
use Rattle.std.proofs.lemmas.List.{drop_more}
use Rattle.std.proofs.lemmas.Option.{get_or_from_slice_get}
use Rattle.gimli_line.specs.declared.run.row.LineRow.{LineRow}
use Rattle.gimli_lookup.specs.Statements.{addresses_in}
use Rattle.gimli_lookup.proofs.StatementRuns.{addresses_on, nothing_more, one_more, of_none, of_given, of_first}
use Rattle.gimli_lookup.proofs.StatementRuns.{of_no_statement}
use Rattle.gimli_lookup.specs.inside.Statements.{is_among}
use Rattle.gimli_lookup.proofs.statements.append_in.Goals.{
  then-not-is_of_line,
  else-not-is_of_line+then-is_stmt+then-not-has_address+in_ok-append,
  else-not-is_of_line+else-is_stmt,
  else-is_stmt-via-then-is_stmt+else-not-has_address,
  else-is_stmt-via-else-is_stmt,
}
use Rattle.gimli_lookup.proofs.statements.append_in.Goals as goal

pub loop-index-preserved : goal.loop-index-preserved
loop-index-preserved c =
    let is_file = is_among c.args.files.now in
    let line = c.args.line in
    let rows = c.args.rows.now in
    let i = c.loop-index.index in
    let row = c.row-row.result in
    let inside : i < length rows = omega arith in
    let at_row : drop i rows ≡ row ∷ drop (i + 1) rows =
    drop_more rows i row inside
    ∙ ap (λ (r : LineRow). r ∷ drop (i + 1) rows) (get_or_from_slice_get rows i row row c.row-row.ensures) in
    let rest = drop (i + 1) rows in
    let kept = c.loop-index.addresses.items in
    let has = c.loop-index.has_address in
    let whole = c.args.addresses.now.items ++ addresses_in is_file line rows in
    let before : kept ++ addresses_on is_file line has (row ∷ rest) ≡ whole =
    ap (λ xs. kept ++ addresses_on is_file line has xs) (sym at_row) ∙ c.loop-index.invariant in
    elim c.if-not-is_of_line.branch [
      | then-not-is_of_line w ↦ rw (w.addresses-is, w.has_address-is)
          (nothing_more is_file line kept whole has false (row ∷ rest) rest
          (of_none is_file line has row rest (sym c.is_of_line.ensures ∙ w.if-not-is_of_line.true)) before)
      | else-not-is_of_line+then-is_stmt+then-not-has_address+in_ok-append w ↦ rw (w.addresses-is, w.has_address-is)
          (one_more is_file line kept w.append.new.numbers.items whole row.address (row ∷ rest) rest
          (w.in_ok-append.ensures.ok ∙ ap (λ a. kept ++ a ∷ []) w.address.ensures)
          (of_first is_file line row rest (sym c.is_of_line.ensures ∙ w.if-not-is_of_line.false)
          (sym w.is_stmt.ensures ∙ w.if-is_stmt.true))
          (ap (λ b. kept ++ addresses_on is_file line b (row ∷ rest)) (sym w.if-not-has_address.true) ∙ before))
      | else-not-is_of_line+else-is_stmt w ↦ rw (w.addresses-is, w.has_address-is)
          (let of = sym c.is_of_line.ensures ∙ w.if-not-is_of_line.false in
          nothing_more is_file line kept whole has has (row ∷ rest) rest (elim w.else-is_stmt.branch [
            | else-is_stmt-via-then-is_stmt+else-not-has_address v ↦
                rw v.if-not-has_address.false (of_given is_file line row rest of)
            | else-is_stmt-via-else-is_stmt v ↦
                of_no_statement is_file line has row rest of (sym w.is_stmt.ensures ∙ v.if-is_stmt.false)
          ]) before)
    ]
