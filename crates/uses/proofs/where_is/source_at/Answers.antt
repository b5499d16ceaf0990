use Rattle.std.proofs.Common.{◌≡◌, ◌∙◌, ap, refl}
use Rattle.std.specs.Prelude.{Option, None, Some, option_map}
use Rattle.gimli_line.specs.declared.run.row.LineRow.{LineRow}
use Rattle.gimli_lookup.specs.Section.{found_at}
use Rattle.gimli_lookup.specs.declared.section_lookup.CoveringRows.{CoveringRows}
use Rattle.uses.proofs.where_is.source_at.Goals as goal

abbrev row_found : CoveringRows → LineRow
row_found f = f.row

abbrev first_of : LineRow × LineRow → LineRow
first_of pair = pair.0

-- the row that is found is the first one of the pair
row_of : (found : Option CoveringRows)
    → option_map row_found found ≡ option_map first_of (option_map (λ f. (f.row, f.next)) found)
row_of None = refl
row_of (Some f) = refl

pub returns-in_default : goal.returns-in_default
returns-in_default g c =
    let units = c.args.program.now.lookup in
    let found = found_at c.args.address units in
    ap (option_map row_found) (rw c.in_default.is at c.place.ensures.rows) ∙ row_of found
    ∙ ap (option_map first_of) (c.found_among_all.ensures c.args.address units)

pub returns : goal.returns
returns g c =
    let units = c.args.program.now.lookup in
    let found = found_at c.args.address units in
    ap (option_map row_found) (rw c.in-Some.is at c.place.ensures.rows) ∙ row_of found
    ∙ ap (option_map first_of) (c.found_among_all.ensures c.args.address units)
