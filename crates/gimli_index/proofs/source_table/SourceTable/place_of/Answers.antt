use Rattle.std.proofs.Common.{◌<◌, ◌∙◌, Option, length, ap, sym, subst, refl, arith}
use Rattle.std.specs.Prelude.{IfSome}
use Rattle.std.specs.Option.{option_map}
use Rattle.std.proofs.lemmas.Option.{slice_get_within}
use Rattle.std.proofs.lemmas.Result.{err_from_is_err_and}
use Rattle.gimli_lookup.specs.Section.{KeptUnit}
use Rattle.gimli_lookup.specs.declared.section_lookup.CoveringRows.{CoveringRows}
use Rattle.gimli_index.specs.Found.{found_place, row_place}
use Rattle.gimli_lookup.specs.ProgramPaths.{texts_seen}
use Rattle.gimli_index.specs.Refused.{AreFound}
use Rattle.gimli_index.proofs.Lists.{get_inside}
use Rattle.gimli_index.proofs.Sources.{place_known}
use Rattle.gimli_index.proofs.source_table.SourceTable.place_of.Goals as goal

pub returns-clause-place : goal.returns-clause-place
returns-clause-place g c =
    let t = texts_seen g.R.Reader.seen c.args.origin.now.paths.now in
    let units = c.args.origin.now.lookup.now in
    let rows = c.in-Some.rows in
    let within : rows.unit
    < length units = subst (λ (o : Option CoveringRows). IfSome o (λ f. f.unit < length units)) c.in-Some.is
    c.requires.unit in
    let known = get_inside units rows.unit within in
    place_known t units c.source_of.new.self
    (record {
      source = c.in_ok-source.source;
      line = c.in_ok-line.line;
      column = c.in_ok-column.column;
      is_stmt = c.is_stmt.result;
      prologue_end = c.prologue_end.result;
    })
    (record { unit = rows.unit; file = rows.row.file })
    known.0 rows.row
    c.in_ok-source.ensures.are c.in_ok-source.ensures.number known.1 refl c.in_ok-line.ensures.ok
    c.in_ok-column.ensures.ok c.is_stmt.ensures c.prologue_end.ensures
    ∙ sym
    (ap (found_place t units) c.in-Some.is ∙ ap (option_map (λ (u : KeptUnit). row_place t u.unit rows.row)) known.1)

pub returns-in_err-line-clause-err : goal.returns-in_err-line-clause-err
returns-in_err-line-clause-err g c =
    let units = c.args.origin.now.lookup.now in
    let rows = c.in-Some.rows in
    let found : AreFound units rows =
    subst (λ (o : Option CoveringRows). IfSome o (AreFound units)) c.in-Some.is c.requires.found in
    let p = err_from_is_err_and c.from_residual.result c.from_residual.ensures.1 in
    let e = c.in_err-line.ensures.err in
    rw (p.1, p.2, e.0) (rows.row, (rows, found, refl), e.1)

pub returns-in_err-column-clause-err : goal.returns-in_err-column-clause-err
returns-in_err-column-clause-err g c =
    let units = c.args.origin.now.lookup.now in
    let rows = c.in-Some.rows in
    let found : AreFound units rows =
    subst (λ (o : Option CoveringRows). IfSome o (AreFound units)) c.in-Some.is c.requires.found in
    let p = err_from_is_err_and c.from_residual-in_err-column.result c.from_residual-in_err-column.ensures.1 in
    let e = c.in_err-column.ensures.err in
    rw (p.1, p.2, e.0) (rows.row, (rows, found, refl), e.1)

pub returns-clause-inside : goal.returns-clause-inside
returns-clause-inside g c =
    let rows = c.in-Some.rows in
    omega (
      arith,
      slice_get_within c.source_of.new.self.keys c.in_ok-source.source
          (record { unit = rows.unit; file = rows.row.file }) c.in_ok-source.ensures.number,
      c.in_ok-source.ensures.are.count,
    )
