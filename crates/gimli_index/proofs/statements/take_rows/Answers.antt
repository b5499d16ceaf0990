use Rattle.std.proofs.Common.{◌≡◌, ◌∙◌, ◌++◌, ◌∷◌, ◌+◌, ◌≤◌, List, arith, ap, drop, length, refl}
use Rattle.std.proofs.Common.{sym}
use Rattle.std.specs.Prelude.{slice_get}
use Rattle.std.proofs.lemmas.List.{drop_all, drop_more}
use Rattle.std.proofs.lemmas.Option.{get_or_from_slice_get, slice_get_within}
use Rattle.gimli_line.specs.declared.run.row.LineRow.{LineRow}
use Rattle.gimli_lookup.specs.Section.{KeptUnit}
use Rattle.gimli_lookup.specs.Section.{rows_of}
use Rattle.gimli_lookup.specs.ProgramPaths.{texts_seen}
use Rattle.gimli_index.specs.inside.Begun.{begun, given_in, statements_in}
use Rattle.gimli_index.proofs.BegunSteps.{keeps_on, keeps_self}
use Rattle.gimli_index.proofs.CodeRows.{code_at}
use Rattle.gimli_index.proofs.Lists.{append_none, get_inside}
use Rattle.gimli_index.proofs.statements.take_rows.Goals as goal

pub loop-index-init : goal.loop-index-init
loop-index-init g c = record {
  are = c.requires.are;
  keeps = keeps_self c.args.table.now;
  given = tt;
  inside = c.requires.inside;
  said = λ u there. refl;
}

pub loop-index-preserved : goal.loop-index-preserved
loop-index-preserved g c =
    let t = texts_seen g.R.Reader.seen c.args.origin.now.paths.now in
    let rows = rows_of c.args.rows in
    let k = c.loop-index.index in
    let old = c.loop-index.table in
    let new = c.take_row.new.table in
    let row = c.row-row.result in
    let said = c.in_ok-given.ensures in
    let here : drop k rows ≡ row ∷ drop (k + 1) rows =
    drop_more rows k row (slice_get_within rows k row c.row-row.ensures)
    ∙ ap (λ (r : LineRow). r ∷ drop (k + 1) rows) (get_or_from_slice_get rows k row row c.row-row.ensures) in
    record {
      are = said.are;
      keeps = keeps_on c.args.table.now old new c.loop-index.invariant.keeps said.keeps;
      given = said.given;
      inside = said.inside;
      said = λ u there.
          sym (said.said u there (drop (k + 1) rows))
          ∙ ap (λ (rs : List LineRow). statements_in old c.loop-index.statements.items
          ++ begun t u.unit (given_in old c.loop-index.given) rs) (sym here)
          ∙ c.loop-index.invariant.said u there;
    }

pub take_row-requires-clause-found : goal.take_row-requires-clause-found
take_row-requires-clause-found g c =
    λ open_end.
    let units = c.args.origin.now.lookup.now in
    let known = get_inside units c.args.unit c.requires.unit in
    let sequence = c.requires.sequence in
    record {
      unit = known.0;
      there = known.1;
      rows = rows_of c.args.rows;
      sequence = sequence.0;
      is_sequence =
          ap (λ (u : KeptUnit). slice_get u.sequences sequence.0)
          (sym (get_or_from_slice_get units c.args.unit known.0 known.0 known.1))
          ∙ sequence.1 known.0;
      index = c.loop-index.index;
      stands = code_at (rows_of c.args.rows) c.loop-index.index c.row-row.result c.row-row.ensures open_end;
    }

pub returns-clause-said : goal.returns-clause-said
returns-clause-said g c =
    let t = texts_seen g.R.Reader.seen c.args.origin.now.paths.now in
    let rows = rows_of c.args.rows in
    let k = c.loop-index.index in
    let past : length rows ≤ k = omega (arith, c.loop-index-test.false, c.len-index-end.ensures) in
    λ u there.
    sym (append_none (statements_in c.loop-index.table c.loop-index.statements.items))
    ∙ ap (λ (rs : List LineRow). statements_in c.loop-index.table c.loop-index.statements.items
    ++ begun t u.unit (given_in c.loop-index.table c.loop-index.given) rs) (sym (drop_all k rows past))
    ∙ c.loop-index.invariant.said u there
