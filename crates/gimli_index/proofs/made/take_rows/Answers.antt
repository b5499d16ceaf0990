use Rattle.std.proofs.Common.{◌≡◌, ◌∙◌, ◌++◌, ℕ, List, Some, ap, arith, map, subst, take}
use Rattle.std.specs.Prelude.{slice_get}
use Rattle.gimli_line.specs.declared.run.row.LineRow.{LineRow}
use Rattle.gimli_lookup.specs.Section.{rows_of}
use Rattle.gimli_index.specs.Found.{code_of}
use Rattle.gimli_lookup.specs.ProgramPaths.{texts_seen}
use Rattle.gimli_index.specs.declared.contents.Entry.{Entry}
use Rattle.gimli_index.specs.declared.contents.Source.{Source}
use Rattle.gimli_index.specs.inside.Table.{IsPushed}
use Rattle.gimli_index.specs.inside.Turns.{Walked, end_after, row_start, turn_rows}
use Rattle.gimli_index.proofs.CodeRows.{taken_at}
use Rattle.gimli_index.proofs.TurnSteps.{row_walked, turn_place}
use Rattle.gimli_index.proofs.made.take_rows.Goals as goal

pub loop-index-preserved : goal.loop-index-preserved
loop-index-preserved g c =
    let t = texts_seen g.R.Reader.seen c.args.origin.now.paths.now in
    let units = c.args.origin.now.lookup.now in
    let turn = c.args.turn in
    let old = c.loop-index.table in
    let new = c.place_of.new.self in
    let before = c.loop-index.entries.items in
    let after = c.push.new.entries.items in
    let row = c.row-row.result in
    let placed = c.in_ok-place.ensures in
    let place = c.in_ok-place.place in
    let entry : Entry = record { address = row.address; place = place } in
    let read : Entry = record { address = c.address.result; place = place } in
    let is_read : IsPushed new.sources before after read =
    subst (λ (ss : List Source). IsPushed ss before after read) c.sources.ensures c.in_ok-push.ensures.pushed in
    let is_pushed : IsPushed new.sources before after entry =
    subst (λ (n : ℕ). let e : Entry = record { address = n; place = place } in IsPushed new.sources before after e)
    c.address.ensures is_read in
    record {
      are = placed.are;
      walked = λ d said end walked order.
          row_walked t units old new before after (rows_of turn.rows) c.loop-index.index row
          (turn_rows units d turn).unit said end place c.row-row.ensures
          (c.loop-index.invariant.walked d said end walked order)
          order placed.keeps placed.are placed.inside placed.column
          (placed.place ∙ turn_place t units d turn row row c.requires.turn) is_pushed;
    }

pub returns-clause-walked : goal.returns-clause-walked
returns-clause-walked g c =
    let t = texts_seen g.R.Reader.seen c.args.origin.now.paths.now in
    let units = c.args.origin.now.lookup.now in
    let limit = c.args.origin.now.limit in
    let rows = rows_of c.args.turn.rows in
    let all : c.loop-index.index ≡ c.count_of_code-index-end.result = omega arith in
    let code_is : take c.loop-index.index rows ≡ code_of rows = ap (λ (n : ℕ). take n rows) all
    ∙ c.count_of_code-index-end.ensures.code in
    λ d said end walked order.
    subst (λ (rs : List LineRow).
    Walked t units limit c.loop-index.table c.loop-index.entries.items
    (said ++ map (row_start t (turn_rows units d c.args.turn).unit) rs) (end_after end rs))
    code_is (c.loop-index.invariant.walked d said end walked order)

pub place_of-requires-clause-found : goal.place_of-requires-clause-found
place_of-requires-clause-found g c =
    let turn = c.args.turn in
    let is = c.requires.turn in
    let rows = rows_of turn.rows in
    let k = c.loop-index.index in
    let row = c.row-row.result in
    record {
      unit = is.unit;
      there = is.there;
      rows = rows;
      sequence = is.sequence;
      is_sequence = is.is_sequence;
      index = k;
      stands =
          subst (λ (rs : List LineRow). slice_get rs k ≡ Some row) c.count_of_code-index-end.ensures.code
          (taken_at rows c.count_of_code-index-end.result k row c.loop-index-test.true c.row-row.ensures);
    }
