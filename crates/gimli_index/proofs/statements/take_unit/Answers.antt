use Rattle.std.proofs.Common.{◌≡◌, ◌∙◌, ◌++◌, ◌≤◌, ℕ, None, Some, List, arith, ap, length, sym}
use Rattle.std.specs.Prelude.{flat_map, slice_get, slice_index_or}
use Rattle.std.specs.Option.{option_map}
use Rattle.std.proofs.lemmas.List.{take_all}
use Rattle.std.proofs.lemmas.Option.{get_or_from_slice_get}
use Rattle.gimli_line.specs.declared.run.row.LineRow.{LineRow}
use Rattle.gimli_lookup.specs.Section.{KeptUnit}
use Rattle.gimli_lookup.specs.Section.{rows_of}
use Rattle.gimli_lookup.specs.ProgramPaths.{texts_seen}
use Rattle.gimli_index.specs.Meaning.{Statement}
use Rattle.gimli_index.specs.inside.Begun.{begun, statements_in}
use Rattle.gimli_index.proofs.BegunSteps.{keeps_on, keeps_self, none_taken_of, one_taken_of}
use Rattle.gimli_index.proofs.Lists.{get_inside}
use Rattle.gimli_index.proofs.statements.take_unit.Goals.{in-Some+in_ok-take_rows, in_default}
use Rattle.gimli_index.proofs.statements.take_unit.Goals as goal

pub loop-index-init : goal.loop-index-init
loop-index-init g c =
    let t = texts_seen g.R.Reader.seen c.args.origin.now.paths.now in
    record {
      are = c.requires.are;
      keeps = keeps_self c.args.table.now;
      inside = c.requires.inside;
      said = λ u there.
          none_taken_of (begun t u.unit None) u.sequences (statements_in c.args.table.now c.args.statements.now.items);
    }

pub loop-index-preserved : goal.loop-index-preserved
loop-index-preserved g c =
    let t = texts_seen g.R.Reader.seen c.args.origin.now.paths.now in
    let units : List KeptUnit = c.args.origin.now.lookup.now in
    let k : ℕ = c.loop-index.index in
    let known = get_inside units c.args.unit c.requires.unit in
    let sequences : List (List LineRow) = (slice_index_or units c.args.unit known.0).sequences in
    elim c.match-sequence.branch [
      | in-Some+in_ok-take_rows w ↦
          let said = w.in_ok-take_rows.ensures in
          rw (w.table-is, w.statements-is) (record {
            are = said.are;
            keeps =
                keeps_on c.args.table.now c.loop-index.table w.take_rows.new.table c.loop-index.invariant.keeps
                said.keeps;
            inside = said.inside;
            said = λ u there.
                let at : slice_get u.sequences k ≡ Some (rows_of w.in-Some.rows) =
                ap (λ (v : KeptUnit). slice_get v.sequences k)
                (sym (get_or_from_slice_get units c.args.unit u known.0 there))
                ∙ sym (c.sequence.ensures known.0) ∙ ap (option_map rows_of) w.in-Some.is in
                said.said u there
                ∙ ap (λ (ss : List Statement). ss ++ begun t u.unit None (rows_of w.in-Some.rows))
                (c.loop-index.invariant.said u there)
                ∙ one_taken_of (begun t u.unit None) u.sequences k (rows_of w.in-Some.rows)
                (statements_in c.args.table.now c.args.statements.now.items) at;
          })
      | in_default w ↦
          let none : slice_get sequences k ≡ None = sym (c.sequence.ensures known.0)
          ∙ ap (option_map rows_of) w.in_default.is in
          let some =
          get_inside sequences k
          (omega (arith, c.loop-index-test.true, c.sequence_count-index-end.ensures known.0)) in
          let bad : Some some.0 ≡ None = sym some.1 ∙ none in
          absurd cc
    ]

pub returns-clause-said : goal.returns-clause-said
returns-clause-said g c =
    let t = texts_seen g.R.Reader.seen c.args.origin.now.paths.now in
    let units : List KeptUnit = c.args.origin.now.lookup.now in
    λ u there.
    let same : slice_index_or units c.args.unit u ≡ u = get_or_from_slice_get units c.args.unit u u there in
    let past : length u.sequences ≤ c.loop-index.index =
    omega (
      arith,
      c.loop-index-test.false,
      c.sequence_count-index-end.ensures u,
      ap (λ (v : KeptUnit). length v.sequences) same,
    ) in
    c.loop-index.invariant.said u there
    ∙ ap (λ (xs : List (List LineRow)). statements_in c.args.table.now c.args.statements.now.items
    ++ flat_map (begun t u.unit None) xs) (take_all c.loop-index.index u.sequences past)
