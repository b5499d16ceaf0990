use Rattle.std.proofs.Common.{◌≡◌, ◌∙◌, ◌++◌, ◌∷◌, [], ℕ, List, ◌≤◌, None, Some, ap, arith, length, map, refl, subst}
use Rattle.std.proofs.Common.{sym, Vec, Global}
use Rattle.std.specs.Prelude.{slice_get, slice_index_or, All}
use Rattle.std.specs.Option.{option_map}
use Rattle.std.proofs.lemmas.List.{length-map, take_all}
use Rattle.std.proofs.lemmas.List.Elements.{All-push}
use Rattle.gimli_line.specs.declared.run.row.LineRow.{LineRow}
use Rattle.gimli_lookup.specs.Section.{KeptUnit}
use Rattle.gimli_lookup.specs.Section.{rows_of}
use Rattle.gimli_index.specs.declared.turns.Turn.{Turn}
use Rattle.gimli_index.specs.inside.Turns.{IsTurn, UnitRows, rows_in, turn_rows}
use Rattle.gimli_index.proofs.Lists.{get_inside}
use Rattle.gimli_index.proofs.TurnSteps.{is_turn, more_turns}
use Rattle.gimli_index.proofs.turns.push_turns.Goals.{in-Some+in_ok-push, in_default}
use Rattle.gimli_index.proofs.turns.push_turns.Goals as goal

pub loop-index-preserved : goal.loop-index-preserved
loop-index-preserved g c =
    let units : List KeptUnit = c.args.lookup.now in
    let k : ℕ = c.loop-index.index in
    let old : List Turn = c.loop-index.turns.items in
    let new : List Turn = c.match-sequence.turns.items in
    elim c.match-sequence.branch [
      | in-Some+in_ok-push w ↦
          let turn : Turn = record { key = w.key_of.result; unit = c.args.unit; rows = w.in-Some.rows } in
          let there : (d : KeptUnit)
          → slice_get (slice_index_or units c.args.unit d).sequences k ≡ Some (rows_of turn.rows) =
          λ d. sym (c.sequence.ensures d) ∙ ap (option_map rows_of) w.in-Some.is in
          let longer : new ≡ old ++ turn ∷ [] = ap (λ (v : Vec Turn Global). v.items) w.turns-is
          ∙ w.in_ok-push.ensures.items in
          record {
            all =
                more_turns units c.args.unit k turn refl there c.args.turns.now.items old new longer
                c.loop-index.invariant.all;
            each = λ before.
                subst (All (IsTurn units)) (sym longer)
                (All-push (IsTurn units) old turn (c.loop-index.invariant.each before)
                (is_turn units c.args.unit k turn refl there c.requires w.key_of.ensures.key w.key_of.ensures.few));
          }
      | in_default w ↦
          let known = get_inside units c.args.unit c.requires in
          let sequences : List (List LineRow) = (slice_index_or units c.args.unit known.0).sequences in
          let none : slice_get sequences k ≡ None = sym (c.sequence.ensures known.0)
          ∙ ap (option_map rows_of) w.in_default.is in
          let some =
          get_inside sequences k
          (omega (arith, c.loop-index-test.true, c.sequence_count-index-end.ensures known.0)) in
          let bad : Some some.0 ≡ None = sym some.1 ∙ none in
          absurd cc
    ]

pub returns-clause-all : goal.returns-clause-all
returns-clause-all g c =
    let units : List KeptUnit = c.args.lookup.now in
    λ d.
    let u : KeptUnit = slice_index_or units c.args.unit d in
    let past : length (rows_in u) ≤ c.loop-index.index =
    omega (
      arith,
      c.loop-index-test.false,
      c.sequence_count-index-end.ensures d,
      length-map u.sequences (λ (rows : List LineRow). let s : UnitRows = record { unit = u.unit; rows = rows } in s),
    ) in
    c.loop-index.invariant.all d
    ∙ ap (λ (xs : List UnitRows). map (turn_rows units d) c.args.turns.now.items ++ xs)
    (take_all c.loop-index.index (rows_in u) past)
