use Rattle.std.proofs.Common.{◌∙◌, ◌++◌, ◌<◌, ◌≤◌, ℕ, List, ap, arith, length, map, sym}
use Rattle.std.specs.Prelude.{slice_index_or}
use Rattle.std.proofs.lemmas.List.{length-map, take_all}
use Rattle.gimli_lookup.specs.Section.{KeptUnit, ListedUnit}
use Rattle.gimli_index.specs.declared.turns.Turn.{Turn}
use Rattle.gimli_index.specs.inside.Turns.{UnitRows, rows_in, rows_of_units, turn_rows}
use Rattle.gimli_index.proofs.TurnSteps.{more_units}
use Rattle.gimli_index.proofs.turns.all_turns.Goals as goal

pub loop-unit-preserved : goal.loop-unit-preserved
loop-unit-preserved g c =
    let units : List KeptUnit = c.args.lookup.now in
    let k : ℕ = c.loop-unit.unit in
    let said = c.in_ok-push_turns.ensures in
    let within : k < length units =
    omega (
      arith,
      c.loop-unit-test.true,
      ap (λ (us : List ListedUnit). length us) c.units-unit-end.ensures,
      length-map units (λ (u : KeptUnit). u.unit),
    ) in
    record {
      each = said.each c.loop-unit.invariant.each;
      all = λ d.
          said.all d
          ∙ ap (λ (xs : List UnitRows). xs ++ rows_in (slice_index_or units k d)) (c.loop-unit.invariant.all d)
          ∙ sym (more_units units k d within);
    }

pub loop-unit-init : goal.loop-unit-init
loop-unit-init g c = record {
  each = λ k d within. absurd (omega (arith, within, ap (λ (ts : List Turn). length ts) c.new-turns.ensures.items));
  all = λ d. ap (map (turn_rows c.args.lookup.now d)) c.new-turns.ensures.items;
}

pub push_turns-requires : goal.push_turns-requires
push_turns-requires g c =
    omega (
      arith,
      c.loop-unit-test.true,
      ap (λ (us : List ListedUnit). length us) c.units-unit-end.ensures,
      length-map c.args.lookup.now (λ (u : KeptUnit). u.unit),
    )

pub returns-clause-all : goal.returns-clause-all
returns-clause-all g c =
    let units : List KeptUnit = c.args.lookup.now in
    let past : length units ≤ c.loop-unit.unit =
    omega (
      arith,
      c.loop-unit-test.false,
      ap (λ (us : List ListedUnit). length us) c.units-unit-end.ensures,
      length-map units (λ (u : KeptUnit). u.unit),
    ) in
    λ d. c.loop-unit.invariant.all d ∙ ap rows_of_units (take_all c.loop-unit.unit units past)
