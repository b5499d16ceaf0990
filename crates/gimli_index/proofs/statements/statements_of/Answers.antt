use Rattle.std.proofs.Common.{◌≡◌, ◌∙◌, ◌++◌, ◌≤◌, ◌<◌, ℕ, [], Some, List, arith, ap, length, sym}
use Rattle.std.specs.Prelude.{slice_get}
use Rattle.std.proofs.lemmas.List.{length-map, take_all}
use Rattle.gimli_lookup.specs.Section.{KeptUnit, ListedUnit}
use Rattle.gimli_lookup.specs.ProgramPaths.{texts_seen}
use Rattle.gimli_index.specs.Meaning.{Statement}
use Rattle.gimli_index.specs.declared.contents.Statement.{Statement as Made}
use Rattle.gimli_index.specs.inside.Begun.{begun_in_unit, begun_in_units, statements_in}
use Rattle.gimli_index.proofs.BegunSteps.{keeps_on, keeps_self, none_taken_of, one_taken_of}
use Rattle.gimli_index.proofs.Lists.{get_inside}
use Rattle.gimli_index.proofs.statements.statements_of.Goals as goal

pub loop-unit-init : goal.loop-unit-init
loop-unit-init g c =
    let t = texts_seen g.R.Reader.seen c.args.origin.now.paths.now in
    record {
      are = c.requires;
      keeps = keeps_self c.args.table.now;
      inside = λ k s there. none_at k s (ap (λ (ss : List Made). slice_get ss k) (sym c.new-statements.ensures.items)
          ∙ there);
      said =
          ap (statements_in c.args.table.now) c.new-statements.ensures.items
          ∙ none_taken_of (begun_in_unit t) c.args.origin.now.lookup.now [];
    }
  where
    none_at : (k : ℕ) (s : Made) → slice_get [] k ≡ Some s → s.source < length c.args.table.now.sources
    none_at k s there = absurd cc

pub loop-unit-preserved : goal.loop-unit-preserved
loop-unit-preserved g c =
    let t = texts_seen g.R.Reader.seen c.args.origin.now.paths.now in
    let units : List KeptUnit = c.args.origin.now.lookup.now in
    let k : ℕ = c.loop-unit.unit in
    let said = c.in_ok-take_unit.ensures in
    let within : k < length units =
    omega (
      arith,
      c.loop-unit-test.true,
      ap (λ (us : List ListedUnit). length us) c.units-unit-end.ensures,
      length-map units (λ (u : KeptUnit). u.unit),
    ) in
    let known = get_inside units k within in
    record {
      are = said.are;
      keeps =
          keeps_on c.args.table.now c.loop-unit.table c.take_unit.new.table c.loop-unit.invariant.keeps said.keeps;
      inside = said.inside;
      said =
          said.said known.0 known.1
          ∙ ap (λ (ss : List Statement). ss ++ begun_in_unit t known.0) c.loop-unit.invariant.said
          ∙ one_taken_of (begun_in_unit t) units k known.0 [] known.1;
    }

pub take_unit-requires-clause-unit : goal.take_unit-requires-clause-unit
take_unit-requires-clause-unit g c =
    omega (
      arith,
      c.loop-unit-test.true,
      ap (λ (us : List ListedUnit). length us) c.units-unit-end.ensures,
      length-map c.args.origin.now.lookup.now (λ (u : KeptUnit). u.unit),
    )

pub returns-clause-said : goal.returns-clause-said
returns-clause-said g c =
    let t = texts_seen g.R.Reader.seen c.args.origin.now.paths.now in
    let units : List KeptUnit = c.args.origin.now.lookup.now in
    let past : length units ≤ c.loop-unit.unit =
    omega (
      arith,
      c.loop-unit-test.false,
      ap (λ (us : List ListedUnit). length us) c.units-unit-end.ensures,
      length-map units (λ (u : KeptUnit). u.unit),
    ) in
    c.loop-unit.invariant.said ∙ ap (begun_in_units t) (take_all c.loop-unit.unit units past)
