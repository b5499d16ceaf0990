use Rattle.std.proofs.Common.{◌≡◌, ℕ, ◌<◌, ◌≤◌, List, length, take, ap, ◌∙◌, subst, arith}
use Rattle.std.specs.Prelude.{slice_index_or}
use Rattle.std.proofs.lemmas.List.{length-map, take_all}
use Rattle.gimli_lookup.specs.Section.{KeptUnit}
use Rattle.gimli_lookup.specs.SectionAddresses.{unit_addresses, addresses_of_path}
use Rattle.gimli_lookup.specs.inside.Statements.{AreCollectedFrom}
use Rattle.gimli_lookup.specs.ProgramPaths.{texts_seen}
use Rattle.gimli_lookup.proofs.SectionAddressSteps.{some_unit, one_more_unit}
use Rattle.gimli_lookup.proofs.section_lookup.SectionLookup.addresses_of.Goals as goal

pub unit_addresses-requires : goal.unit_addresses-requires
unit_addresses-requires g c =
    let count : length c.units-unit-end.result.now ≡ length c.args.self.now = ap length c.units-unit-end.ensures
    ∙ length-map c.args.self.now (λ (u : KeptUnit). u.unit) in
    omega (arith, count)

pub loop-unit-preserved : goal.loop-unit-preserved
loop-unit-preserved g c =
    let texts = texts_seen g.R.Reader.seen c.args.paths.now in
    let path = c.args.path.now in
    let units = c.args.self.now in
    let i = c.loop-unit.unit in
    let count : length c.units-unit-end.result.now ≡ length units = ap length c.units-unit-end.ensures
    ∙ length-map units (λ (u : KeptUnit). u.unit) in
    let inside : i < length units = omega (arith, count) in
    let d = some_unit units i inside in
    subst (λ (addresses : ℕ → List ℕ). AreCollectedFrom addresses c.args.line c.in_ok-found.found)
    (one_more_unit texts path units i d inside)
    (c.in_ok-found.ensures.ok (addresses_of_path texts path (take i units))
    (unit_addresses texts path (slice_index_or units i d)) c.args.line
    c.loop-unit.invariant (c.in_ok-unit_addresses.ensures.ok d))

pub returns-clause-ok : goal.returns-clause-ok
returns-clause-ok g c =
    let texts = texts_seen g.R.Reader.seen c.args.paths.now in
    let units = c.args.self.now in
    let count : length c.units-unit-end.result.now ≡ length units = ap length c.units-unit-end.ensures
    ∙ length-map units (λ (u : KeptUnit). u.unit) in
    let past : length units ≤ c.loop-unit.unit = omega (arith, count, c.loop-unit-test.false) in
    c.in_order.ensures (addresses_of_path texts c.args.path.now units) c.args.line
    (subst (λ (us : List KeptUnit).
    AreCollectedFrom (addresses_of_path texts c.args.path.now us) c.args.line c.loop-unit.found)
    (take_all c.loop-unit.unit units past) c.loop-unit.invariant)
