use Rattle.std.proofs.Common.{arith}
use Rattle.std.specs.Prelude.{All, None, Some}
use Rattle.std.proofs.lemmas.Option.{MatchOption-at_some, MatchOption-at_none}
use Rattle.gimli_lookup.specs.declared.section_lookup.CoveringRows.{CoveringRows}
use Rattle.gimli_lookup.specs.declared.step_table.Found.{Found}
use Rattle.gimli_lookup.specs.inside.FirstPair.{HasNoPair}
use Rattle.gimli_lookup.specs.inside.FirstPair.{IsFirstPairIn}
use Rattle.gimli_lookup.proofs.FirstPairs.{found_is}
use Rattle.gimli_lookup.proofs.StillFound.{before_above}
use Rattle.gimli_lookup.proofs.Sections.{all_are}
use Rattle.gimli_lookup.proofs.SectionPairs.{index_within, unit_found}
use Rattle.gimli_lookup.proofs.section_lookup.SectionLookup.range_from.Goals as goal

pub unit_near-unit-requires : goal.unit_near-unit-requires
unit_near-unit-requires g c =
    let a = c.args.a in
    let sequences = c.as_slice.result.now in
    let found = c.in-Some.found in
    let first =
    MatchOption-at_some (All (HasNoPair a) sequences)
    (λ (f : Found). IsFirstPairIn a sequences f.sequence f.row f.next) found c.in-Some.is
    (c.find_with_end-found.ensures.found a (omega arith)
    (before_above a c.find_with_end-found.result.1 c.find_with_end-found.ensures.above)) in
    index_within a c.self.inside.sequences.items sequences c.self.inside.units.items c.as_slice-in-Some.result.now
    found.sequence found.row found.next
    c.self.invariant.0 c.as_slice.ensures.value c.as_slice-in-Some.ensures.value first

pub returns-in-None-clause-found : goal.returns-in-None-clause-found
returns-in-None-clause-found g c = λ b le before.
    let sequences = c.as_slice.result.now in
    let none =
    MatchOption-at_none (All (HasNoPair b) sequences) (λ (f : Found). IsFirstPairIn b sequences f.sequence f.row f.next)
    c.in-None.is
    (c.find_with_end-found.ensures.found b le before) in
    found_is b c.args.self.now None
    (rw (← all_are c.self.inside.sequences.items c.self.inside.units.items sequences c.args.self.now c.self.invariant.0
    c.self.view_is c.as_slice.ensures.value)
    none)

pub returns-in-Some-clause-found : goal.returns-in-Some-clause-found
returns-in-Some-clause-found g c = λ b le before.
    let sequences = c.as_slice.result.now in
    let found = c.in-Some.found in
    let first =
    MatchOption-at_some (All (HasNoPair b) sequences) (λ (f : Found). IsFirstPairIn b sequences f.sequence f.row f.next)
    found c.in-Some.is
    (c.find_with_end-found.ensures.found b le before) in
    let rows : CoveringRows = record { unit = c.unit_near-unit.result; row = found.row; next = found.next } in
    found_is b c.args.self.now (Some rows)
    (unit_found b c.self.inside.sequences.items sequences c.self.inside.units.items c.as_slice-in-Some.result.now
    c.args.self.now c.unit_near-unit.result
    found.sequence
    found.row found.next
    c.self.invariant.0 c.self.view_is c.as_slice.ensures.value c.as_slice-in-Some.ensures.value
    c.unit_near-unit.ensures.unit c.unit_near-unit.ensures.first
    c.unit_near-unit.ensures.end first)
