use Rattle.std.specs.Prelude.{All, None, Some}
use Rattle.std.proofs.lemmas.Option.{MatchOption-at_some, MatchOption-at_none}
use Rattle.gimli_lookup.specs.declared.section_lookup.CoveringRows.{CoveringRows}
use Rattle.gimli_lookup.specs.declared.step_table.Found.{Found}
use Rattle.gimli_lookup.specs.inside.FirstPair.{HasNoPair}
use Rattle.gimli_lookup.specs.inside.FirstPair.{IsFirstPairIn}
use Rattle.gimli_lookup.proofs.FirstPairs.{found_is}
use Rattle.gimli_lookup.proofs.Sections.{all_are}
use Rattle.gimli_lookup.proofs.SectionPairs.{index_within, unit_found}
use Rattle.gimli_lookup.proofs.section_lookup.SectionLookup.find_counted.Goals as goal

pub unit_near-requires : goal.unit_near-requires
unit_near-requires g c =
    let sequences = c.as_slice.result.now in
    let found = c.in-Some.found in
    let first =
    MatchOption-at_some (All (HasNoPair c.args.a) sequences)
    (λ (f : Found). IsFirstPairIn c.args.a sequences f.sequence f.row f.next) found c.in-Some.is
    c.find-found.ensures.found in
    index_within c.args.a c.self.inside.sequences.items sequences c.self.inside.units.items
    c.as_slice-in-Some.result.now found.sequence found.row found.next
    c.self.invariant.0 c.as_slice.ensures.value c.as_slice-in-Some.ensures.value first

pub returns-in-Some-clause-found : goal.returns-in-Some-clause-found
returns-in-Some-clause-found g c =
    let sequences = c.as_slice.result.now in
    let found = c.in-Some.found in
    let first =
    MatchOption-at_some (All (HasNoPair c.args.a) sequences)
    (λ (f : Found). IsFirstPairIn c.args.a sequences f.sequence f.row f.next) found c.in-Some.is
    c.find-found.ensures.found in
    let rows : CoveringRows = record { unit = c.unit_near.result; row = found.row; next = found.next } in
    found_is c.args.a c.args.self.now (Some rows)
    (unit_found c.args.a c.self.inside.sequences.items sequences c.self.inside.units.items c.as_slice-in-Some.result.now
    c.args.self.now c.unit_near.result
    found.sequence found.row found.next
    c.self.invariant.0 c.self.view_is c.as_slice.ensures.value c.as_slice-in-Some.ensures.value c.unit_near.ensures.unit
    c.unit_near.ensures.first
    c.unit_near.ensures.end first)

pub returns-in-Some-clause-at_least : goal.returns-in-Some-clause-at_least
returns-in-Some-clause-at_least g c =
    rw
    (← all_are c.self.inside.sequences.items c.self.inside.units.items c.as_slice.result.now c.args.self.now
    c.self.invariant.0 c.self.view_is
    c.as_slice.ensures.value)
    c.find-found.ensures.at_least

pub returns-in-Some-clause-at_most : goal.returns-in-Some-clause-at_most
returns-in-Some-clause-at_most g c =
    rw
    (← all_are c.self.inside.sequences.items c.self.inside.units.items c.as_slice.result.now c.args.self.now
    c.self.invariant.0 c.self.view_is
    c.as_slice.ensures.value)
    c.find-found.ensures.at_most

pub returns-in-None-clause-found : goal.returns-in-None-clause-found
returns-in-None-clause-found g c =
    let sequences = c.as_slice.result.now in
    let none =
    MatchOption-at_none (All (HasNoPair c.args.a) sequences)
    (λ (f : Found). IsFirstPairIn c.args.a sequences f.sequence f.row f.next) c.in-None.is
    c.find-found.ensures.found in
    found_is c.args.a c.args.self.now None
    (rw (← all_are c.self.inside.sequences.items c.self.inside.units.items sequences c.args.self.now c.self.invariant.0
    c.self.view_is c.as_slice.ensures.value)
    none)

pub returns-in-None-clause-at_least : goal.returns-in-None-clause-at_least
returns-in-None-clause-at_least g c =
    rw
    (← all_are c.self.inside.sequences.items c.self.inside.units.items c.as_slice.result.now c.args.self.now
    c.self.invariant.0 c.self.view_is
    c.as_slice.ensures.value)
    c.find-found.ensures.at_least

pub returns-in-None-clause-at_most : goal.returns-in-None-clause-at_most
returns-in-None-clause-at_most g c =
    rw
    (← all_are c.self.inside.sequences.items c.self.inside.units.items c.as_slice.result.now c.args.self.now
    c.self.invariant.0 c.self.view_is
    c.as_slice.ensures.value)
    c.find-found.ensures.at_most
