use Rattle.std.specs.Prelude.{All, None, Some}
use Rattle.std.proofs.lemmas.Option.{MatchOption-at_some, MatchOption-at_none}
use Rattle.gimli_lookup.specs.declared.step_table.Found.{Found}
use Rattle.gimli_lookup.specs.inside.FirstPair.{HasNoPair}
use Rattle.gimli_lookup.specs.inside.FirstPair.{IsFirstPairIn}
use Rattle.gimli_lookup.proofs.FirstPairs.{found_first}
use Rattle.gimli_lookup.proofs.Pairs.{first_pair_of_index}
use Rattle.gimli_lookup.proofs.lookup.Lookup.find_indexed_counted.Goals as goal

pub returns-in-Some-clause-pair : goal.returns-in-Some-clause-pair
returns-in-Some-clause-pair g c =
    let sequences = c.as_slice.result.now in
    let found = c.in-Some.found in
    let first =
    MatchOption-at_some (All (HasNoPair c.args.a) sequences)
    (λ (f : Found). IsFirstPairIn c.args.a sequences f.sequence f.row f.next) found c.in-Some.is
    c.find-found.ensures.found in
    rw (← c.self.view_is, ← c.as_slice.ensures.value)
    (found_first c.args.a sequences (Some (found.row, found.next))
    (first_pair_of_index c.args.a sequences found.sequence found.row found.next first))

pub returns-in-Some-clause-at_least : goal.returns-in-Some-clause-at_least
returns-in-Some-clause-at_least g c = rw (← c.self.view_is, ← c.as_slice.ensures.value) c.find-found.ensures.at_least

pub returns-in-Some-clause-at_most : goal.returns-in-Some-clause-at_most
returns-in-Some-clause-at_most g c = rw (← c.self.view_is, ← c.as_slice.ensures.value) c.find-found.ensures.at_most

pub returns-in-None-clause-pair : goal.returns-in-None-clause-pair
returns-in-None-clause-pair g c =
    let sequences = c.as_slice.result.now in
    let none =
    MatchOption-at_none (All (HasNoPair c.args.a) sequences)
    (λ (f : Found). IsFirstPairIn c.args.a sequences f.sequence f.row f.next) c.in-None.is
    c.find-found.ensures.found in
    rw (← c.self.view_is, ← c.as_slice.ensures.value) (found_first c.args.a sequences None none)

pub returns-in-None-clause-at_least : goal.returns-in-None-clause-at_least
returns-in-None-clause-at_least g c = rw (← c.self.view_is, ← c.as_slice.ensures.value) c.find-found.ensures.at_least

pub returns-in-None-clause-at_most : goal.returns-in-None-clause-at_most
returns-in-None-clause-at_most g c = rw (← c.self.view_is, ← c.as_slice.ensures.value) c.find-found.ensures.at_most
