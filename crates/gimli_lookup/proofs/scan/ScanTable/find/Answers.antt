use Rattle.std.proofs.Common.{◌≡◌, ◌∙◌, ◌<◌, ◌≤◌, ◌^◌, ◌*◌, true, List, length, ap, subst, sym, refl, inl, inr, arith}
use Rattle.std.proofs.Common.{rules}
use Rattle.std.proofs.lemmas.Grind.{common_steps}
use Rattle.gimli_line.specs.declared.run.row.LineRow.{LineRow}
use Rattle.gimli_lookup.specs.declared.steps.Step.{Step}
use Rattle.gimli_lookup.specs.Covering.{covers}
use Rattle.gimli_lookup.specs.Probes.{binary_digits}
use Rattle.gimli_lookup.specs.Steps.{step_at}
use Rattle.gimli_lookup.proofs.CoveringPairs.{covering_has_pair, covering_is_ordered}
use Rattle.gimli_lookup.proofs.Digits.{digits_below}
use Rattle.gimli_lookup.proofs.StepTables.{covering_within, covering_is, none_covers_before, probes_of_covering}
use Rattle.gimli_lookup.proofs.StepTables.{step_probes}
use Rattle.gimli_lookup.proofs.Unordered.{first_of_unordered, first_of_covering, scan_and_rows, some_probes}
use Rattle.gimli_lookup.proofs.Unordered.{found_uncovered}
use Rattle.gimli_lookup.proofs.scan.ScanTable.find.Goals as goal

pub find_unordered-found-requires-clause-count : goal.find_unordered-found-requires-clause-count
find_unordered-found-requires-clause-count c =
    let fits : length c.as_slice.result.now < 2 ^ 64 = first_of (search rules, grind (arith, common_steps)) in
    omega (
      arith,
      c.sequence_at.ensures.at_most,
      digits_below 64 (length c.as_slice.result.now) fits,
      c.requires.steps.countable,
    )

pub returns-in_default-clause-found : goal.returns-in_default-clause-found
returns-in_default-clause-found c =
    let table = c.args.self.now.table in
    let sequences = c.args.sequences.now in
    let said = c.in_default.ensures.value ∙ ap (step_at c.args.a) c.as_slice.ensures.value in
    found_uncovered c.args.self.now sequences c.requires c.args.a said c.find_unordered-found.result
    c.find_unordered-found.ensures.found

pub returns-in_default-clause-at_least : goal.returns-in_default-clause-at_least
returns-in_default-clause-at_least c =
    λ some. elim (some_probes c.args.self.now c.args.sequences.now c.requires c.args.a some) [
      | inl steps ↦
          let here : 0
          < length c.as_slice.result.now = subst (λ (xs : List Step). 0 < length xs) (sym c.as_slice.ensures.value)
          steps in
          omega (arith, c.sequence_at.ensures.at_least here, c.find_unordered-found.ensures.grows)
      | inr rows ↦ omega (arith, c.find_unordered-found.ensures.at_least refl rows)
    ]

pub returns-in_default-clause-at_most : goal.returns-in_default-clause-at_most
returns-in_default-clause-at_most c =
    let table = c.args.self.now.table in
    let sequences = c.args.sequences.now in
    let few : binary_digits (length c.as_slice.result.now) ≤ binary_digits (2 * length sequences) =
    subst (λ (xs : List Step). binary_digits (length xs) ≤ binary_digits (2 * length sequences))
    (sym c.as_slice.ensures.value)
    (step_probes table sequences c.requires.steps c.args.a) in
    omega (arith, c.sequence_at.ensures.at_most, few, c.find_unordered-found.ensures.at_most)

pub find_unordered-requires-clause-end : goal.find_unordered-requires-clause-end
find_unordered-requires-clause-end c =
    let said = c.in-Some.ensures.value ∙ ap (step_at c.args.a) c.as_slice.ensures.value in
    omega (
      arith,
      covering_within c.args.self.now.table c.args.sequences.now c.requires.steps c.args.a c.in-Some.sequence said,
    )

pub find_unordered-requires-clause-count : goal.find_unordered-requires-clause-count
find_unordered-requires-clause-count c =
    let fits : length c.as_slice.result.now < 2 ^ 64 = first_of (search rules, grind (arith, common_steps)) in
    omega (
      arith,
      c.sequence_at.ensures.at_most,
      digits_below 64 (length c.as_slice.result.now) fits,
      c.requires.steps.countable,
    )

pub returns-in-Some-find_unordered-clause-found : goal.returns-in-Some-find_unordered-clause-found
returns-in-Some-find_unordered-clause-found c =
    let table = c.args.self.now.table in
    let sequences = c.args.sequences.now in
    let said = c.in-Some.ensures.value ∙ ap (step_at c.args.a) c.as_slice.ensures.value in
    let found = c.in-Some-find_unordered.found in
    first_of_unordered c.args.a c.in-Some.sequence sequences found.sequence found.row found.next
    (none_covers_before table sequences c.requires.steps c.args.a c.in-Some.sequence said)
    c.in-Some-find_unordered.ensures.found

pub returns-in-Some-find_unordered-clause-at_most : goal.returns-in-Some-find_unordered-clause-at_most
returns-in-Some-find_unordered-clause-at_most c =
    let table = c.args.self.now.table in
    let sequences = c.args.sequences.now in
    let few : binary_digits (length c.as_slice.result.now) ≤ binary_digits (2 * length sequences) =
    subst (λ (xs : List Step). binary_digits (length xs) ≤ binary_digits (2 * length sequences))
    (sym c.as_slice.ensures.value)
    (step_probes table sequences c.requires.steps c.args.a) in
    omega (arith, c.sequence_at.ensures.at_most, few, c.find_unordered.ensures.at_most)

pub offset_bounds-sequences-sequence : goal.offset_bounds-sequences-sequence
offset_bounds-sequences-sequence c =
    let said = c.in-Some.ensures.value ∙ ap (step_at c.args.a) c.as_slice.ensures.value in
    let within : c.in-Some.sequence < length c.args.sequences.now =
    covering_within c.args.self.now.table c.args.sequences.now c.requires.steps c.args.a c.in-Some.sequence said in
    first_of (search rules, grind (arith, common_steps))

pub bounds-sequences-sequence : goal.bounds-sequences-sequence
bounds-sequences-sequence c =
    let said = c.in-Some.ensures.value ∙ ap (step_at c.args.a) c.as_slice.ensures.value in
    covering_within c.args.self.now.table c.args.sequences.now c.requires.steps c.args.a c.in-Some.sequence said

pub find_by_halves-requires-clause-order : goal.find_by_halves-requires-clause-order
find_by_halves-requires-clause-order c =
    let said = c.in-Some.ensures.value ∙ ap (step_at c.args.a) c.as_slice.ensures.value in
    let rows = c.index-sequences-sequence.result in
    let covering : covers c.args.a rows ≡ true =
    ap (covers c.args.a) c.index-sequences-sequence.is
    ∙ covering_is c.args.self.now.table c.args.sequences.now c.requires.steps c.args.a c.in-Some.sequence said rows in
    covering_is_ordered c.args.a rows covering

pub find_by_halves-requires-clause-count : goal.find_by_halves-requires-clause-count
find_by_halves-requires-clause-count c =
    let table = c.args.self.now.table in
    let sequences = c.args.sequences.now in
    let said = c.in-Some.ensures.value ∙ ap (step_at c.args.a) c.as_slice.ensures.value in
    let rows = c.index-sequences-sequence.result in
    let covering : covers c.args.a rows ≡ true =
    ap (covers c.args.a) c.index-sequences-sequence.is
    ∙ covering_is table sequences c.requires.steps c.args.a c.in-Some.sequence said rows in
    let fits : length c.as_slice.result.now < 2 ^ 64 = first_of (search rules, grind (arith, common_steps)) in
    omega (
      arith,
      c.sequence_at.ensures.at_most,
      digits_below 64 (length c.as_slice.result.now) fits,
      c.find_unordered.ensures.at_most,
      scan_and_rows sequences c.in-Some.sequence rows
          (covering_within table sequences c.requires.steps c.args.a c.in-Some.sequence said)
          c.index-sequences-sequence.is
          (covering_is_ordered c.args.a rows covering),
      c.requires.steps.countable,
    )

pub returns-in_default-find_by_halves-clause-found : goal.returns-in_default-find_by_halves-clause-found
returns-in_default-find_by_halves-clause-found c =
    let said = c.in-Some.ensures.value ∙ ap (step_at c.args.a) c.as_slice.ensures.value in
    let rows = c.index-sequences-sequence.result in
    let covering : covers c.args.a rows ≡ true =
    ap (covers c.args.a) c.index-sequences-sequence.is
    ∙ covering_is c.args.self.now.table c.args.sequences.now c.requires.steps c.args.a c.in-Some.sequence said rows in
    absurd (covering_has_pair c.args.a rows covering c.in_default-find_by_halves.ensures.pair)

pub returns-in_default-find_by_halves-clause-at_most : goal.returns-in_default-find_by_halves-clause-at_most
returns-in_default-find_by_halves-clause-at_most c =
    let said = c.in-Some.ensures.value ∙ ap (step_at c.args.a) c.as_slice.ensures.value in
    let rows = c.index-sequences-sequence.result in
    let covering : covers c.args.a rows ≡ true =
    ap (covers c.args.a) c.index-sequences-sequence.is
    ∙ covering_is c.args.self.now.table c.args.sequences.now c.requires.steps c.args.a c.in-Some.sequence said rows in
    absurd (covering_has_pair c.args.a rows covering c.in_default-find_by_halves.ensures.pair)

pub returns-clause-found : goal.returns-clause-found
returns-clause-found c =
    let table = c.args.self.now.table in
    let sequences = c.args.sequences.now in
    let said = c.in-Some.ensures.value ∙ ap (step_at c.args.a) c.as_slice.ensures.value in
    let rows = c.index-sequences-sequence.result in
    let sequence = c.in-Some.sequence in
    first_of_covering c.args.a sequences sequence rows c.in-Some-find_by_halves.row c.in-Some-find_by_halves.next
    (covering_within table sequences c.requires.steps c.args.a sequence said) c.index-sequences-sequence.is
    (none_covers_before table sequences c.requires.steps c.args.a sequence said)
    c.in_default-find_unordered.ensures.found
    c.in-Some-find_by_halves.ensures.pair

pub returns-clause-at_most : goal.returns-clause-at_most
returns-clause-at_most c =
    let table = c.args.self.now.table in
    let sequences = c.args.sequences.now in
    let said = c.in-Some.ensures.value ∙ ap (step_at c.args.a) c.as_slice.ensures.value in
    let rows = c.index-sequences-sequence.result in
    let few : binary_digits (length c.as_slice.result.now) ≤ binary_digits (2 * length sequences) =
    subst (λ (xs : List Step). binary_digits (length xs) ≤ binary_digits (2 * length sequences))
    (sym c.as_slice.ensures.value)
    (step_probes table sequences c.requires.steps c.args.a) in
    let here = ap (λ (r : List LineRow). binary_digits (length r)) c.index-sequences-sequence.is in
    let probes = probes_of_covering table sequences c.requires.steps c.args.a c.in-Some.sequence said rows in
    omega (
      arith,
      c.sequence_at.ensures.at_most,
      few,
      c.find_unordered.ensures.at_most,
      c.find_by_halves.ensures.at_most,
      here,
      probes,
    )
