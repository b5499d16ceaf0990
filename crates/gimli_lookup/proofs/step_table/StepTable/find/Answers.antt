use Rattle.std.proofs.Common.{◌≡◌, ◌∙◌, ◌<◌, ◌≤◌, ◌^◌, ◌*◌, true, List, length, ap, subst, sym, arith, rules}
use Rattle.std.proofs.lemmas.Grind.{common_steps}
use Rattle.gimli_line.specs.declared.run.row.LineRow.{LineRow}
use Rattle.gimli_lookup.specs.declared.steps.Step.{Step}
use Rattle.gimli_lookup.specs.Covering.{covers}
use Rattle.gimli_lookup.specs.Probes.{binary_digits}
use Rattle.gimli_lookup.specs.Steps.{step_at}
use Rattle.gimli_lookup.proofs.CoveringPairs.{covering_has_pair, covering_is_ordered}
use Rattle.gimli_lookup.proofs.Digits.{digits_below}
use Rattle.gimli_lookup.proofs.StepTables.{covering_within, covering_is, probes_of_covering, step_probes, covered_steps}
use Rattle.gimli_lookup.proofs.StepTables.{none_has_pair, first_of_all, rows_fit}
use Rattle.gimli_lookup.proofs.step_table.StepTable.find.Goals as goal

pub returns-in_default-clause-found : goal.returns-in_default-clause-found
returns-in_default-clause-found c =
    let said = c.in_default.ensures.value ∙ ap (step_at c.args.a) c.as_slice.ensures.value in
    none_has_pair c.args.self.now c.args.sequences.now c.requires.table c.args.a c.requires.order said

pub returns-in_default-clause-at_least : goal.returns-in_default-clause-at_least
returns-in_default-clause-at_least c = λ some.
    let table = c.args.self.now in
    let here : 0 < length c.as_slice.result.now =
    subst (λ (xs : List Step). 0 < length xs) (sym c.as_slice.ensures.value)
    (covered_steps c.args.sequences.now table.steps.items c.requires.table.steps.value some) in
    omega (arith, c.sequence_at.ensures.at_least here)

pub returns-in_default-clause-at_most : goal.returns-in_default-clause-at_most
returns-in_default-clause-at_most c =
    let sequences = c.args.sequences.now in
    let few : binary_digits (length c.as_slice.result.now) ≤ binary_digits (2 * length sequences) =
    subst (λ (xs : List Step). binary_digits (length xs) ≤ binary_digits (2 * length sequences))
    (sym c.as_slice.ensures.value)
    (step_probes c.args.self.now sequences c.requires.table c.args.a) in
    omega (arith, c.sequence_at.ensures.at_most, few)

pub offset_bounds-sequences-sequence : goal.offset_bounds-sequences-sequence
offset_bounds-sequences-sequence c =
    let said = c.in-Some.ensures.value ∙ ap (step_at c.args.a) c.as_slice.ensures.value in
    let within : c.in-Some.sequence < length c.args.sequences.now =
    covering_within c.args.self.now c.args.sequences.now c.requires.table c.args.a c.in-Some.sequence said in
    first_of (search rules, grind (arith, common_steps))

pub bounds-sequences-sequence : goal.bounds-sequences-sequence
bounds-sequences-sequence c =
    let said = c.in-Some.ensures.value ∙ ap (step_at c.args.a) c.as_slice.ensures.value in
    covering_within c.args.self.now c.args.sequences.now c.requires.table c.args.a c.in-Some.sequence said

pub find_by_halves-requires-clause-order : goal.find_by_halves-requires-clause-order
find_by_halves-requires-clause-order c =
    let said = c.in-Some.ensures.value ∙ ap (step_at c.args.a) c.as_slice.ensures.value in
    let rows = c.index-sequences-sequence.result in
    let covering : covers c.args.a rows ≡ true =
    ap (covers c.args.a) c.index-sequences-sequence.is
    ∙ covering_is c.args.self.now c.args.sequences.now c.requires.table c.args.a c.in-Some.sequence said rows in
    covering_is_ordered c.args.a rows covering

pub find_by_halves-requires-clause-count : goal.find_by_halves-requires-clause-count
find_by_halves-requires-clause-count c =
    let table = c.args.self.now in
    let sequences = c.args.sequences.now in
    let said = c.in-Some.ensures.value ∙ ap (step_at c.args.a) c.as_slice.ensures.value in
    let fits : length c.as_slice.result.now < 2 ^ 64 = first_of (search rules, grind (arith, common_steps)) in
    omega (
      arith,
      c.sequence_at.ensures.at_most,
      digits_below 64 (length c.as_slice.result.now) fits,
      rows_fit sequences c.in-Some.sequence c.index-sequences-sequence.result
          (covering_within table sequences c.requires.table c.args.a c.in-Some.sequence said)
          c.index-sequences-sequence.is,
      c.requires.table.countable,
    )

pub returns-in_default-find_by_halves-clause-found : goal.returns-in_default-find_by_halves-clause-found
returns-in_default-find_by_halves-clause-found c =
    let said = c.in-Some.ensures.value ∙ ap (step_at c.args.a) c.as_slice.ensures.value in
    let rows = c.index-sequences-sequence.result in
    let covering : covers c.args.a rows ≡ true =
    ap (covers c.args.a) c.index-sequences-sequence.is
    ∙ covering_is c.args.self.now c.args.sequences.now c.requires.table c.args.a c.in-Some.sequence said rows in
    absurd (covering_has_pair c.args.a rows covering c.in_default-find_by_halves.ensures.pair)

pub returns-in_default-find_by_halves-clause-at_most : goal.returns-in_default-find_by_halves-clause-at_most
returns-in_default-find_by_halves-clause-at_most c =
    let said = c.in-Some.ensures.value ∙ ap (step_at c.args.a) c.as_slice.ensures.value in
    let rows = c.index-sequences-sequence.result in
    let covering : covers c.args.a rows ≡ true =
    ap (covers c.args.a) c.index-sequences-sequence.is
    ∙ covering_is c.args.self.now c.args.sequences.now c.requires.table c.args.a c.in-Some.sequence said rows in
    absurd (covering_has_pair c.args.a rows covering c.in_default-find_by_halves.ensures.pair)

pub returns-clause-found : goal.returns-clause-found
returns-clause-found c =
    let said = c.in-Some.ensures.value ∙ ap (step_at c.args.a) c.as_slice.ensures.value in
    first_of_all c.args.self.now c.args.sequences.now c.requires.table c.args.a c.in-Some.sequence said
    c.requires.order c.index-sequences-sequence.result c.in-Some-find_by_halves.row c.in-Some-find_by_halves.next
    c.index-sequences-sequence.is c.in-Some-find_by_halves.ensures.pair

pub returns-clause-at_most : goal.returns-clause-at_most
returns-clause-at_most c =
    let table = c.args.self.now in
    let sequences = c.args.sequences.now in
    let said = c.in-Some.ensures.value ∙ ap (step_at c.args.a) c.as_slice.ensures.value in
    let rows = c.index-sequences-sequence.result in
    let few : binary_digits (length c.as_slice.result.now) ≤ binary_digits (2 * length sequences) =
    subst (λ (xs : List Step). binary_digits (length xs) ≤ binary_digits (2 * length sequences))
    (sym c.as_slice.ensures.value)
    (step_probes table sequences c.requires.table c.args.a) in
    let here = ap (λ (r : List LineRow). binary_digits (length r)) c.index-sequences-sequence.is in
    let probes = probes_of_covering table sequences c.requires.table c.args.a c.in-Some.sequence said rows in
    omega (arith, c.sequence_at.ensures.at_most, few, c.find_by_halves.ensures.at_most, here, probes)
