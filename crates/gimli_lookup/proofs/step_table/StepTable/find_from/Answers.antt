use Rattle.std.proofs.Common.{◌≡◌, ◌∙◌, ◌<◌, true, length, ap, sym, arith, rules}
use Rattle.std.proofs.lemmas.Grind.{common_steps}
use Rattle.gimli_lookup.specs.Covering.{covers}
use Rattle.gimli_lookup.proofs.CoveringPairs.{covering_has_pair, covering_is_ordered}
use Rattle.gimli_lookup.proofs.StepTables.{covering_within, covering_is, none_has_pair, first_of_all, rows_fit}
use Rattle.gimli_lookup.proofs.step_table.StepTable.find_from.Goals as goal

pub returns-in_default : goal.returns-in_default
returns-in_default c =
    let said = sym c.in_default.is ∙ c.requires.sequence in
    none_has_pair c.args.self.now c.args.sequences.now c.requires.table c.args.a c.requires.order said

pub offset_bounds-sequences-sequence : goal.offset_bounds-sequences-sequence
offset_bounds-sequences-sequence c =
    let said = sym c.in-Some.is ∙ c.requires.sequence in
    let within : c.in-Some.sequence < length c.args.sequences.now =
    covering_within c.args.self.now c.args.sequences.now c.requires.table c.args.a c.in-Some.sequence said in
    first_of (search rules, grind (arith, common_steps))

pub bounds-sequences-sequence : goal.bounds-sequences-sequence
bounds-sequences-sequence c =
    let said = sym c.in-Some.is ∙ c.requires.sequence in
    covering_within c.args.self.now c.args.sequences.now c.requires.table c.args.a c.in-Some.sequence said

pub find_from-requires-clause-order : goal.find_from-requires-clause-order
find_from-requires-clause-order c =
    let said = sym c.in-Some.is ∙ c.requires.sequence in
    let rows = c.index-sequences-sequence.result in
    let covering : covers c.args.a rows ≡ true =
    ap (covers c.args.a) c.index-sequences-sequence.is
    ∙ covering_is c.args.self.now c.args.sequences.now c.requires.table c.args.a c.in-Some.sequence said rows in
    covering_is_ordered c.args.a rows covering

pub find_from-requires-clause-count : goal.find_from-requires-clause-count
find_from-requires-clause-count c =
    let table = c.args.self.now in
    let sequences = c.args.sequences.now in
    let said = sym c.in-Some.is ∙ c.requires.sequence in
    omega (
      arith,
      rows_fit sequences c.in-Some.sequence c.index-sequences-sequence.result
          (covering_within table sequences c.requires.table c.args.a c.in-Some.sequence said)
          c.index-sequences-sequence.is,
      c.requires.table.countable,
    )

pub returns-in_default-find_from : goal.returns-in_default-find_from
returns-in_default-find_from c =
    let said = sym c.in-Some.is ∙ c.requires.sequence in
    let rows = c.index-sequences-sequence.result in
    let covering : covers c.args.a rows ≡ true =
    ap (covers c.args.a) c.index-sequences-sequence.is
    ∙ covering_is c.args.self.now c.args.sequences.now c.requires.table c.args.a c.in-Some.sequence said rows in
    absurd (covering_has_pair c.args.a rows covering c.in_default-find_from.ensures)

pub returns : goal.returns
returns c =
    let said = sym c.in-Some.is ∙ c.requires.sequence in
    first_of_all c.args.self.now c.args.sequences.now c.requires.table c.args.a c.in-Some.sequence said
    c.requires.order c.index-sequences-sequence.result c.in-Some-find_from.row c.in-Some-find_from.next
    c.index-sequences-sequence.is c.in-Some-find_from.ensures
