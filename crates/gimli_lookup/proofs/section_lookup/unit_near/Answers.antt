use Rattle.std.proofs.Common.{◌≤◌, ◌<◌}
use Rattle.std.proofs.lemmas.List.Elements.{at_read}
use Rattle.gimli_lookup.specs.Section.{ListedUnit}
use Rattle.gimli_lookup.proofs.section_lookup.unit_near.Goals as goal

pub returns-then-has_sequence-clause-first : goal.returns-then-has_sequence-clause-first
returns-then-has_sequence-clause-first g c =
    at_read c.args.units.now (λ (v : ListedUnit). v.first ≤ c.args.sequence) c.args.near c.index-units-near.result
    c.if-near-units.true c.index-units-near.is
    (c.has_sequence.ensures.first c.if-has_sequence.true)

pub returns-then-has_sequence-clause-end : goal.returns-then-has_sequence-clause-end
returns-then-has_sequence-clause-end g c =
    at_read c.args.units.now (λ (v : ListedUnit). c.args.sequence < v.end) c.args.near c.index-units-near.result
    c.if-near-units.true c.index-units-near.is
    (c.has_sequence.ensures.end c.if-has_sequence.true)
