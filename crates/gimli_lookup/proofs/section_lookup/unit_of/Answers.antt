use Rattle.std.proofs.Common.{◌≤◌, ◌<◌, ◌+◌, ◌-◌, ◌/◌, ℕ, length, ap, arith}
use Rattle.std.specs.Prelude.{slice_index_or}
use Rattle.std.proofs.lemmas.List.Elements.{at_read}
use Rattle.gimli_lookup.specs.Section.{ListedUnit}
use Rattle.gimli_lookup.proofs.Sections.{has_units, starts_at, ends_at, goes_on_at}
use Rattle.gimli_lookup.proofs.section_lookup.unit_of.Goals as goal

pub halves-init : goal.halves-init
halves-init g c =
    let units = c.args.units.now in
    let r = c.requires in
    let some : 0 < length units = has_units units r.0 c.args.sequence r.1 r.2 in
    record {
      some = omega (arith, some);
      within = omega arith;
      first = λ d. omega (arith, starts_at 0 units r.0 d r.1 some);
      end = λ k d is. omega (arith, ends_at 0 units r.0 k d r.1 is, r.2);
    }

pub halves-preserved-then-indexes-sequence : goal.halves-preserved-then-indexes-sequence
halves-preserved-then-indexes-sequence g c =
    let i = c.halves.invariant in
    let units = c.args.units.now in
    let u = c.index-units-middle.result in
    let middle = c.halves.low + (c.halves.high - c.halves.low) / 2 in
    let before : middle < c.halves.high = omega arith in
    let from : u.first ≤ c.args.sequence = omega (arith, c.indexes.ensures.start) in
    record {
      some = before;
      within = i.within;
      first =
          at_read units (λ (v : ListedUnit). v.first ≤ c.args.sequence) middle u (omega (arith, before, i.within))
          c.index-units-middle.is from;
      end = i.end;
    }

pub halves-preserved : goal.halves-preserved
halves-preserved g c =
    let i = c.halves.invariant in
    let r = c.requires in
    let units = c.args.units.now in
    let u = c.index-units-middle.result in
    let middle = c.halves.low + (c.halves.high - c.halves.low) / 2 in
    let within : middle < length units = omega (arith, i.within) in
    let above : c.args.sequence < u.first = omega (arith, c.indexes.ensures.start) in
    record {
      some = omega arith;
      within = omega (arith, within);
      first = i.first;
      end = λ k d is.
          omega (
            arith,
            goes_on_at 0 units r.0 k d r.1 (omega (arith, is, within)),
            ap (λ (n : ℕ). (slice_index_or units n d).first) is,
            at_read units (λ (v : ListedUnit). c.args.sequence < v.first) middle u within c.index-units-middle.is above
                d,
          );
    }

pub returns-clause-end : goal.returns-clause-end
returns-clause-end g c =
    λ d. c.halves.invariant.end c.halves.low d (omega (arith, c.halves.invariant.some, c.halves-test.false))
