use Rattle.std.proofs.Common.{ℕ, List, ◌++◌, map, ap, subst, ◌∙◌}
use Rattle.gimli_core.specs.Layout.{layout_of}
use Rattle.gimli_line.specs.Units.{AreUnits}
use Rattle.gimli_lookup.specs.Section.{ListedUnit}
use Rattle.gimli_lookup.specs.Steps.{IsStepTableOf}
use Rattle.gimli_lookup.proofs.Ascents.{sequences_ascend}
use Rattle.gimli_lookup.proofs.SectionUnits.{none_kept, one_kept, all_kept, IsGiven}
use Rattle.gimli_lookup.proofs.section_lookup.SectionLookup.new.Goals as goal

pub units-init : goal.units-init
units-init g c =
    rw (c.new-units.ensures.items, c.new-sequences.ensures.items) (none_kept c.args.lowest c.units-walk.result)

pub units-preserved : goal.units-preserved
units-preserved g c =
    let o = g.R.Offset.ReaderOffset.number c.in-Some.next.offset.0 in
    let given : IsGiven c.units.walk c.next.new.self o c.in-Some.next.program = record {
      next = rw c.in-Some.is at c.in_ok-next.ensures.next;
      same_section = c.in_ok-next.ensures.section;
      same_entry = c.in_ok-next.ensures.entry;
      unit = rw c.in-Some.is at c.in_ok-next.ensures.unit;
      refusal = rw c.in-Some.is at c.in_ok-next.ensures.refusal;
      layout = rw c.in-Some.is at c.in_ok-next.ensures.layout;
    } in
    let unit = c.in_ok-unit.unit in
    rw c.in_ok-push.ensures.ok
    (one_kept c.units-walk.result.section c.units-walk.result.entry c.args.lowest c.units-walk.result.offsets
    c.units.units.items c.units.sequences.items
    c.new.new.sequences.items
    c.units.walk c.next.new.self o c.in-Some.next.program unit c.units.invariant given c.in_ok-unit.ensures.offset
    c.in_ok-unit.ensures.kept)

pub returns-clause-offsets : goal.returns-clause-offsets
returns-clause-offsets g c =
    let units = c.units.units.items in
    let none = rw c.in_default.is at c.in_ok-next.ensures.next in
    let are = c.units.invariant.to_come ∙ ap (λ (os : List ℕ). map (λ (u : ListedUnit). u.offset) units ++ os) none.0 in
    subst (AreUnits (layout_of (g.R.Reader.seen c.args.section.now).is_big g.R.Offset.ReaderOffset.limit) 0
    (g.R.Reader.seen c.args.section.now).bytes)
    (all_kept c.units.sequences.items units c.units-walk.result.offsets are) c.units-walk.ensures.offsets

pub returns-clause-units : goal.returns-clause-units
returns-clause-units g c = rw (c.units-walk.ensures.section, c.units-walk.ensures.entry) at c.units.invariant.each

pub invariant_of-result : goal.invariant_of-result
invariant_of-result g c =
    let kept = c.units.invariant in
    let walk = c.units-walk.result in (
      kept.adjacent,
      subst (IsStepTableOf c.in_ok-table.table) c.as_slice.ensures.value c.in_ok-table.ensures.ok,
      sequences_ascend walk.section walk.entry c.args.lowest c.units.sequences.items c.units.units.items kept.adjacent
          kept.each,
    )
