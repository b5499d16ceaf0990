use Rattle.std.proofs.Common.{◌≡◌, ℕ, List, length, map, subst, sym, rules}
use Rattle.gimli_line.specs.Units.{AreUnits}
use Rattle.gimli_line.specs.run.Unread.{Unread}
use Rattle.gimli_lookup.specs.declared.section_lookup.CoveringRows.{CoveringRows}
use Rattle.gimli_lookup.specs.inside.Section.{IsSearched}
use Rattle.gimli_lookup.specs.inside.UnitSearch.{first_covering}
use Rattle.gimli_lookup.proofs.SectionUnits.{IsGiven}
use Rattle.gimli_lookup.proofs.SectionSearches.{none_searched, one_searched, all_searched}
use Rattle.gimli_lookup.proofs.section_search.find_in_section.Goals as goal

pub units-init : goal.units-init
units-init g c =
    rw (c.new-units.ensures.items, c.new-pairs.ensures.items)
    (none_searched c.args.lowest c.args.addresses.now c.units-walk.result)

pub units-preserved : goal.units-preserved
units-preserved g c =
    let o = g.R.Offset.ReaderOffset.number c.in-Some.next.offset.0 in
    let given : IsGiven c.units.walk c.next.new.self o c.in-Some.next.program = record {
      next = rw c.in-Some.is at c.in_ok-next.ensures.next;
      same_section = c.in_ok-next.ensures.section;
      same_entry = c.in_ok-next.ensures.entry;
      unit = rw c.in-Some.is at c.in_ok-next.ensures.unit;
      refusal = rw c.in-Some.is at c.in_ok-next.ensures.refusal;
      layout = rw c.in-Some.is at c.in_ok-next.ensures.layout;
    } in
    let unit = c.in_ok-unit.unit in
    let size : c.len.result ≡ length c.units.units.items = search rules in
    rw c.in_ok-push.ensures.ok
    (one_searched c.units-walk.result.section c.units-walk.result.entry c.args.lowest c.args.addresses.now
    c.units-walk.result.offsets c.units.units.items
    c.units.pairs.items c.search.new.pairs.items
    c.units.walk c.next.new.self o c.in-Some.next.program unit c.units.invariant given c.in_ok-unit.ensures.offset
    (subst (λ (n : ℕ).
    IsSearched c.args.lowest n c.args.addresses.now c.in-Some.next.program unit c.units.pairs.items
    c.search.new.pairs.items)
    size c.in_ok-unit.ensures.searched))

pub returns-clause-ok : goal.returns-clause-ok
returns-clause-ok g c =
    let none = rw c.in_default.is at c.in_ok-next.ensures.next in
    let walk = c.units-walk in
    let offsets =
    subst (λ (s : Unread). AreUnits s.layout 0 s.bytes walk.result.offsets) (sym walk.ensures.section)
    walk.ensures.offsets in
    let rows =
    subst
    (λ (ps : List CoveringRows). c.in_ok-rows.rows.items ≡ map (λ a. first_covering a ps) c.args.addresses.now)
    c.deref.ensures.value
    c.in_ok-rows.ensures.ok in
    rw (walk.ensures.section, walk.ensures.entry) at
    (all_searched walk.result.section walk.result.entry c.args.lowest c.args.addresses.now walk.result.offsets
    c.units.units.items
    c.units.pairs.items c.units.walk c.in_ok-rows.rows.items c.units.invariant none.0 offsets rows)
