use Rattle.gimli_lookup.specs.Strings.{strings}
use Rattle.gimli_lookup.proofs.DirectoryNeeds.{unneeded_at, needed_at, none_yet, one_more, found, not_found}
use Rattle.gimli_lookup.proofs.directories.some_need_directory.Goals as goal

pub units-init : goal.units-init
units-init g c = none_yet (strings g.R.Reader.seen c.args.sections.now) c.args.units

pub returns-then-needs_directory-clause-ok : goal.returns-then-needs_directory-clause-ok
returns-then-needs_directory-clause-ok g c =
    let texts = strings g.R.Reader.seen c.args.sections.now in
    let o = g.R.Offset.ReaderOffset.number c.in-Some.unit.offset.0 in
    found texts c.args.units c.units.units c.next.new.self o c.units.invariant
    (rw c.in-Some.is at c.in_ok-unit.ensures.next)
    (needed_at c.units.units.section c.units.units.entry texts o c.in-Some.unit.program c.needs_directory.result
    (rw c.in-Some.is at c.in_ok-unit.ensures.unit)
    c.needs_directory.ensures.read c.needs_directory.ensures.refused c.if-needs_directory.true)

pub units-preserved : goal.units-preserved
units-preserved g c =
    let texts = strings g.R.Reader.seen c.args.sections.now in
    let o = g.R.Offset.ReaderOffset.number c.in-Some.unit.offset.0 in
    one_more texts c.args.units c.units.units c.next.new.self o c.units.invariant
    (rw c.in-Some.is at c.in_ok-unit.ensures.next)
    c.in_ok-unit.ensures.section c.in_ok-unit.ensures.entry
    (unneeded_at c.units.units.section c.units.units.entry texts o c.in-Some.unit.program c.needs_directory.result
    (rw c.in-Some.is at c.in_ok-unit.ensures.unit) (rw c.in-Some.is at c.in_ok-unit.ensures.refusal)
    c.needs_directory.ensures.read c.if-needs_directory.false)

pub returns-clause-ok : goal.returns-clause-ok
returns-clause-ok g c =
    let none = rw c.in_default.is at c.in_ok-unit.ensures.next in
    not_found (strings g.R.Reader.seen c.args.sections.now) c.args.units c.units.units c.units.invariant none.0
