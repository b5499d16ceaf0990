use Rattle.std.proofs.Common.{◌<◌, List, [], ◌∷◌, ◌++◌, length, map, take, sym, ap, ◌∙◌, arith}
use Rattle.std.proofs.lemmas.List.{map_push, take_all, take_more}
use Rattle.gimli_lookup.specs.Section.{ListedUnit, without_header}
use Rattle.gimli_lookup.proofs.section_lookup.without_headers.Goals as goal

pub loop-unit-preserved : goal.loop-unit-preserved
loop-unit-preserved g c =
    let units = c.args.units.now in
    let i = c.loop-unit.unit-index in
    let unit = c.unit-item.result in
    let lt : i < length units = omega arith in
    rw (c.in_ok-push.ensures.ok, c.without_header.ensures, c.loop-unit.invariant)
    (sym (map_push without_header (take i units) unit)
    ∙ ap (λ (us : List ListedUnit). map without_header us)
    (ap (λ (u : ListedUnit). take i units ++ u ∷ []) c.unit-item.is ∙ sym (take_more units i unit lt)))

pub returns-clause-ok : goal.returns-clause-ok
returns-clause-ok g c =
    c.loop-unit.invariant
    ∙ ap (λ (us : List ListedUnit). map without_header us)
    (take_all c.loop-unit.unit-index c.args.units.now (omega (arith, c.loop-unit-test.false)))
