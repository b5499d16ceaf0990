use Rattle.std.proofs.Common.{ℕ, true, false, sym, ap, ◌∙◌}
use Rattle.gimli_lookup.specs.UnitRun.{stands}
use Rattle.gimli_lookup.specs.inside.UnitSearch.{UnitSearch}
use Rattle.gimli_lookup.proofs.UnitSearches.{on_ok, placed_at}
use Rattle.gimli_lookup.proofs.unit_search.UnitSearch.place.Goals as goal

pub returns-clause-ok : goal.returns-clause-ok
returns-clause-ok c = λ unit cut sees.
    let lowest = sym sees.lowest ∙ sym (ap (λ (s : UnitSearch). s.lowest) c.self.view_is) in
    placed_at unit c.args.addresses.now cut c.args.row.now c.end_part.new.self false
    (ap (λ (n : ℕ). stands n c.args.row.now) lowest ∙ sym c.if-stands.ensures)
    (c.end_part.ensures unit c.args.addresses.now cut sees)

pub returns-then-stands-clause-ok : goal.returns-then-stands-clause-ok
returns-then-stands-clause-ok c =
    on_ok c.add.result
    (λ seen unit cut sees.
    let lowest = sym sees.lowest ∙ sym (ap (λ (s : UnitSearch). s.lowest) c.self.view_is) in
    placed_at unit c.args.addresses.now cut c.args.row.now c.add.new.self true
    (ap (λ (n : ℕ). stands n c.args.row.now) lowest ∙ sym c.if-stands.ensures) (seen unit cut sees))
    c.add.ensures.ok
