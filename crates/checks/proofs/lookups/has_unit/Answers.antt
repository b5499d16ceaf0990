use Rattle.std.proofs.Common.{rules, length, ap, ◌∙◌, ◌≡◌}
use Rattle.std.proofs.lemmas.List.{length-map}
use Rattle.checks.proofs.lookups.has_unit.Goals as goal

pub returns : goal.returns
returns g c =
    let units = c.units-count in
    let count : length units.result.now ≡ length c.args.lookup.now = ap length units.ensures
    ∙ length-map c.args.lookup.now _ in
    rw (← count) (search rules)
