use Rattle.std.proofs.Common.{◌≡◌, length, ap, ◌∙◌, arith}
use Rattle.std.specs.Prelude.{slice_index_or}
use Rattle.std.proofs.lemmas.List.{get_or-map, length-map}
use Rattle.gimli_lookup.specs.Section.{KeptUnit}
use Rattle.gimli_lookup.proofs.section_lookup.SectionLookup.unit_at.Goals as goal

pub offset_bounds-units-unit : goal.offset_bounds-units-unit
offset_bounds-units-unit g c =
    let count : length c.units.result.now ≡ length c.args.self.now = ap length c.units.ensures
    ∙ length-map c.args.self.now (λ (u : KeptUnit). u.unit) in
    omega (arith, count, c.requires)

pub bounds-units-unit : goal.bounds-units-unit
bounds-units-unit g c =
    let count : length c.units.result.now ≡ length c.args.self.now = ap length c.units.ensures
    ∙ length-map c.args.self.now (λ (u : KeptUnit). u.unit) in
    omega (arith, count, c.requires)

pub returns : goal.returns
returns g c =
    λ d.
    c.index-units-unit.is
    ∙ ap (λ xs. slice_index_or xs c.args.unit c.index-units-unit.result) c.units.ensures
    ∙ get_or-map (λ (u : KeptUnit). u.unit) c.args.self.now c.args.unit d c.index-units-unit.result c.requires
