use Rattle.std.proofs.Common.{map, sym, ap, ◌∙◌}
use Rattle.gimli_lookup.specs.Section.{KeptUnit}
use Rattle.gimli_lookup.proofs.Sections.{listed_are}
use Rattle.gimli_lookup.proofs.section_lookup.SectionLookup.units.Goals as goal

pub returns : goal.returns
returns g c =
    c.as_slice.ensures.value ∙ sym (listed_are c.self.inside.sequences.items c.self.inside.units.items)
    ∙ ap (map (λ (u : KeptUnit). u.unit)) c.self.view_is
