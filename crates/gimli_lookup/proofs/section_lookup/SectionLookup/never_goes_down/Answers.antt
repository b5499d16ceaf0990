use Rattle.std.proofs.Common.{sym, ap, subst, ◌∙◌}
use Rattle.gimli_lookup.specs.Probes.{NoneGoesDown}
use Rattle.gimli_lookup.specs.Section.{all_sequences}
use Rattle.gimli_lookup.proofs.Sections.{have_all}
use Rattle.gimli_lookup.proofs.section_lookup.SectionLookup.never_goes_down.Goals as goal

pub returns : goal.returns
returns g c =
    let a = c.self.inside in
    subst NoneGoesDown
    (sym (have_all a.sequences.items a.units.items c.self.invariant.0) ∙ ap all_sequences c.self.view_is)
    c.self.invariant.2
