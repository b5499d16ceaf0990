use Rattle.std.proofs.Common.{List, map, ap, ◌∙◌, length}
use Rattle.gimli_lookup.specs.Section.{ListedUnit, KeptUnit, unit_without_header, with_sequences}
use Rattle.gimli_lookup.proofs.Headless.{headless_adjacent, headless_kept}
use Rattle.gimli_lookup.proofs.section_lookup.SectionLookup+EndianSlice+E.without_headers.Goals as goal

pub invariant_of-result : goal.invariant_of-result
invariant_of-result g c =
    let a = c.self.inside in
    let bare = rw c.as_slice.ensures.value at c.in_ok-without_headers.ensures.ok in (
      rw bare (headless_adjacent 0 a.units.items (length a.sequences.items) c.self.invariant.0),
      c.self.invariant.1,
      c.self.invariant.2,
    )

pub returns-clause-ok : goal.returns-clause-ok
returns-clause-ok g c =
    let a = c.self.inside in
    let bare = rw c.as_slice.ensures.value at c.in_ok-without_headers.ensures.ok in
    ap (λ (us : List ListedUnit). map (with_sequences a.sequences.items) us) bare
    ∙ headless_kept a.sequences.items a.units.items
    ∙ ap (λ (ks : List KeptUnit). map unit_without_header ks) c.self.view_is
