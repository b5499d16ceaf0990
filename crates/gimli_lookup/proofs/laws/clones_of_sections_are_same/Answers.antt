use Rattle.std.proofs.Common.{◌≡◌, refl}
use Rattle.gimli_lookup.specs.declared.string_sections.StringSections.{StringSections}
use Rattle.gimli_lookup.proofs.laws.clones_of_sections_are_same.Goals as goal

module _ {R : Type 0} where
  -- sections of these readers
  abbrev rebuilt : R → R → StringSections R
  rebuilt line_strings strings = record { debug_line_str = line_strings; debug_str = strings }

  joined : (x y : StringSections R) → y.debug_line_str ≡ x.debug_line_str → y.debug_str ≡ x.debug_str → y ≡ x
  joined x y line_strings strings =
      let same : rebuilt y.debug_line_str y.debug_str
      ≡ rebuilt x.debug_line_str x.debug_str = rw (line_strings, strings) refl in same

pub returns : goal.returns
returns g c = λ same x. (
  ((same x.debug_line_str).0, (same x.debug_str).0),
  λ y clones.
      joined x y ((same x.debug_line_str).1 y.debug_line_str clones.0) ((same x.debug_str).1 y.debug_str clones.1),
)
