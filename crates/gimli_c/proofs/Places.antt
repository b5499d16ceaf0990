-- Places of addresses, by other names of what they are found in.
use Rattle.std.proofs.Common.{◌≡◌, ℕ, Bool, List, Option, inl, inr, subst}
use Rattle.std.specs.Prelude.{Result}
use Rattle.gimli_compilation.specs.Directories.{TellsDirectories}
use Rattle.gimli_compilation.specs.Sections.{Sections}
use Rattle.gimli_lookup.specs.ProgramPaths.{Texts}
use Rattle.gimli_lookup.specs.Section.{KeptUnit}
use Rattle.gimli_lookup.specs.declared.path_error.PathError.{PathError}
use Rattle.gimli_c.specs.declared.row.GimliRow.{GimliRow}
use Rattle.gimli_c.specs.MadeIndex.{IndexedProgram, AreAllUnitsOf, program}
use Rattle.gimli_c.specs.Place.{CopiesPlace, HasNoPlaceIn, IsPlaceIn, IsPlaceOf, texts_by}
use Rattle.gimli_c.specs.inside.Place.{HasNoPlaceOf}

module _ (p : IndexedProgram) (given sections : Sections) (units : List KeptUnit) (directory : ℕ → Option (List ℕ))
    (t : Texts) (address : ℕ) (row : GimliRow) (same : t ≡ texts_by p directory) (are : AreAllUnitsOf p units)
    (handed : given ≡ sections) (tells : TellsDirectories given directory) where
  pub place_in : (path : Result (List ℕ) PathError) → IsPlaceOf t units address row path
      → IsPlaceIn p sections address row path
  place_in path is = record {
    units = units;
    are_units = are;
    directory = directory;
    tells = subst (λ (x : Sections). TellsDirectories x directory) handed tells;
    place = subst (λ (x : Texts). IsPlaceOf x units address row path) same is;
  }

  pub no_place_in : (status : ℕ) → HasNoPlaceOf t units address row status
      → HasNoPlaceIn p sections address row status
  no_place_in status (inl none) = inl (none.0, record { units = units; are_units = are; none = none.1 })
  no_place_in status (inr (inl why)) = inr (inl (why.0, why.1, place_in _ why.2))
  no_place_in status (inr (inr memory)) = inr (inr (inl memory))

pub same_places : (section : List ℕ) (is_big : Bool) (size lowest : ℕ) (line_strings strings l s : List ℕ)
    (given sections : Sections) (address : ℕ) (row : GimliRow) (status : ℕ) (old new : List ℕ) (size_old size_new : ℕ)
    → line_strings ≡ l → strings ≡ s → given ≡ sections
    → CopiesPlace (program section is_big size lowest line_strings strings) given address row status old new size_old
    size_new
    → CopiesPlace (program section is_big size lowest l s) sections address row status old new size_old size_new
same_places section is_big size lowest line_strings strings l s given sections address row status old new size_old
    size_new line_strings_are strings_are sections_are is =
    subst
    (λ (k : Sections). CopiesPlace (program section is_big size lowest l s) k address row status old new size_old
    size_new)
    sections_are
    (subst
    (λ (x : List ℕ).
    CopiesPlace (program section is_big size lowest l x) given address row status old new size_old size_new)
    strings_are
    (subst
    (λ (x : List ℕ).
    CopiesPlace (program section is_big size lowest x strings) given address row status old new size_old size_new)
    line_strings_are is))
