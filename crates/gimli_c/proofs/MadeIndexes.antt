-- The index that is made of a program, by other names of what it is made of.
use Rattle.std.proofs.Common.{◌≡◌, ◌^◌, ℕ, Bool, List, [], map, Option, refl, subst, sym, ◌∙◌}
use Rattle.std.specs.Prelude.{◌≢◌, All}
use Rattle.gimli_core.specs.Layout.{layout_of}
use Rattle.gimli_compilation.specs.Sections.{Sections}
use Rattle.gimli_index.specs.Found.{IsIndexAppended}
use Rattle.gimli_line.specs.Units.{AreUnits}
use Rattle.gimli_lookup.specs.Section.{KeptUnit}
use Rattle.gimli_lookup.specs.SectionUnits.{IsUnitOf}
use Rattle.gimli_c.specs.MadeIndex.{IndexSource, given_of, index_source, program, entry_of, section_read, AreAllUnitsOf}
use Rattle.gimli_c.specs.MadeIndex.{IsIndexBytesOf, IsIndexRefusal}
use Rattle.gimli_c.proofs.Copied.{apart}
use Rattle.gimli_c.specs.declared.status.TheConstants.{NO_ROOM, OK}
use Rattle.gimli_index.specs.declared.error.MakeError.TheVariants.{NotAscending, TooManyEntries, TooManyStatements}
use Rattle.gimli_index.specs.declared.error.MakeError.TheVariants.{TooManySources, PathsTooLarge, IdentityTooLarge}
use Rattle.gimli_index.specs.declared.error.MakeError.TheVariants.{LineTooLarge, ColumnTooLarge, OutOfMemory}

pub same_all_units : (section other : List ℕ) (is_big other_big : Bool) (size lowest : ℕ)
    (line_strings strings : List ℕ)
    (units : List KeptUnit)
    → other ≡ section → other_big ≡ is_big
    → AreUnits (layout_of other_big (2 ^ 64)) 0 other (map (λ (u : KeptUnit). u.unit.offset) units)
    → All (IsUnitOf (section_read other other_big) (entry_of size) lowest) units
    → AreAllUnitsOf (program section is_big size lowest line_strings strings) units
same_all_units section other is_big other_big size lowest line_strings strings units s b offsets each =
    subst (λ (x : List ℕ). AreAllUnitsOf (program x is_big size lowest line_strings strings) units) s
    (subst (λ (y : Bool). AreAllUnitsOf (program other y size lowest line_strings strings) units) b
    (record { offsets = offsets; each = each }))

-- the index that was appended to nothing, by other names of the size of addresses and of nothing
pub index_made : (m : IndexSource) (directory : ℕ → Option (List ℕ)) (units : List KeptUnit) (size : ℕ)
    (old bytes : List ℕ)
    → size ≡ m.program.address_size → old ≡ []
    → IsIndexAppended (record (given_of m directory units) { size = size }) old bytes
    → IsIndexAppended (given_of m directory units) [] bytes
index_made m directory units size old bytes size_is old_is index =
    subst (λ (xs : List ℕ). IsIndexAppended (given_of m directory units) xs bytes) old_is
    (subst (λ (n : ℕ). IsIndexAppended (record (given_of m directory units) { size = n }) old bytes) size_is index)

pub same_index : (section : List ℕ) (is_big : Bool) (size lowest : ℕ) (line_strings strings l s : List ℕ)
    (compilations given : Sections) (identity bytes : List ℕ)
    → line_strings ≡ l → strings ≡ s → compilations ≡ given
    → IsIndexBytesOf (index_source (program section is_big size lowest line_strings strings) compilations identity)
    bytes
    → IsIndexBytesOf (index_source (program section is_big size lowest l s) given identity) bytes
same_index section is_big size lowest line_strings strings l s compilations given identity bytes line_strings_are
    strings_are compilations_are is =
    subst (λ (k : Sections). IsIndexBytesOf (index_source (program section is_big size lowest l s) k identity) bytes)
    compilations_are
    (subst
    (λ (x : List ℕ). IsIndexBytesOf (index_source (program section is_big size lowest l x) compilations identity)
    bytes)
    strings_are
    (subst
    (λ (x : List ℕ). IsIndexBytesOf (index_source (program section is_big size lowest x strings) compilations identity)
    bytes)
    line_strings_are is))

-- the number of a refusal is neither that of an answer nor that of too little room
pub refusal_is_none : (status : ℕ) → IsIndexRefusal status → (status ≢ OK) × (status ≢ NO_ROOM)
refusal_is_none status (NotAscending, is) =
    ((λ ok. apart 38 OK refl (sym is ∙ ok)), (λ room. apart 38 NO_ROOM refl (sym is ∙ room)))
refusal_is_none status (TooManyEntries, is) =
    ((λ ok. apart 47 OK refl (sym is ∙ ok)), (λ room. apart 47 NO_ROOM refl (sym is ∙ room)))
refusal_is_none status (TooManyStatements, is) =
    ((λ ok. apart 47 OK refl (sym is ∙ ok)), (λ room. apart 47 NO_ROOM refl (sym is ∙ room)))
refusal_is_none status (TooManySources, is) =
    ((λ ok. apart 47 OK refl (sym is ∙ ok)), (λ room. apart 47 NO_ROOM refl (sym is ∙ room)))
refusal_is_none status (PathsTooLarge, is) =
    ((λ ok. apart 47 OK refl (sym is ∙ ok)), (λ room. apart 47 NO_ROOM refl (sym is ∙ room)))
refusal_is_none status (IdentityTooLarge, is) =
    ((λ ok. apart 47 OK refl (sym is ∙ ok)), (λ room. apart 47 NO_ROOM refl (sym is ∙ room)))
refusal_is_none status (LineTooLarge, is) =
    ((λ ok. apart 48 OK refl (sym is ∙ ok)), (λ room. apart 48 NO_ROOM refl (sym is ∙ room)))
refusal_is_none status (ColumnTooLarge, is) =
    ((λ ok. apart 48 OK refl (sym is ∙ ok)), (λ room. apart 48 NO_ROOM refl (sym is ∙ room)))
refusal_is_none status (OutOfMemory, is) =
    ((λ ok. apart 17 OK refl (sym is ∙ ok)), (λ room. apart 17 NO_ROOM refl (sym is ∙ room)))
