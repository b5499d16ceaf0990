-- A unit has one answer.
use Rattle.std.proofs.Common.{◌≡◌, ℕ, List, drop, Result, Ok, Err, refl, sym, ap, ◌∙◌, ◌⊎◌, inl, inr}
use Rattle.gimli_core.specs.Reading.{Read}
use Rattle.gimli_compilation.specs.declared.refusal.Refusal.{Refusal}
use Rattle.gimli_compilation.specs.declared.refusal.Refusal.TheVariants.{Bytes, UnknownUnitType, MissingAbbreviation}
use Rattle.gimli_compilation.specs.declared.sections.Compilation.{Compilation}
use Rattle.gimli_compilation.specs.declared.sections.Outcome.{Outcome}
use Rattle.gimli_compilation.specs.declared.sections.Outcome.TheVariants.{
  Found,
  UnknownUnitType as unknown_unit_type,
  MissingAbbreviation as missing_abbreviation,
}
use Rattle.gimli_compilation.specs.Sections.{Sections}
use Rattle.gimli_compilation.specs.Unit.{unit_production, BeginsWithOutcome, HasCompilationAt, HasRefusalAt}
use Rattle.gimli_compilation.specs.inside.Unit.{answer_of}
use Rattle.gimli_compilation.proofs.UnitLaws.{reads_unit}

module _ (sections : Sections) where
  begun : (bytes : List ℕ) (outcome : Outcome (List ℕ)) → BeginsWithOutcome sections bytes outcome
      → ((unit_production sections).read bytes).0 ≡ Ok outcome
  begun bytes outcome s =
      ap (λ (xs : List ℕ). ((unit_production sections).read xs).0) s.2
      ∙ ap (λ (r : Read (Outcome (List ℕ))). r.0) ((reads_unit sections).only s.0 outcome s.1 s.3)

  -- what is read at an offset
  abbrev answer_at : ℕ → Result (Compilation (List ℕ)) Refusal
  answer_at offset = answer_of ((unit_production sections).read (drop offset sections.info)).0

  has_compilation : (offset : ℕ) (compilation : Compilation (List ℕ)) → HasCompilationAt sections offset compilation
      → answer_at offset ≡ Ok compilation
  has_compilation offset compilation s = ap answer_of (begun (drop offset sections.info) (Found compilation) s)

  has_refusal : (offset : ℕ) (refusal : Refusal) → HasRefusalAt sections offset refusal → answer_at offset ≡ Err refusal
  has_refusal offset (Bytes e) f = ap answer_of ((reads_unit sections).refused (drop offset sections.info) e f)
  has_refusal offset (UnknownUnitType unit_type) s =
      ap answer_of (begun (drop offset sections.info) (unknown_unit_type unit_type) s)
  has_refusal offset (MissingAbbreviation code) s =
      ap answer_of (begun (drop offset sections.info) (missing_abbreviation code) s)

  pub some_answer : (offset : ℕ)
      → ((compilation : Compilation (List ℕ)) × HasCompilationAt sections offset compilation)
      ⊎ ((refusal : Refusal) × HasRefusalAt sections offset refusal)
  some_answer offset = at_read ((unit_production sections).read (drop offset sections.info)) refl
    where
      at_read : (r : Read (Outcome (List ℕ))) → (unit_production sections).read (drop offset sections.info) ≡ r
          → ((compilation : Compilation (List ℕ)) × HasCompilationAt sections offset compilation)
          ⊎ ((refusal : Refusal) × HasRefusalAt sections offset refusal)
      at_read (Ok (Found compilation), rest) is =
          let f =
          (reads_unit sections).found (drop offset sections.info) (Found compilation) rest is in inl
          (compilation, (f.0, rest, f.1, f.2))
      at_read (Ok (unknown_unit_type unit_type), rest) is =
          let f = (reads_unit sections).found (drop offset sections.info) (unknown_unit_type unit_type) rest is in
          inr (UnknownUnitType unit_type, (f.0, rest, f.1, f.2))
      at_read (Ok (missing_abbreviation code), rest) is =
          let f = (reads_unit sections).found (drop offset sections.info) (missing_abbreviation code) rest is in
          inr (MissingAbbreviation code, (f.0, rest, f.1, f.2))
      at_read (Err e, rest) is =
          inr (
            Bytes e,
            (reads_unit sections).fault (drop offset sections.info) e (ap (λ (r : Read (Outcome (List ℕ))). r.0) is),
          )

  pub no_both : (offset : ℕ) (compilation : Compilation (List ℕ)) (refusal : Refusal)
      → HasCompilationAt sections offset compilation
      → HasRefusalAt sections offset refusal → ⊥
  no_both offset compilation refusal s f =
      let both = sym (has_compilation offset compilation s) ∙ has_refusal offset refusal f in cc

  pub one_compilation : (offset : ℕ) (compilation other : Compilation (List ℕ))
      → HasCompilationAt sections offset compilation
      → HasCompilationAt sections offset other → compilation ≡ other
  one_compilation offset compilation other s t =
      let e = sym (has_compilation offset compilation s) ∙ has_compilation offset other t in cc

  pub one_refusal : (offset : ℕ) (refusal other : Refusal) → HasRefusalAt sections offset refusal
      → HasRefusalAt sections offset other → refusal ≡ other
  one_refusal offset refusal other f g = let e = sym (has_refusal offset refusal f) ∙ has_refusal offset other g in cc
