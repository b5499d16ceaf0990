-- What comes of a unit, and what is left after it.
use Rattle.std.specs.Prelude.{ℕ, ◌+◌, ◌*◌, ◌^◌, List, [], Option, None, Result, Ok, Err, nat_lt}
use Rattle.std.specs.Prelude.{if◌then◌else◌}
use Rattle.gimli_core.specs.Reading.{Read}
use Rattle.gimli_core.specs.declared.error.Error.{Error}
use Rattle.gimli_core.specs.declared.error.Error.TheVariants.{UnsupportedOffset}
use Rattle.gimli_compilation.specs.declared.refusal.Refusal.{Refusal}
use Rattle.gimli_compilation.specs.declared.refusal.Refusal.TheVariants.{
  Bytes,
  UnknownUnitType,
  MissingAbbreviation,
}
use Rattle.gimli_compilation.specs.declared.sections.Compilation.{Compilation}
use Rattle.gimli_compilation.specs.declared.sections.Outcome.{Outcome}
use Rattle.gimli_compilation.specs.declared.sections.Outcome.TheVariants.{
  Found,
  UnknownUnitType as unknown_unit_type,
  MissingAbbreviation as missing_abbreviation,
}
use Rattle.gimli_compilation.specs.Directories.{line_directory}

-- the bytes after a unit; none where there is no unit
abbrev pub after_frame : {A : Type 0} → Read A → List ℕ
after_frame (Ok unit, rest) = rest
after_frame (Err e, rest) = []

-- the place of an index in a table
abbrev pub place_of : ℕ → ℕ → ℕ → Result ℕ Error
place_of base index size =
    if nat_lt (base + index * size) (2 ^ 64) then Ok (base + index * size)
    else Err UnsupportedOffset

-- an outcome, its texts seen by bytes
abbrev pub outcome_seen : {R : Type 0} → (Compilation R → Compilation (List ℕ)) → Outcome R
    → Outcome (List ℕ)
outcome_seen view (Found compilation) = Found (view compilation)
outcome_seen view (unknown_unit_type unit_type) = unknown_unit_type unit_type
outcome_seen view (missing_abbreviation code) = missing_abbreviation code

-- what a unit gives, as its callers see it
abbrev pub answer_of : {C : Type 0} → Result (Outcome C) Error → Result (Compilation C) Refusal
answer_of (Ok (Found compilation)) = Ok compilation
answer_of (Ok (unknown_unit_type unit_type)) = Err (UnknownUnitType unit_type)
answer_of (Ok (missing_abbreviation code)) = Err (MissingAbbreviation code)
answer_of (Err e) = Err (Bytes e)

-- the line program and the directory of a compilation; nothing where the unit is refused
abbrev pub given_by : {D : Type 0} → Result (Compilation D) Refusal → Option (ℕ × D)
given_by (Ok compilation) = line_directory compilation
given_by (Err refusal) = None
