-- The directory of a compilation, by the offset of its line program (DWARF 5, section 3.1.1).
use Rattle.std.specs.Prelude.{◌≡◌, ◌^◌, ◌⊎◌, ℕ, Bool, List, None, Option, Some}
use Rattle.gimli_core.specs.Layout.{layout_of}
use Rattle.gimli_compilation.specs.Directories.{TellsDirectories}
use Rattle.gimli_compilation.specs.Sections.{Sections}
use Rattle.gimli_c.specs.Written.{Copies}
use Rattle.gimli_c.specs.declared.status.TheConstants.{NO_COMP_DIR, OUT_OF_MEMORY}

-- sections that are handed over, in one order of bytes; offsets have 64 bits
abbrev pub sections_handed : List ℕ → List ℕ → List ℕ → List ℕ → List ℕ → Bool → Sections
sections_handed info abbreviations line_strings strings string_offsets is_big = record {
  info = info;
  abbreviations = abbreviations;
  strings = strings;
  line_strings = line_strings;
  string_offsets = string_offsets;
  layout = layout_of is_big (2 ^ 64);
  offsets_layout = layout_of is_big (2 ^ 64);
}

-- this is the directory for the line program at an offset, or None where no unit has one
abbrev pub TellsDirectory : Sections → ℕ → Option (List ℕ) → Type 0
TellsDirectory sections offset directory =
    (tell : ℕ → Option (List ℕ)) × TellsDirectories sections tell × (tell offset ≡ directory)

-- why it isn't told: no unit has one, or memory lacks
abbrev pub IsUntold : Sections → ℕ → ℕ → Type 0
IsUntold sections offset status =
    ((status ≡ NO_COMP_DIR) × TellsDirectory sections offset None) ⊎ (status ≡ OUT_OF_MEMORY)

-- what a call does that copies that directory to an array of the caller
abbrev pub CopiesDirectory : Sections → ℕ → ℕ → List ℕ → List ℕ → ℕ → ℕ → Type 0
CopiesDirectory sections offset =
    Copies (λ whole. TellsDirectory sections offset (Some whole)) (IsUntold sections offset)
