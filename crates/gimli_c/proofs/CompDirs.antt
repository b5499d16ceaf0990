-- Sections that are handed over, part by part, and what is told by them.
use Rattle.std.proofs.Common.{◌≡◌, ◌^◌, ℕ, Bool, List, Option, ap, subst, ◌∙◌}
use Rattle.gimli_core.specs.Layout.{layout_of}
use Rattle.gimli_compilation.specs.Directories.{TellsDirectories}
use Rattle.gimli_compilation.specs.Sections.{Sections}
use Rattle.std.specs.List.{AllZip}
use Rattle.gimli_c.specs.declared.comp_dir.GimliCompDir.{GimliCompDir}
use Rattle.gimli_c.specs.CompDir.{sections_handed, TellsDirectory}
use Rattle.gimli_c.specs.Listed.{GivesCompDirs, IsCompDirAnswer}

-- sections of readers, each with its bytes, and two with their orders
abbrev pub sections_by : List ℕ → List ℕ → List ℕ → List ℕ → List ℕ → Bool → Bool → Sections
sections_by info abbreviations strings line_strings string_offsets is_big offsets_big = record {
  info = info;
  abbreviations = abbreviations;
  strings = strings;
  line_strings = line_strings;
  string_offsets = string_offsets;
  layout = layout_of is_big (2 ^ 64);
  offsets_layout = layout_of offsets_big (2 ^ 64);
}

pub same_sections : (info abbreviations strings line_strings string_offsets i a s l o : List ℕ)
    (is_big offsets_big b : Bool)
    → info ≡ i → abbreviations ≡ a → strings ≡ s → line_strings ≡ l → string_offsets ≡ o → is_big ≡ b → offsets_big ≡ b
    → sections_by info abbreviations strings line_strings string_offsets is_big offsets_big
    ≡ sections_handed i a l s o b
same_sections info abbreviations strings line_strings string_offsets i a s l o is_big offsets_big b info_is
    abbreviations_is strings_are line_strings_are
    string_offsets_are big_is offsets_big_is =
    ap (λ x. sections_by x abbreviations strings line_strings string_offsets is_big offsets_big) info_is
    ∙ ap (λ x. sections_by i x strings line_strings string_offsets is_big offsets_big) abbreviations_is
    ∙ ap (λ x. sections_by i a x line_strings string_offsets is_big offsets_big) strings_are
    ∙ ap (λ x. sections_by i a s x string_offsets is_big offsets_big) line_strings_are
    ∙ ap (λ x. sections_by i a s l x is_big offsets_big) string_offsets_are
    ∙ ap (λ x. sections_by i a s l o x offsets_big) big_is
    ∙ ap (λ x. sections_by i a s l o b x) offsets_big_is

-- what is told by the same sections for one line program
pub tells : (s t : Sections) (tell : ℕ → Option (List ℕ)) (offset : ℕ) (directory : Option (List ℕ))
    → s ≡ t → TellsDirectories s tell → tell offset ≡ directory → TellsDirectory t offset directory
tells s t tell offset directory same all is = (tell, subst (λ (x : Sections). TellsDirectories x tell) same all, is)

-- answers by the same sections
pub all_told : (s t : Sections) (tell : ℕ → Option (List ℕ)) (old now : List GimliCompDir) (texts : List ℕ)
    → s ≡ t → TellsDirectories s tell → AllZip (IsCompDirAnswer tell texts) old now → GivesCompDirs t old now texts
all_told s t tell old now texts same all each = record {
  tell = tell;
  tells = subst (λ (x : Sections). TellsDirectories x tell) same all;
  each = each;
}
