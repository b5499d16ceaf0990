-- Texts one after the other, and answers that stay as more texts come.
use Rattle.std.proofs.Common.{◌≡◌, ◌++◌, ◌∷◌, ℕ, List, ap, ◌∙◌, append_assoc, inl, inr}
use Rattle.std.specs.Prelude.{Option, Some, None, Result, Ok, Err}
use Rattle.gimli_line.specs.header.Header.{Header}
use Rattle.gimli_lookup.specs.Strings.{Strings}
use Rattle.gimli_lookup.specs.declared.path_error.PathError.{PathError}
use Rattle.gimli_c.specs.declared.comp_dir.GimliCompDir.{GimliCompDir}
use Rattle.gimli_c.specs.declared.listed.GimliListedFile.{GimliListedFile}
use Rattle.gimli_c.specs.Listed.{StandsAt, SeesPathAmong, SeesFile, IsFileAnswer, SeesDirectoryAmong, IsCompDirAnswer}

module _ (texts more now : List ℕ) (is : now ≡ texts ++ more) where
  -- a text stays where it stands
  stands_on : (first size : ℕ) (text : List ℕ) → StandsAt texts first size text → StandsAt now first size text
  stands_on first size text w = record {
    before = w.before;
    after = w.after ++ more;
    parts =
        is ∙ ap (λ (xs : List ℕ). xs ++ more) w.parts ∙ append_assoc w.before (text ++ 0 ∷ w.after) more
        ∙ ap (λ (xs : List ℕ). w.before ++ xs) (append_assoc text (0 ∷ w.after) more);
    first_is = w.first_is;
    size_is = w.size_is;
  }

  path_on : (path : Result (List ℕ) PathError) (first size status : ℕ) → SeesPathAmong texts path first size status
      → SeesPathAmong now path first size status
  path_on (Ok path) first size status w = (w.0, stands_on first size path w.1)
  path_on (Err e) first size status w = w

  file_on : (h : Header) (strings : Strings) (comp_dir : List ℕ) (asked seen : GimliListedFile)
      → SeesFile h strings comp_dir texts asked seen
      → SeesFile h strings comp_dir now asked seen
  file_on h strings comp_dir asked seen w = record {
    file = w.file;
    is_file = w.is_file;
    number_is = w.number_is;
    file_is = w.file_is;
    path = path_on _ seen.path seen.path_size seen.status w.path;
  }

  pub answer_on : (h : Header) (strings : Strings) (comp_dir : List ℕ) (asked seen : GimliListedFile)
      → IsFileAnswer h strings comp_dir texts asked seen
      → IsFileAnswer h strings comp_dir now asked seen
  answer_on h strings comp_dir asked seen w =
      elim w as (λ _. IsFileAnswer h strings comp_dir now asked seen) [
        | inl file ↦ inl (file_on h strings comp_dir asked seen file)
        | inr none ↦ inr none
      ]

  directory_on : (directory : Option (List ℕ)) (first size status : ℕ)
      → SeesDirectoryAmong texts directory first size status
      → SeesDirectoryAmong now directory first size status
  directory_on (Some directory) first size status w = (w.0, stands_on first size directory w.1)
  directory_on None first size status w = w

  pub comp_dir_on : (tell : ℕ → Option (List ℕ)) (asked seen : GimliCompDir) → IsCompDirAnswer tell texts asked seen
      → IsCompDirAnswer tell now asked seen
  comp_dir_on tell asked seen w = record {
    offset_is = w.offset_is;
    directory = directory_on (tell asked.offset) seen.directory seen.size seen.status w.directory;
  }
