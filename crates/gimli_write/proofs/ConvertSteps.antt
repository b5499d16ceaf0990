-- Steps of a conversion, one after the other.
use Rattle.std.specs.Prelude.{◌≡◌, ◌+◌, ◌<◌, ◌∷◌, ◌++◌}
use Rattle.gimli_write.proofs.Common
use Common.{ℕ, List, [], length, map, drop, get_or, refl, sym, ap, ◌∙◌, inl, inr, Result, Ok}
use Common.{Option, Some, option_map, option_map_or, at_drop_more, slice_get_within, slice_get-get_or, Value, File}
use Common.{KeepsTexts, LineText, made_text, made_table, with_directory, index_of_directory, with_file, index_of_file}
use Common.{Sections, ConvertError, ◌>>=◌, IsRefusedBy, source_path, TablesAndTexts, version_of, directory_added}
use Common.{FileParts, with_parts, all_added}

-- ---- one step and the next

-- after a step that is done the next one follows
pub done_first : {A B : Type 0} {r : Result A ConvertError} (f : A → Result B ConvertError) {x : A} → r ≡ Ok x
    → (r >>= f) ≡ f x
done_first f is = cc

-- a call is refused where its first step is
pub refused_first : {A B : Type 0} (r : Result A ConvertError) (f : A → Result B ConvertError) (e : ConvertError)
    → IsRefusedBy r e → IsRefusedBy (r >>= f) e
refused_first r f e (inl memory) = inl memory
refused_first r f e (inr is) = inr cc

-- the same refusal by another name
pub refused_same : {A : Type 0} {r s : Result A ConvertError} (e : ConvertError) → r ≡ s → IsRefusedBy r e
    → IsRefusedBy s e
refused_same e is (inl memory) = inl memory
refused_same e is (inr refused) = inr cc

-- ---- one directory, and one file

-- the tables after a directory, by the text that was made of its path
pub directory_is_added : (s : Sections) (tables : TablesAndTexts) (v : Value) {path : List ℕ} {text : LineText}
    {line_strings : List (List ℕ)} → source_path (version_of tables) s v ≡ Ok path
    → text ≡ made_text (version_of tables) tables.line_strings path
    → line_strings ≡ made_table (version_of tables) tables.line_strings path
    → directory_added s tables v ≡ Ok (record tables {
      program = record tables.program { directories = with_directory tables.program.directories text };
      directory_ids = tables.directory_ids ++ index_of_directory tables.program.directories text ∷ [];
      line_strings = line_strings;
    })
directory_is_added s tables v is made after = rw (made, after) (done_first _ is)

-- the tables after a file of these parts, by the texts that were made of its path and its source
pub parts_are_added : (tables : TablesAndTexts) (f : File) (parts : FileParts) {path : LineText}
    {source : Option LineText} {paths line_strings : List (List ℕ)}
    → path ≡ made_text (version_of tables) tables.line_strings parts.path
    → paths ≡ made_table (version_of tables) tables.line_strings parts.path
    → source ≡ option_map (made_text (version_of tables) paths) parts.source
    → line_strings ≡ option_map_or (made_table (version_of tables) paths) parts.source paths
    → with_parts tables f parts ≡ record tables {
      program = record tables.program {
        files = with_file tables.program.files (path, parts.directory)
            (Some (record { timestamp = f.timestamp; size = f.size; md5 = f.md5; source = source }));
      };
      file_ids = tables.file_ids ++ index_of_file tables.program.files (path, parts.directory) ∷ [];
      line_strings = line_strings;
    }
parts_are_added tables f parts made after source_made source_after = rw (source_after, source_made, after, made) refl

-- ---- many

-- what is left to be added begins with the next element
pub next_added : {A B : Type 0} (add : TablesAndTexts → B → Result TablesAndTexts ConvertError) (seen : A → B)
    (xs : List A) (i : ℕ) {x : A} (tables : TablesAndTexts) → i < length xs → x ≡ get_or xs i x
    → all_added add (map seen (drop i xs)) tables
    ≡ (add tables (seen x) >>= λ next. all_added add (map seen (drop (i + 1) xs)) next)
next_added {A = A} add seen xs i {x} tables lt is =
    at_drop_more (λ l. all_added add (map seen l) tables) _ i x lt
    ∙ ap (λ y. add tables (seen y) >>= λ next. all_added add (map seen (drop (i + 1) xs)) next) (sym is)

-- ---- the line strings

pub kept_self : (texts : List (List ℕ)) → KeepsTexts texts texts
kept_self texts = record { text = λ i lt. refl; offset = λ i lt. refl }

pub still_there : {old new : List (List ℕ)} (i : ℕ) → KeepsTexts old new → i < length old → i < length new
still_there {old} {new} i kept lt =
    slice_get_within new i (get_or old i []) (kept.text i lt ∙ slice_get-get_or _ i _ lt)

pub kept_then : {old between new : List (List ℕ)} → KeepsTexts old between → KeepsTexts between new → KeepsTexts old new
kept_then first second = record {
  text = λ i lt. second.text i (still_there i first lt) ∙ first.text i lt;
  offset = λ i lt. second.offset i (still_there i first lt) ∙ first.offset i lt;
}
