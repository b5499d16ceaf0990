-- The whole path of a file of a unit.
use Rattle.std.proofs.Common.{◌≡◌, ℕ, List, ap, ◌∙◌}
use Rattle.std.specs.Prelude.{Result, Ok, Err, IfOk, IfErr}
use Rattle.gimli_line.specs.header.File.{File}
use Rattle.gimli_line.specs.header.Header.{Header}
use Rattle.gimli_line.specs.run.Rows.{files_at_end}
use Rattle.gimli_line.specs.run.Passing.{RunState}
use Rattle.gimli_lookup.specs.Paths.{file_path}
use Rattle.gimli_lookup.specs.Strings.{Strings}
use Rattle.gimli_c.specs.Path.{paths_handed, texts_handed}
use Rattle.gimli_c.proofs.Files.{complete, IsLookedUp}

-- what follows from an answer, and from a refusal
pub ok_more : {A E : Type 0} {P Q : A → Type 0} (r : Result A E) → ((a : A) → P a → Q a) → IfOk r P → IfOk r Q
ok_more (Ok a) f p = f a p
ok_more (Err e) f p = tt

pub err_more : {A E : Type 0} {P Q : E → Type 0} (r : Result A E) → ((e : E) → P e → Q e) → IfErr r P → IfErr r Q
err_more (Ok a) f p = tt
err_more (Err e) f p = f e p

-- the path of a file that is looked up where it is known
pub same_path : (texts : Strings) (start now : RunState) (h : Header) (index : ℕ) (comp_dir : List ℕ) (f : File)
    → IsLookedUp start now h index
    → file_path (paths_handed texts h comp_dir) f ≡ file_path (paths_handed texts (complete start) comp_dir) f
same_path texts start now h index comp_dir f l =
    ap (λ (k : Header). file_path (paths_handed texts k comp_dir) f) l.header
    ∙ ap (λ (k : Header). file_path (paths_handed texts (record k { files = files_at_end start }) comp_dir) f) l.fixed

-- the sections of strings that are handed over, by other names of their bytes
pub same_texts : (l s line_strings strings : List ℕ) → l ≡ line_strings → s ≡ strings
    → texts_handed l s ≡ texts_handed line_strings strings
same_texts l s line_strings strings l_is s_is =
    ap (λ (xs : List ℕ). texts_handed xs s) l_is ∙ ap (λ (xs : List ℕ). texts_handed line_strings xs) s_is
