-- Keeping the directories of units, one after the other.
use Rattle.std.proofs.Common.{◌≡◌, ◌≢◌, ℕ, ◌<◌, ◌≤◌, Bool, true, false, if◌then◌else◌, List, [], ◌∷◌, ◌++◌, length}
use Rattle.std.proofs.Common.{drop, Option, Some, None, Result, Ok, Err, refl, sym, ap, subst, ◌∙◌, inl, inr, arith}
use Rattle.std.proofs.Common.{append_assoc}
use Rattle.std.specs.Prelude.{IfOk, IfErr, nat_eq, option_map}
use Rattle.std.proofs.lemmas.List.{append-nil, length-drop}
use Rattle.gimli_compilation.specs.declared.refusal.Refusal.{Refusal}
use Rattle.gimli_compilation.specs.declared.sections.Compilation.{Compilation}
use Rattle.gimli_compilation.specs.Directories.{paired, directory_in, first_of, directory_among, Gives, Give}
use Rattle.gimli_compilation.specs.Directories.{TellsDirectories}
use Rattle.gimli_compilation.specs.inside.Unit.{given_by}
use Rattle.gimli_compilation.specs.Sections.{Sections, compilation_seen}
use Rattle.gimli_compilation.specs.Unit.{HasCompilationAt, HasRefusalAt, IsNextOffset}
use Rattle.gimli_core.specs.Layout.{Seen}

-- ---- one more directory

pub first_none : {D : Type 0} (o : Option D) → first_of o None ≡ o
first_none (Some d) = refl
first_none None = refl

-- ---- seen by bytes

module _ {R : Type 0} (seen : R → Seen) where
  abbrev pub pair_seen : ℕ × R → ℕ × List ℕ
  pair_seen p = (p.0, (seen p.1).bytes)

  paired_seen : (line : Option ℕ) (directory : Option R)
      → option_map pair_seen (paired line directory) ≡ paired line (option_map (λ r. (seen r).bytes) directory)
  paired_seen (Some line) (Some directory) = refl
  paired_seen (Some line) None = refl
  paired_seen None (Some directory) = refl
  paired_seen None None = refl

  in_seen : (line : ℕ) (given : Option (ℕ × R))
      → option_map (λ r. (seen r).bytes) (directory_in line given) ≡ directory_in line (option_map pair_seen given)
  in_seen line None = refl
  in_seen line (Some given) = at_test (nat_eq given.0 line)
    where
      at_test : (test : Bool)
          → option_map (λ r. (seen r).bytes) (if test then Some given.1 else None)
          ≡ (if test then Some (seen given.1).bytes else None)
      at_test true = refl
      at_test false = refl

  first_seen : (o other : Option R)
      → option_map (λ r. (seen r).bytes) (first_of o other)
      ≡ first_of (option_map (λ r. (seen r).bytes) o) (option_map (λ r. (seen r).bytes) other)
  first_seen (Some d) other = refl
  first_seen None other = refl

  pub told : (line : ℕ) (given : Option (ℕ × R)) (old new : Option R) → new ≡ first_of old (directory_in line given)
      → option_map (λ r. (seen r).bytes) new
      ≡ first_of (option_map (λ r. (seen r).bytes) old) (directory_in line (option_map pair_seen given))
  told line given old new is =
      ap (option_map (λ r. (seen r).bytes)) is ∙ first_seen old (directory_in line given)
      ∙ ap (first_of (option_map (λ r. (seen r).bytes) old)) (in_seen line given)

  module _ (sections : Sections) (offset : ℕ) where
    -- a unit gives what its compilation says
    pub gives_of : (unit : Result (Compilation R) Refusal)
        → IfOk unit (λ compilation. HasCompilationAt sections offset (compilation_seen seen compilation))
        → IfErr unit (HasRefusalAt sections offset)
        → Gives sections offset (option_map pair_seen (given_by unit))
    gives_of (Ok compilation) says refused =
        inl (compilation_seen seen compilation, says, paired_seen compilation.stmt_list compilation.comp_dir)
    gives_of (Err refusal) says refused = inr (refusal, refused, refl)

-- ---- the walk

among_push : {D : Type 0} (line : ℕ) (done : List (Option (ℕ × D))) (given : Option (ℕ × D))
    → directory_among line (done ++ given ∷ []) ≡ first_of (directory_among line done) (directory_in line given)
among_push {D} line [] given = first_none (directory_in line given)
among_push {D} line (first ∷ done) given =
    ap (first_of (directory_in line first)) (among_push line done given)
    ∙ regroup (directory_in line first) (directory_among line done) (directory_in line given)
  where
    regroup : (a b c : Option D) → first_of a (first_of b c) ≡ first_of (first_of a b) c
    regroup (Some d) b c = refl
    regroup None b c = refl

-- what was told of the units before an offset
pub record Kept (sections : Sections) (offset : ℕ) (tell : ℕ → Option (List ℕ)) : Type 0 where
  pub units : List (Option (ℕ × List ℕ))
  pub walk : (others : List (Option (ℕ × List ℕ))) → Give sections offset others → Give sections 0 (units ++ others)
  pub tells : (line : ℕ) → tell line ≡ directory_among line units

pub kept_none : (sections : Sections) (tell : ℕ → Option (List ℕ)) → ((line : ℕ) → tell line ≡ None)
    → Kept sections 0 tell
kept_none sections tell none = record { units = []; walk = λ others g. g; tells = none }

some_left : (bytes : List ℕ) (offset next : ℕ) → offset < next → next ≤ length bytes → drop offset bytes ≢ []
some_left bytes offset next lt le = λ none. absurd (omega (arith, length-drop offset bytes, ap length none))

pub kept_more : (sections : Sections) (offset next : ℕ) (given : Option (ℕ × List ℕ)) (tell told : ℕ → Option (List ℕ))
    → Gives sections offset given
    → IsNextOffset sections offset next → offset < next → next ≤ length sections.info
    → ((line : ℕ) → told line ≡ first_of (tell line) (directory_in line given)) → Kept sections offset tell
    → Kept sections next told
kept_more sections offset next given tell told gives follows lt le more kept = record {
  units = kept.units ++ given ∷ [];
  walk = λ others g.
      let here : Give sections offset (given ∷ others) =
      (some_left sections.info offset next lt le, gives, (next, follows, g)) in
      subst (Give sections 0) (sym (append_assoc kept.units (given ∷ []) others)) (kept.walk (given ∷ others) here);
  tells = λ line.
      more line ∙ ap (λ (o : Option (List ℕ)). first_of o (directory_in line given)) (kept.tells line)
      ∙ sym (among_push line kept.units given);
}

pub kept_all : (sections : Sections) (offset : ℕ) (tell : ℕ → Option (List ℕ)) → drop offset sections.info ≡ []
    → Kept sections offset tell
    → TellsDirectories sections tell
kept_all sections offset tell end kept =
    (kept.units, subst (Give sections 0) (append-nil kept.units) (kept.walk [] end), kept.tells)
