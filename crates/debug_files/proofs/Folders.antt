-- The last slash of a path.
use Rattle.std.proofs.Common.{arith, ◌≡◌, ◌≢◌, ◌<◌, ◌≤◌, ◌+◌, ℕ, suc, List, Some, None, Option, MatchOption, [], ◌∷◌}
use Rattle.std.proofs.Common.{◌++◌, length, take, drop, get_or, Bor}
use Rattle.std.proofs.Common.{true, false, ◌||◌, nat_eq, if◌then◌else◌, refl, sym, ap, ◌∙◌, subst}
use Rattle.std.specs.List.{list_any}
use Rattle.std.specs.Str.{NoCharPasses}
use Rattle.std.specs.Str.Pattern.{RFindsChar}
use Rattle.std.proofs.lemmas.Bool.Decides.{nat_tests}
use Rattle.std.proofs.lemmas.Str.Pattern.{NoCharPasses-char, drop_at_char}
use lib.ListN.{take-append-drop}
use lib.Dec.{eqb}
use Rattle.debug_files.specs.DebugPaths.{is_slash, folder}

-- the clause of `rsplit_once` at a slash
abbrev pub SplitsAtSlash : List ℕ → Option (Bor (List ℕ) × Bor (List ℕ)) → Type 0
SplitsAtSlash bs r =
    MatchOption r (RFindsChar 47 bs None) (λ x.
    (i : ℕ) × (j : ℕ) × RFindsChar 47 bs (Some (i, j)) × (x.0.now ≡ take i bs) × (x.1.now ≡ drop j bs) × (i ≤ j)
    × (length x.0.now ≡ i)
    × (length x.1.now + j ≡ length bs))

no_slash : (bs : List ℕ) → ((i : ℕ) → i < length bs → get_or bs i 0 ≢ 47) → list_any is_slash bs ≡ false
no_slash [] h = refl
no_slash (b ∷ bs) h =
    let differs : b ≢ 47 = h 0 (omega arith) in
    let other : nat_eq b 47 ≡ false = grind (arith, nat_tests) in
    ap (λ v. v || list_any is_slash bs) other ∙ no_slash bs (λ i l. h (suc i) (omega arith))

folder_none : (path : List ℕ) → list_any is_slash path ≡ false → folder path ≡ []
folder_none [] e = refl
folder_none (b ∷ path) e = ap (λ v. if v then b ∷ folder path else []) e

any_split : (xs ys : List ℕ) → list_any is_slash (xs ++ (47 ∷ ys)) ≡ true
any_split [] ys = refl
any_split (x ∷ xs) ys =
    elim (is_slash x) as (λ v. (v || list_any is_slash (xs ++ (47 ∷ ys))) ≡ true)
    [ true ↦ refl | false ↦ any_split xs ys ]

folder_split : (xs ys : List ℕ) → list_any is_slash ys ≡ false → folder (xs ++ (47 ∷ ys)) ≡ xs ++ (47 ∷ [])
folder_split [] ys e = ap (λ l. 47 ∷ l) (folder_none ys e)
folder_split (x ∷ xs) ys e =
    ap (λ v. if v then x ∷ folder (xs ++ (47 ∷ ys)) else []) (any_split (x ∷ xs) ys)
    ∙ ap (λ l. x ∷ l) (folder_split xs ys e)

pub at_last_slash : (bs : List ℕ) (x : Bor (List ℕ) × Bor (List ℕ)) → SplitsAtSlash bs (Some x)
    → folder bs ≡ x.0.now ++ (47 ∷ [])
at_last_slash bs x h =
    let whole : bs ≡ x.0.now ++ (47 ∷ x.1.now)
    =
    sym (take-append-drop h.0 bs)
    ∙ (λ k. sym h.3 k ++ (drop_at_char 47 bs h.0 h.1 h.2.1 (omega arith) ∙ ap (λ l. 47 ∷ l) (sym h.4)) k) in
    let free : (i : ℕ) → i < length x.1.now → get_or x.1.now i 0 ≢ 47
    = λ i l. NoCharPasses-char 47 x.1.now i (subst (NoCharPasses (λ d. eqb d 47)) (sym h.4) h.2.0) (omega arith) l in
    ap folder whole ∙ folder_split x.0.now x.1.now (no_slash x.1.now free)

pub without_slash : (bs : List ℕ) → SplitsAtSlash bs None → folder bs ≡ []
without_slash bs h = folder_none bs (no_slash bs (λ i l. NoCharPasses-char 47 bs i h (omega arith) l))
