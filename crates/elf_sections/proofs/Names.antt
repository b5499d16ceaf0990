-- A name in the section of names, and the zero byte after it.
use Rattle.std.proofs.Common.{◌≡◌, refl, sym, ◌∙◌, ap, ℕ, suc, zero, ◌≤◌, List, [], ◌∷◌, ◌++◌, length, drop, Bool, true}
use Rattle.std.proofs.Common.{false, not, ◌&&◌, ◌||◌, nat_eq}
use Rattle.std.proofs.Common.{slice_index_or, arith}
use lib.Dec.{eqb-zero-suc, eqb-suc-zero}
use Rattle.std.specs.List.{list_all, list_any, starts_with}
use Rattle.elf_sections.specs.Table.{is_name_at}

-- a zero byte comes first
abbrev pub begins_zero : List ℕ → Bool
begins_zero [] = false
begins_zero (b ∷ bytes) = nat_eq 0 b

-- a name has no zero byte, or one is found in it
pub none_zero : (name : List ℕ) → list_all (λ b. not (nat_eq b 0)) name ≡ not (list_any (λ b. nat_eq b 0) name)
none_zero [] = refl
none_zero (b ∷ name) =
    elim (nat_eq b 0) as (λ v.
    (not v && list_all (λ b. not (nat_eq b 0)) name) ≡ not (v || list_any (λ b. nat_eq b 0) name))
    [ true ↦ refl | false ↦ none_zero name ]

and_true : (b : Bool) → (b && true) ≡ b
and_true true = refl
and_true false = refl

-- a text begins with a name and a zero byte
pub with_zero : (text name : List ℕ) → starts_with nat_eq text (name ++ 0 ∷ [])
    ≡ (starts_with nat_eq text name && begins_zero (drop (length name) text))
with_zero [] [] = refl
with_zero (b ∷ text) [] = and_true (nat_eq 0 b)
with_zero [] (c ∷ name) = refl
with_zero (b ∷ text) (c ∷ name) =
    elim (nat_eq c b) as (λ v. (v && starts_with nat_eq text (name ++ 0 ∷ []))
    ≡ ((v && starts_with nat_eq text name) && begins_zero (drop (length name) text)))
    [ true ↦ with_zero text name | false ↦ refl ]

-- a name without a zero byte, at an offset where a text begins
pub at_text : (names text name : List ℕ) (offset : ℕ) → text ≡ drop offset names
    → list_any (λ b. nat_eq b 0) name ≡ false
    → is_name_at names offset name ≡ (starts_with nat_eq text name && begins_zero (drop (length name) text))
at_text names text name offset at no_zero =
    ap (λ v. v && starts_with nat_eq (drop offset names) (name ++ 0 ∷ [])) (none_zero name ∙ ap not no_zero)
    ∙ ap (λ bytes. starts_with nat_eq bytes (name ++ 0 ∷ [])) (sym at)
    ∙ with_zero text name

zero_either : (b : ℕ) → nat_eq 0 b ≡ nat_eq b 0
zero_either zero = refl
zero_either (suc b) = eqb-zero-suc b ∙ sym (eqb-suc-zero b)

-- what comes after the name begins with a byte
pub first_byte : (rest : List ℕ) → 1 ≤ length rest → begins_zero rest ≡ nat_eq (slice_index_or rest 0 0) 0
first_byte [] h = absurd (omega arith)
first_byte (b ∷ rest) h = zero_either b

-- the name stands there, where a byte comes after it
pub byte_after : (names text name rest : List ℕ) (offset : ℕ) → text ≡ drop offset names
    → list_any (λ b. nat_eq b 0) name ≡ false
    → starts_with nat_eq text name ≡ true → rest ≡ drop (length name) text → 1 ≤ length rest
    → nat_eq (slice_index_or rest 0 0) 0 ≡ is_name_at names offset name
byte_after names text name rest offset at no_zero is_there after more =
    sym (at_text names text name offset at no_zero
    ∙ ap (λ v. v && begins_zero (drop (length name) text)) is_there
    ∙ ap begins_zero (sym after)
    ∙ first_byte rest more)

-- another text stands there
pub another : (names text name : List ℕ) (offset : ℕ) → text ≡ drop offset names
    → list_any (λ b. nat_eq b 0) name ≡ false
    → starts_with nat_eq text name ≡ false → false ≡ is_name_at names offset name
another names text name offset at no_zero differs =
    sym (at_text names text name offset at no_zero ∙ ap (λ v. v && begins_zero (drop (length name) text)) differs)

-- a name with a zero byte stands nowhere
pub zero_inside : (names name : List ℕ) (offset : ℕ) → list_any (λ b. nat_eq b 0) name ≡ true
    → false ≡ is_name_at names offset name
zero_inside names name offset has_zero =
    sym (ap (λ v. v && starts_with nat_eq (drop offset names) (name ++ 0 ∷ [])) (none_zero name ∙ ap not has_zero))
