-- Keys and texts that have numbers, by the order in which they came.
use Rattle.std.specs.Prelude.{◌≡◌, ◌≢◌, ◌<◌, ℕ, List, [], ◌∷◌, map, length, slice_get, Option}
use Rattle.std.specs.Prelude.{Some, All, MatchOption, if◌then◌else◌, nat_lt}
use Rattle.std.specs.Cmp.Lexicographic.{slice_cmp}
use Rattle.std.specs.Map.{lookup, values_of}
use Rattle.std.specs.Ordering.{is_eq, nat_cmp, ordering_then}
use Rattle.std.specs.declared.alloc.Global.{Global}
use Rattle.std.specs.declared.cmp.Ordering.{Ordering}
use Rattle.std.specs.declared.vec.Vec.{Vec}
use Rattle.gimli_index.specs.declared.source_keys.SourceKey.{SourceKey}

-- a search gives the number of each key that is there: where it stands
abbrev pub AreNumbered : {K : Type 0} → List K → (K → Option ℕ) → Type 0
AreNumbered {K} keys number =
    (key : K)
    → MatchOption (number key) (All (λ k. k ≢ key) keys) (λ n. slice_get keys n ≡ Some key)

-- ---- files of units

-- files of units in turn: by the unit, and of one unit by the file
abbrev pub key_order : SourceKey → SourceKey → Ordering
key_order a b = ordering_then (nat_cmp a.unit b.unit) (nat_cmp a.file b.file)

-- the number of a file of a unit, if it has one
abbrev pub number_of_key : List (SourceKey × ℕ) → SourceKey → Option ℕ
number_of_key entries key = lookup (λ k. is_eq (key_order key k)) entries

-- ---- texts

-- something with a number, before the first that has a greater one
abbrev pub put_in_turn : {X : Type 0} → X × ℕ → List (X × ℕ) → List (X × ℕ)
put_in_turn e [] = e ∷ []
put_in_turn e (x ∷ xs) = if nat_lt e.1 x.1 then e ∷ x ∷ xs else x ∷ put_in_turn e xs

-- in the order of the numbers
abbrev pub in_turn : {X : Type 0} → List (X × ℕ) → List (X × ℕ)
in_turn [] = []
in_turn (e ∷ es) = put_in_turn e (in_turn es)

-- texts in the order of their numbers
abbrev pub texts_in_turn : List (Vec ℕ Global × ℕ) → List (List ℕ)
texts_in_turn entries = map (λ e. e.0.items) (in_turn entries)

-- the number of a text, if it has one
abbrev pub number_of_text : List (Vec ℕ Global × ℕ) → List ℕ → Option ℕ
number_of_text entries text = lookup (λ v. is_eq (slice_cmp nat_cmp text v.items)) entries

-- the numbers of texts are those below their count, each where its text stands
abbrev pub HaveNumbers : List (Vec ℕ Global × ℕ) → Type 0
HaveNumbers entries =
    All (λ n. n < length entries) (values_of entries)
    × AreNumbered (texts_in_turn entries) (number_of_text entries)
