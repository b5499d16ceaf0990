-- Worked paths: the components of each, computed from the definition, the last one first.
use Rattle.std.proofs.Common.{◌≡◌, ℕ, List, [], ◌∷◌, codes, refl, ap, get_or, length, arith}
use Rattle.gimli_lookup.specs.Components.{components, EndsWith}

-- `.` and doubled separators add nothing
same_directory : components (codes "/p/.//util.h") ≡ codes "util.h" ∷ codes "p" ∷ [] ∷ []
same_directory = refl

-- `..` drops the component before it, and that before that one
directories_above : components (codes "/w/src/../../p/a.c") ≡ codes "a.c" ∷ codes "p" ∷ [] ∷ []
directories_above = refl

-- nothing is above the root
above_the_root : components (codes "/../a.c") ≡ codes "a.c" ∷ [] ∷ []
above_the_root = refl

-- a relative path keeps what it can't drop
above_a_relative_path : components (codes "a/../../../b.c") ≡ codes "b.c" ∷ codes ".." ∷ codes ".." ∷ []
above_a_relative_path = refl

-- backslashes part components too
backslashes : components (codes "C:\\w\\.\\a.c") ≡ codes "a.c" ∷ codes "w" ∷ codes "C:" ∷ []
backslashes = refl

-- names that only begin with dots are components like any other
dotted_names : components (codes "/w/.git/...") ≡ codes "..." ∷ codes ".git" ∷ codes "w" ∷ [] ∷ []
dotted_names = refl

one_name : EndsWith (codes "/usr/include/bits/stl_map.h") (codes "stl_map.h")
one_name = (codes "bits" ∷ codes "include" ∷ codes "usr" ∷ [] ∷ [], refl)

two_names : EndsWith (codes "/usr/include/./bits/stl_map.h") (codes "bits//stl_map.h")
two_names = (codes "include" ∷ codes "usr" ∷ [] ∷ [], refl)

from_here : EndsWith (codes "/p/a.c") (codes "./a.c")
from_here = (codes "p" ∷ [] ∷ [], refl)

whole_path : EndsWith (codes "/p/a.c") (codes "/p/b/../a.c")
whole_path = ([], refl)

-- the byte of an index in the component of an index
abbrev byte_at : List (List ℕ) → ℕ → ℕ → ℕ
byte_at cs i j = get_or (get_or cs i []) j 0

-- half a component is none
half_a_component : ¬ EndsWith (codes "/w/square.c") (codes "quare.c")
half_a_component h = let e : 115 ≡ 113 = ap (λ cs. byte_at cs 0 0) h.1 in omega (arith, e)

-- a path from the root is a whole one
from_another_root : ¬ EndsWith (codes "/w/p/a.c") (codes "/p/a.c")
from_another_root h = let e : 1 ≡ 0 = ap (λ cs. length (get_or cs 2 [])) h.1 in omega (arith, e)
