-- The formats that are due, one after the other.
use Rattle.std.specs.Prelude.{◌≡◌, ◌<◌, ◌+◌, ◌∷◌, ◌++◌, if◌then◌else◌}
use Rattle.gimli_build.proofs.Common
use Common.{ℕ, Bool, true, false, List, [], length, take, get_or, refl, sym, ap, ◌∙◌, append_assoc, add-one, flat_map}
use Common.{take-suc, append-nil, flat_map-append, uleb, when}
use Rattle.gimli_core.specs.declared.constants.DwForm.{DwForm}
use Rattle.gimli_core.specs.declared.constants.DwLnct.{DwLnct}
use Rattle.gimli_build.specs.inside.Tables.{due_formats}

-- a content type and a form
abbrev pub one_format : ℕ × ℕ → List ℕ
one_format f = uleb f.0 ++ uleb f.1

abbrev pub due_bytes : List (Bool × DwLnct × DwForm) → List ℕ
due_bytes formats = flat_map one_format (due_formats formats)

abbrev pub bytes_if : Bool × DwLnct × DwForm → List ℕ
bytes_if f = if f.0 then uleb f.1.0 ++ uleb f.2.0 else []

one_due : (due : Bool) (f : ℕ × ℕ) → flat_map one_format (when due f ++ []) ≡ (if due then uleb f.0 ++ uleb f.1 else [])
one_due true f = append-nil (one_format f)
one_due false f = refl

-- one more
pub due_more : (formats : List (Bool × DwLnct × DwForm)) (i : ℕ) (d : Bool × DwLnct × DwForm) → i < length formats
    → due_bytes (take i formats) ++ bytes_if (get_or formats i d) ≡ due_bytes (take (i + 1) formats)
due_more formats i d lt =
    let f = get_or formats i d in
    let taken : take (i + 1) formats ≡ take i formats ++ f ∷ [] = rw add-one (take-suc formats i d lt) in
    let parts = flat_map-append (λ g. when g.0 (g.1.0, g.2.0)) (take i formats) (f ∷ []) in
    sym (ap due_bytes taken ∙ ap (flat_map one_format) parts
    ∙ flat_map-append one_format (due_formats (take i formats)) (due_formats (f ∷ []))
    ∙ ap (λ l. due_bytes (take i formats) ++ l) (one_due _ _))

-- two that are there, and four that may be
pub six_due : {A : Type 0} (a b : A) (t s m o : List A)
    → a ∷ b ∷ (t ++ (s ++ (m ++ (o ++ [])))) ≡ a ∷ b ∷ t ++ s ++ m ++ o
six_due a b t s m o = ap (λ l. a ∷ b ∷ (t ++ (s ++ (m ++ l)))) (append-nil o)
    ∙ ap (λ l. a ∷ b ∷ l) (sym (append_assoc (t ++ s) m o ∙ append_assoc t s (m ++ o)))
