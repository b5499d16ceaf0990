-- The texts that values of a header stand for (DWARF 5, section 6.2.4.1).
use Rattle.std.specs.Prelude.{◌≡◌, ◌≢◌, ◌∷◌, ◌++◌}
use Rattle.gimli_build.specs.Prelude
use Prelude.{ℕ, List, [], drop, All, Option, Some, None, Value, String, DebugStrRef}
use Prelude.{DebugLineStrRef}

-- the two sections of texts
pub record Sections : Type 0 where
  pub strings : List ℕ
  pub line_strings : List ℕ

-- a text and a zero byte stand in a section from an offset on
abbrev pub StandsAt : List ℕ → ℕ → List ℕ → Type 0
StandsAt section offset text = (rest : List ℕ) × (drop offset section ≡ text ++ 0 ∷ rest)

-- a text of a section from an offset on, up to a zero byte
pub record IsTextAt (section : List ℕ) (offset : ℕ) (text : List ℕ) : Type 0 where
  pub rest : List ℕ
  pub there : drop offset section ≡ text ++ 0 ∷ rest
  pub no_zero : All (λ b. b ≢ 0) text

-- a value stands for a text, with these sections
abbrev pub IsText : Sections → Value → List ℕ → Type 0
IsText sections (String bytes) text = text ≡ bytes
IsText sections (DebugStrRef offset) text = IsTextAt sections.strings offset.0 text
IsText sections (DebugLineStrRef offset) text = IsTextAt sections.line_strings offset.0 text
IsText sections v text = ⊥

-- the same of a value that may be missing: then the text is too
abbrev pub IsOptionalText : Sections → Option Value → Option (List ℕ) → Type 0
IsOptionalText sections (Some v) (Some text) = IsText sections v text
IsOptionalText sections None None = Unit {0}
IsOptionalText sections v text = ⊥

-- the elements of two lists are related one by one, and there are as many of both
abbrev pub OneByOne : {A B : Type 0} → (A → B → Type 0) → List A → List B → Type 0
OneByOne Related [] [] = Unit {0}
OneByOne Related (x ∷ xs) (y ∷ ys) = Related x y × OneByOne Related xs ys
OneByOne Related xs ys = ⊥
