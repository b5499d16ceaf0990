-- The text that a value stands for, as it is read.
use Rattle.gimli_write.specs.Prelude.{ℕ, List, Option, Some, None, Value, File, Sections, IsText}

-- a value stands for a text
abbrev pub HasText : Sections → Value → Type 0
HasText sections v = (text : List ℕ) × IsText sections v text

-- so does a value that may be missing, if it is there
abbrev pub HasOptionalText : Sections → Option Value → Type 0
HasOptionalText sections (Some v) = HasText sections v
HasOptionalText sections None = Unit {0}

-- the path of a file stands for a text, and so does its source, if it has one
pub record HasFileTexts (sections : Sections) (f : File) : Type 0 where
  pub path : HasText sections f.path_name
  pub source : HasOptionalText sections f.source
