-- The steps that a header is prepared by, one after the other.
use Rattle.std.specs.Prelude.{◌≡◌}
use Rattle.gimli_write.proofs.Common
use Common.{ℕ, List, Result, Ok, Encoding, Header, Sections, ConvertError, ◌>>=◌, IsRefusedBy}
use Common.{TablesAndTexts, Handed, encoding_of, tables_at_start, lists_added, tables_of_header}
use Rattle.gimli_write.proofs.ConvertSteps.{refused_first, refused_same}

-- ---- two steps that don't ask for each other, and what follows them

module _ {A B C : Type 0} (a : Result A ConvertError) (b : Result B ConvertError) (f : A → B → Result C ConvertError)
    (x : A) (y : B) (first : a ≡ Ok x)
    (second : b ≡ Ok y) where
  pub at_third : (a >>= λ x. b >>= λ y. f x y) ≡ f x y
  at_third = cc

-- ---- the preparation

module _ (s : Sections) (h : Header) (given : Handed) (line_strings : List (List ℕ)) (encoding : Encoding)
    (target : encoding ≡ encoding_of h given) where
  abbrev start : Result TablesAndTexts ConvertError
  start = tables_at_start s h encoding given.line_encoding given.name line_strings

  whole : (start >>= λ tables. lists_added s h tables) ≡ tables_of_header s h given line_strings
  whole = cc

  pub refused_at_start : (e : ConvertError)
      → IsRefusedBy (tables_at_start s h encoding given.line_encoding given.name line_strings) e
      → IsRefusedBy (tables_of_header s h given line_strings) e
  refused_at_start e refused = refused_same e whole (refused_first _ _ e refused)

  pub at_listed : {tables : TablesAndTexts}
      → tables_at_start s h encoding given.line_encoding given.name line_strings ≡ Ok tables
      → lists_added s h tables ≡ tables_of_header s h given line_strings
  at_listed is = cc

  pub refused_at_listed : {tables : TablesAndTexts} (e : ConvertError)
      → tables_at_start s h encoding given.line_encoding given.name line_strings ≡ Ok tables
      → IsRefusedBy (lists_added s h tables) e → IsRefusedBy (tables_of_header s h given line_strings) e
  refused_at_listed e is refused = refused_same e (at_listed is) refused
