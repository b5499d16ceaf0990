-- The addresses of a line, row by row.
use Rattle.std.proofs.Common.{◌≡◌, ◌≢◌, ℕ, Bool, true, false, nat_eq, nat_lt, not, ◌&&◌, ◌||◌, if◌then◌else◌, List, []}
use Rattle.std.proofs.Common.{◌∷◌, ◌++◌, drop, Option, Some}
use Rattle.std.proofs.Common.{None, refl, sym}
use Rattle.std.proofs.Common.{ap, subst, ◌∙◌, append_assoc}
use Rattle.std.specs.Prelude.{flat_map}
use Rattle.std.proofs.Math.Path.{fun_ext}
use Rattle.std.specs.List.{onto_first}
use Rattle.std.proofs.lemmas.Bool.{false≢true}
use Rattle.std.proofs.lemmas.List.Splits.{slice_split-cons_yes, slice_split-cons_no}
use Rattle.gimli_line.specs.declared.run.row.LineRow.{LineRow}
use Rattle.gimli_lookup.specs.Statements.{is_of_line, runs, first_statement, addresses_in, addresses_of, IsFirstLine}
use Rattle.gimli_lookup.specs.inside.Statements.{is_among, AreCollectedFrom}
use Rattle.gimli_lookup.specs.inside.Statements.{has_statement, have_statement, IsFirstWith}

-- the addresses that runs give, the first of which has given its own already if `given` says so
abbrev pub addresses_left : Bool → List (List LineRow) → List ℕ
addresses_left given parts = flat_map first_statement (if given then drop 1 parts else parts)

module _ (is_file : ℕ → Bool) (line : ℕ) where
  -- the addresses that are left of a sequence from a row on
  abbrev pub addresses_on : Bool → List LineRow → List ℕ
  addresses_on given rows = addresses_left given (runs is_file line rows)

  pub at_end : (given : Bool) → addresses_on given [] ≡ []
  at_end true = refl
  at_end false = refl

  between_runs : (given : Bool) (parts : List (List LineRow))
      → addresses_left given ([] ∷ parts) ≡ addresses_left false parts
  between_runs true parts = refl
  between_runs false parts = refl

  pub of_none : (given : Bool) (r : LineRow) (rows : List LineRow) → is_of_line is_file line r ≡ false
      → addresses_on given (r ∷ rows) ≡ addresses_on false rows
  of_none given r rows not_of =
      ap (addresses_left given) (slice_split-cons_yes (λ r. not (is_of_line is_file line r)) r rows (ap not not_of))
      ∙ between_runs given (runs is_file line rows)

  -- a row of the line is put before the first run
  of_line : (given : Bool) (r : LineRow) (rows : List LineRow) → is_of_line is_file line r ≡ true
      → addresses_on given (r ∷ rows) ≡ addresses_left given (onto_first r (runs is_file line rows))
  of_line given r rows is_of =
      ap (addresses_left given) (slice_split-cons_no (λ r. not (is_of_line is_file line r)) r rows (ap not is_of))

  given_before : (r : LineRow) (parts : List (List LineRow))
      → addresses_left true (onto_first r parts) ≡ addresses_left true parts
  given_before r [] = refl
  given_before r (part ∷ parts) = refl

  first_of_run : (r : LineRow) (parts : List (List LineRow)) → r.is_stmt ≡ true
      → addresses_left false (onto_first r parts) ≡ r.address ∷ addresses_left true parts
  first_of_run r [] stmt = ap (λ b. (if b then r.address ∷ [] else []) ++ []) stmt
  first_of_run r (part ∷ parts) stmt =
      ap (λ b. (if b then r.address ∷ [] else first_statement part) ++ flat_map first_statement parts) stmt

  not_yet : (r : LineRow) (parts : List (List LineRow)) → r.is_stmt ≡ false
      → addresses_left false (onto_first r parts) ≡ addresses_left false parts
  not_yet r [] no_stmt = ap (λ b. (if b then r.address ∷ [] else []) ++ []) no_stmt
  not_yet r (part ∷ parts) no_stmt =
      ap (λ b. (if b then r.address ∷ [] else first_statement part) ++ flat_map first_statement parts) no_stmt

  pub of_given : (r : LineRow) (rows : List LineRow) → is_of_line is_file line r ≡ true
      → addresses_on true (r ∷ rows) ≡ addresses_on true rows
  of_given r rows is_of = of_line true r rows is_of ∙ given_before r (runs is_file line rows)

  pub of_first : (r : LineRow) (rows : List LineRow) → is_of_line is_file line r ≡ true → r.is_stmt ≡ true
      → addresses_on false (r ∷ rows) ≡ r.address ∷ addresses_on true rows
  of_first r rows is_of stmt = of_line false r rows is_of ∙ first_of_run r (runs is_file line rows) stmt

  pub of_no_statement : (given : Bool) (r : LineRow) (rows : List LineRow) → is_of_line is_file line r ≡ true
      → r.is_stmt ≡ false
      → addresses_on given (r ∷ rows) ≡ addresses_on given rows
  of_no_statement true r rows is_of no_stmt = of_given r rows is_of
  of_no_statement false r rows is_of no_stmt = of_line false r rows is_of ∙ not_yet r (runs is_file line rows) no_stmt

  -- addresses that are kept so far, and those that are left
  pub nothing_more : (kept whole : List ℕ) (given after : Bool) (now rest : List LineRow)
      → addresses_on given now ≡ addresses_on after rest
      → kept ++ addresses_on given now ≡ whole → kept ++ addresses_on after rest ≡ whole
  nothing_more kept whole given after now rest step before = ap (λ xs. kept ++ xs) (sym step) ∙ before

  pub one_more : (kept more whole : List ℕ) (address : ℕ) (now rest : List LineRow) → more ≡ kept ++ address ∷ []
      → addresses_on false now ≡ address ∷ addresses_on true rest → kept ++ addresses_on false now ≡ whole
      → more ++ addresses_on true rest ≡ whole
  one_more kept more whole address now rest is step before =
      ap (λ xs. xs ++ addresses_on true rest) is ∙ append_assoc kept (address ∷ []) (addresses_on true rest)
      ∙ ap (λ xs. kept ++ xs) (sym step) ∙ before

  -- ---- a line has an address where a row is a statement of it

  no_address : (given : Bool) (rows : List LineRow) → has_statement is_file line rows ≡ false
      → addresses_on given rows ≡ []
  no_address given [] none = at_end given
  no_address given (r ∷ rows) none =
      by_row given (is_of_line is_file line r) r.is_stmt refl refl none (λ g rest. no_address g rows rest)
    where
      by_row : (g of stmt : Bool) → is_of_line is_file line r ≡ of → r.is_stmt ≡ stmt
          → ((of && stmt) || has_statement is_file line rows) ≡ false
          → ((h : Bool) → has_statement is_file line rows ≡ false → addresses_on h rows ≡ [])
          → addresses_on g (r ∷ rows) ≡ []
      by_row g false stmt p q none rest = of_none g r rows p ∙ rest false none
      by_row g true false p q none rest = of_no_statement g r rows p q ∙ rest g none
      by_row g true true p q none rest = absurd (false≢true (sym none))

  some_address : (rows : List LineRow) → has_statement is_file line rows ≡ true → addresses_on false rows ≢ []
  some_address [] some none = false≢true some
  some_address (r ∷ rows) some none =
      by_row (is_of_line is_file line r) r.is_stmt refl refl some none (λ rest. some_address rows rest)
    where
      by_row : (of stmt : Bool) → is_of_line is_file line r ≡ of → r.is_stmt ≡ stmt
          → ((of && stmt) || has_statement is_file line rows) ≡ true
          → addresses_on false (r ∷ rows) ≡ [] → (has_statement is_file line rows ≡ true → addresses_on false rows ≢ [])
          → ⊥
      by_row false stmt p q some none rest = rest some (sym (of_none false r rows p) ∙ none)
      by_row true false p q some none rest = rest some (sym (of_no_statement false r rows p q) ∙ none)
      by_row true true p q some none rest = cc (of_first r rows p q, none)

  none_in : (sequences : List (List LineRow)) → have_statement is_file line sequences ≡ false
      → addresses_of is_file sequences line ≡ []
  none_in [] none = refl
  none_in (rows ∷ sequences) none = by_rows (has_statement is_file line rows) refl none (λ rest. none_in sequences rest)
    where
      by_rows : (has : Bool) → has_statement is_file line rows ≡ has
          → (has || have_statement is_file line sequences) ≡ false
          → (have_statement is_file line sequences ≡ false → addresses_of is_file sequences line ≡ [])
          → addresses_in is_file line rows ++ addresses_of is_file sequences line ≡ []
      by_rows true p none rest = absurd (false≢true (sym none))
      by_rows false p none rest =
          ap (λ xs. xs ++ addresses_of is_file sequences line) (no_address false rows p) ∙ rest none

  not_empty : (xs ys : List ℕ) → xs ≢ [] → xs ++ ys ≡ [] → ⊥
  not_empty [] ys some none = some refl
  not_empty (x ∷ xs) ys some none = cc

  some_in : (sequences : List (List LineRow)) → have_statement is_file line sequences ≡ true
      → addresses_of is_file sequences line ≢ []
  some_in [] some none = false≢true some
  some_in (rows ∷ sequences) some none =
      by_rows (has_statement is_file line rows) refl some none (λ rest. some_in sequences rest)
    where
      by_rows : (has : Bool) → has_statement is_file line rows ≡ has
          → (has || have_statement is_file line sequences) ≡ true
          → addresses_in is_file line rows ++ addresses_of is_file sequences line ≡ []
          → (have_statement is_file line sequences ≡ true → addresses_of is_file sequences line ≢ []) → ⊥
      by_rows true p some none rest =
          not_empty (addresses_in is_file line rows) (addresses_of is_file sequences line) (some_address rows p) none
      by_rows false p some none rest =
          rest some (sym (ap (λ xs. xs ++ addresses_of is_file sequences line) (no_address false rows p)) ∙ none)

-- ---- the first line that passes a test

-- a test that agrees with another has the same first line
pub first_with_same : (f g : ℕ → Bool) (asked : ℕ) (found : Option ℕ) → ((l : ℕ) → f l ≡ g l)
    → IsFirstWith f asked found → IsFirstWith g asked found
first_with_same f g asked None same none = λ l from. sym (same l) ∙ none l from
first_with_same f g asked (Some line) same is =
    (is.0, sym (same line) ∙ is.1, λ l from before. sym (same l) ∙ is.2 l from before)

-- no line with a statement is no line with an address
pub no_line : (is_file : ℕ → Bool) (sequences : List (List LineRow)) (asked : ℕ)
    → IsFirstWith (λ l. have_statement is_file l sequences) asked None
    → AreCollectedFrom (addresses_of is_file sequences) asked None
no_line is_file sequences asked none = λ l from. none_in is_file l sequences (none l from)

-- the first line with a statement is the first one with an address
pub first_line : (is_file : ℕ → Bool) (sequences : List (List LineRow)) (asked line : ℕ)
    → IsFirstWith (λ l. have_statement is_file l sequences) asked (Some line)
    → IsFirstLine (addresses_of is_file sequences) asked line
first_line is_file sequences asked line is = record {
  from = is.0;
  some = some_in is_file line sequences is.1;
  none_before = λ l from before. none_in is_file l sequences (is.2 l from before);
}

-- ---- file numbers

or_nothing : (b : Bool) → (b || false) ≡ b
or_nothing true = refl
or_nothing false = refl

-- among one number is that number alone
pub among_one : (n : ℕ) → is_among (n ∷ []) ≡ nat_eq n
among_one n = fun_ext (λ k. or_nothing (nat_eq n k))

-- ---- no file

fails_last : (a b c : Bool) → (a && b && c && false) ≡ false
fails_last true true true = refl
fails_last true true false = refl
fails_last true false c = refl
fails_last false b c = refl

-- no row is of a line of no file
no_statement : (line : ℕ) (rows : List LineRow) → has_statement (λ n. false) line rows ≡ false
no_statement line [] = refl
no_statement line (r ∷ rows) =
    ap (λ b. (b && r.is_stmt) || has_statement (λ n. false) line rows)
    (fails_last (not r.end_sequence) (nat_lt 0 r.line) (nat_eq r.line line))
    ∙ no_statement line rows

no_statements : (line : ℕ) (sequences : List (List LineRow)) → have_statement (λ n. false) line sequences ≡ false
no_statements line [] = refl
no_statements line (rows ∷ sequences) =
    ap (λ b. b || have_statement (λ n. false) line sequences) (no_statement line rows) ∙ no_statements line sequences

-- no file has an address
pub no_files : (files : List ℕ) (sequences : List (List LineRow)) (asked : ℕ) → files ≡ []
    → AreCollectedFrom (addresses_of (is_among files) sequences) asked None
no_files files sequences asked none =
    subst (λ (fs : List ℕ). AreCollectedFrom (addresses_of (is_among fs) sequences) asked None) (sym none)
    (λ l from. none_in (λ n. false) l sequences (no_statements l sequences))
