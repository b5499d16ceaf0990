-- The statements of a lookup give the addresses that the lookup gives.
use Rattle.std.proofs.Common.{◌≡◌, ◌∙◌, ◌⊎◌, ℕ, Bool, true, false, not, nat_eq, nat_lt, ◌&&◌, ◌||◌, List, [], ◌∷◌}
use Rattle.std.proofs.Common.{◌++◌, Option, None, Some, Result, Ok, Err, refl, sym, ap, inl, inr, arith, append_assoc}
use Rattle.std.proofs.Common.{length}
use Rattle.std.proofs.Common.{◌≤◌, if◌then◌else◌, length-append}
use Rattle.std.specs.Prelude.{flat_map, map, ◌==◌}
use Rattle.std.specs.Option.{option_map_or}
use Rattle.std.specs.List.{filter}
use Rattle.std.proofs.lemmas.Bool.{eqb-true, false≢true}
use Rattle.std.proofs.lemmas.List.{map-append}
use Rattle.std.proofs.lemmas.List.Elements.{filter-append}
use Rattle.std.proofs.lemmas.List.Folds.{list_any-append}
use Rattle.std.proofs.lemmas.Slice.Eq.{bytes_eq-Decides}
use Rattle.gimli_line.specs.declared.run.row.LineRow.{LineRow}
use Rattle.gimli_lookup.specs.Section.{KeptUnit, ListedUnit, all_sequences}
use Rattle.gimli_lookup.specs.Statements.{is_of_line}
use Rattle.gimli_lookup.specs.Statements.{addresses_in as addresses_in_rows}
use Rattle.gimli_lookup.proofs.AscendingOnce.{has, same_ascending_once}
use Rattle.gimli_lookup.proofs.StatementRuns.{addresses_on, at_end, of_first, of_given, of_no_statement, of_none}
use Rattle.gimli_index.specs.Found.{SayWhereLinesBegin, file_path, is_one_file, is_one_path, lookup_addresses}
use Rattle.gimli_lookup.specs.ProgramPaths.{Texts}
use Rattle.gimli_index.specs.Found.{sequence_addresses}
use Rattle.gimli_index.specs.Lines.{addresses_in, is_named, is_of}
use Rattle.gimli_index.specs.Meaning.{Statement}
use Rattle.gimli_index.specs.declared.place.NoPath.{NoPath}
use Rattle.gimli_index.specs.inside.Begun.{PathLine, begun, begun_in_unit, begun_in_units, goes_on}

same_truth : (b c : Bool) → (b ≡ true → c ≡ true) → (c ≡ true → b ≡ true) → b ≡ c
same_truth true c there back = sym (there refl)
same_truth false true there back = absurd (false≢true (back refl))
same_truth false false there back = refl

either : (b c : Bool) → (b || c) ≡ true → (b ≡ true) ⊎ (c ≡ true)
either true c is = inl refl
either false c is = inr is

-- ---- paths that are one

one_path_same : (p q : Result (List ℕ) NoPath) → is_one_path p q ≡ true → p ≡ q
one_path_same (Ok p) (Ok q) is = ap (λ (x : List ℕ). Ok x) ((bytes_eq-Decides p q).0 is)
one_path_same (Ok p) (Err e) is = absurd (false≢true is)
one_path_same (Err e) q is = absurd (false≢true is)

one_path_self : (p : List ℕ) → is_one_path (Ok p) (Ok p) ≡ true
one_path_self p = (bytes_eq-Decides p p).1 refl

-- ---- the statements of one path and line, and the rows of it

module _ (t : Texts) (u : ListedUnit) (whole : List ℕ) (line : ℕ) where
  abbrev is_exact : ℕ → Bool
  is_exact file = is_one_path (Ok whole) (file_path t u file)

  abbrev exactly : Statement → Bool
  exactly s = is_one_path (Ok whole) s.path && nat_eq s.line line

  abbrev exact : List Statement → List ℕ
  exact ss = map (λ (s : Statement). s.address) (filter exactly ss)

  -- whether what was given is of the path and the line
  abbrev is_given : Option PathLine → Bool
  is_given given = option_map_or (λ (g : PathLine). is_one_path (Ok whole) g.path && nat_eq g.line line) given false

  abbrev passes : LineRow → Bool
  passes r = is_one_path (Ok whole) (file_path t u r.file) && nat_eq r.line line

  swap : (b c : Bool) → (b && c) ≡ (c && b)
  swap true true = refl
  swap true false = refl
  swap false true = refl
  swap false false = refl

  of_end : (r : LineRow) → r.end_sequence ≡ true → is_of_line is_exact line r ≡ false
  of_end r end = ap (λ (b : Bool). not b && nat_lt 0 r.line && r.line == line && is_exact r.file) end

  of_zero : (r : LineRow) → r.end_sequence ≡ false → nat_lt 0 r.line ≡ false → is_of_line is_exact line r ≡ false
  of_zero r code zero =
      ap (λ (b : Bool). not b && nat_lt 0 r.line && r.line == line && is_exact r.file) code
      ∙ ap (λ (b : Bool). b && r.line == line && is_exact r.file) zero

  of_code : (r : LineRow) → r.end_sequence ≡ false → nat_lt 0 r.line ≡ true → is_of_line is_exact line r ≡ passes r
  of_code r code some =
      ap (λ (b : Bool). not b && nat_lt 0 r.line && r.line == line && is_exact r.file) code
      ∙ ap (λ (b : Bool). b && r.line == line && is_exact r.file) some
      ∙ swap (nat_eq r.line line) (is_exact r.file)

  -- where a run goes on, what was given is of the path and the line as the row is
  given_as : (given : Option PathLine) (r : LineRow) → goes_on given (file_path t u r.file) r.line ≡ true
      → is_given given ≡ passes r
  given_as None r goes = absurd (false≢true goes)
  given_as (Some g) r goes =
      let parts = both (nat_eq g.line r.line) (is_one_path g.path (file_path t u r.file)) goes in
      ap (λ (p : Result (List ℕ) NoPath). is_one_path (Ok whole) p && nat_eq g.line line)
      (one_path_same g.path (file_path t u r.file) parts.1)
      ∙ ap (λ (n : ℕ). is_one_path (Ok whole) (file_path t u r.file) && nat_eq n line) (eqb-true g.line r.line parts.0)
    where
      both : (b c : Bool) → (b && c) ≡ true → (b ≡ true) × (c ≡ true)
      both true true is = (refl, refl)
      both true false is = absurd (false≢true is)
      both false c is = absurd (false≢true is)

  -- and where it doesn't, not both are
  not_given : (given : Option PathLine) (r : LineRow) → goes_on given (file_path t u r.file) r.line ≡ false
      → passes r ≡ true → is_given given ≡ false
  not_given None r goes is = refl
  not_given (Some g) r goes is =
      by_test (is_one_path (Ok whole) g.path) (nat_eq g.line line) refl refl
    where
      both : (b c : Bool) → (b && c) ≡ true → (b ≡ true) × (c ≡ true)
      both true true is = (refl, refl)
      both true false is = absurd (false≢true is)
      both false c is = absurd (false≢true is)

      by_test : (b c : Bool) → is_one_path (Ok whole) g.path ≡ b → nat_eq g.line line ≡ c → (b && c) ≡ false
      by_test false c p q = refl
      by_test true false p q = refl
      by_test true true p q =
          let parts = both (is_one_path (Ok whole) (file_path t u r.file)) (nat_eq r.line line) is in
          let lines : g.line ≡ r.line = eqb-true g.line line q ∙ sym (eqb-true r.line line parts.1) in
          let paths : g.path ≡ file_path t u r.file =
          sym (one_path_same (Ok whole) g.path p) ∙ one_path_same (Ok whole) (file_path t u r.file) parts.0 in
          let same_line : nat_eq g.line r.line ≡ true = ap (nat_eq g.line) (sym lines) ∙ nat_self g.line in
          let same_path : is_one_path g.path (file_path t u r.file) ≡ true =
          ap (λ (x : Result (List ℕ) NoPath). is_one_path x (file_path t u r.file))
          (sym (one_path_same (Ok whole) g.path p))
          ∙ parts.0 in
          absurd (false≢true (sym goes ∙ ap (λ (b : Bool). b && is_one_path g.path (file_path t u r.file)) same_line
          ∙ same_path))
        where
          nat_self : (n : ℕ) → nat_eq n n ≡ true
          nat_self n = grind arith

  -- the statements give what the rows give
  same_addresses : (given : Option PathLine) (rows : List LineRow)
      → exact (begun t u given rows) ≡ addresses_on is_exact line (is_given given) rows
  same_addresses given [] = sym (at_end is_exact line (is_given given))
  same_addresses given (r ∷ rows) = by_end r.end_sequence refl (λ g. same_addresses g rows)
    where
      Rest : Type 0
      Rest = (g : Option PathLine) → exact (begun t u g rows) ≡ addresses_on is_exact line (is_given g) rows

      row : Bool → Bool → Bool → Bool → List Statement
      row end zero goes none =
          if end then begun t u None rows
          else (if zero then begun t u None rows
          else (if goes then begun t u given rows
          else (if none then begun t u None rows
          else (record { path = file_path t u r.file; line = r.line; address = r.address })
          ∷ begun t u (Some (record { path = file_path t u r.file; line = r.line })) rows)))

      by_stmt : (stmt of : Bool) → Rest → r.end_sequence ≡ false → nat_lt 0 r.line ≡ true
          → goes_on given (file_path t u r.file) r.line ≡ false → r.is_stmt ≡ stmt → passes r ≡ of
          → exact (row false (not true) false (not stmt)) ≡ addresses_on is_exact line (is_given given) (r ∷ rows)
      by_stmt false true later code some goes stmt is =
          later None
          ∙ ap (λ (g : Bool). addresses_on is_exact line g rows) (sym (not_given given r goes is))
          ∙ sym (of_no_statement is_exact line (is_given given) r rows (of_code r code some ∙ is) stmt)
      by_stmt false false later code some goes stmt is =
          later None ∙ sym (of_none is_exact line (is_given given) r rows (of_code r code some ∙ is))
      by_stmt true true later code some goes stmt is =
          ap (λ (b : Bool). map (λ (s : Statement). s.address) (if b
          then (record { path = file_path t u r.file; line = r.line; address = r.address })
          ∷ filter exactly (begun t u (Some (record { path = file_path t u r.file; line = r.line })) rows)
          else filter exactly (begun t u (Some (record { path = file_path t u r.file; line = r.line })) rows))) is
          ∙ ap (λ (found : List ℕ). r.address ∷ found)
          (later (Some (record { path = file_path t u r.file; line = r.line }))
          ∙ ap (λ (g : Bool). addresses_on is_exact line g rows) is)
          ∙ sym (of_first is_exact line r rows (of_code r code some ∙ is) stmt)
          ∙ ap (λ (g : Bool). addresses_on is_exact line g (r ∷ rows)) (sym (not_given given r goes is))
      by_stmt true false later code some goes stmt is =
          ap (λ (b : Bool). map (λ (s : Statement). s.address) (if b
          then (record { path = file_path t u r.file; line = r.line; address = r.address })
          ∷ filter exactly (begun t u (Some (record { path = file_path t u r.file; line = r.line })) rows)
          else filter exactly (begun t u (Some (record { path = file_path t u r.file; line = r.line })) rows))) is
          ∙ later (Some (record { path = file_path t u r.file; line = r.line }))
          ∙ ap (λ (g : Bool). addresses_on is_exact line g rows) is
          ∙ sym (of_none is_exact line (is_given given) r rows (of_code r code some ∙ is))

      by_goes : (goes of : Bool) → Rest → r.end_sequence ≡ false → nat_lt 0 r.line ≡ true
          → goes_on given (file_path t u r.file) r.line ≡ goes → passes r ≡ of
          → exact (row false (not true) goes (not r.is_stmt))
          ≡ addresses_on is_exact line (is_given given) (r ∷ rows)
      by_goes true true later code some goes is =
          later given
          ∙ ap (λ (g : Bool). addresses_on is_exact line g rows) (given_as given r goes ∙ is)
          ∙ sym (of_given is_exact line r rows (of_code r code some ∙ is))
          ∙ ap (λ (g : Bool). addresses_on is_exact line g (r ∷ rows)) (sym (given_as given r goes ∙ is))
      by_goes true false later code some goes is =
          later given
          ∙ ap (λ (g : Bool). addresses_on is_exact line g rows) (given_as given r goes ∙ is)
          ∙ sym (of_none is_exact line (is_given given) r rows (of_code r code some ∙ is))
      by_goes false of later code some goes is =
          ap (λ (b : Bool). exact (row false (not true) false (not b))) refl
          ∙ by_stmt r.is_stmt of later code some goes refl is

      by_line : (some : Bool) → Rest → r.end_sequence ≡ false → nat_lt 0 r.line ≡ some
          → exact (row false (not some) (goes_on given (file_path t u r.file) r.line) (not r.is_stmt))
          ≡ addresses_on is_exact line (is_given given) (r ∷ rows)
      by_line false later code zero =
          later None ∙ sym (of_none is_exact line (is_given given) r rows (of_zero r code zero))
      by_line true later code some =
          by_goes (goes_on given (file_path t u r.file) r.line) (passes r) later code some refl refl

      by_end : (end : Bool) → r.end_sequence ≡ end → Rest
          → exact (row end (not (nat_lt 0 r.line)) (goes_on given (file_path t u r.file) r.line) (not r.is_stmt))
          ≡ addresses_on is_exact line (is_given given) (r ∷ rows)
      by_end true end later =
          later None ∙ sym (of_none is_exact line (is_given given) r rows (of_end r end))
      by_end false code later = by_line (nat_lt 0 r.line) later code refl

-- ---- statements that pass a test

abbrev addresses_by : (Statement → Bool) → List Statement → List ℕ
addresses_by test ss = map (λ (s : Statement). s.address) (filter test ss)

-- a statement is among others
abbrev Among : Statement → List Statement → Type 0
Among s [] = ⊥
Among s (x ∷ xs) = (x ≡ s) ⊎ Among s xs

module _ (a : ℕ) where
  one_more : (p : Statement → Bool) (s : Statement) (ss : List Statement)
      → has a (addresses_by p (s ∷ ss)) ≡ ((p s && nat_eq a s.address) || has a (addresses_by p ss))
  one_more p s ss = by_test (p s) refl
    where
      by_test : (b : Bool) → p s ≡ b
          → has a (map (λ (z : Statement). z.address) (if b then s ∷ filter p ss else filter p ss))
          ≡ ((b && nat_eq a s.address) || has a (addresses_by p ss))
      by_test true is = refl
      by_test false is = refl

  -- an address of some statement that passes
  found_in : (p : Statement → Bool) (ss : List Statement) → has a (addresses_by p ss) ≡ true
      → (s : Statement) × Among s ss × (p s ≡ true) × (nat_eq a s.address ≡ true)
  found_in p [] is = absurd (false≢true is)
  found_in p (s ∷ ss) is =
      by_tests (p s) (nat_eq a s.address) refl refl (λ more. found_in p ss more) (sym (one_more p s ss) ∙ is)
    where
      by_tests : (b c : Bool) → p s ≡ b → nat_eq a s.address ≡ c
          → (has a (addresses_by p ss) ≡ true
          → (z : Statement) × Among z ss × (p z ≡ true) × (nat_eq a z.address ≡ true))
          → ((b && c) || has a (addresses_by p ss)) ≡ true
          → (z : Statement) × Among z (s ∷ ss) × (p z ≡ true) × (nat_eq a z.address ≡ true)
      by_tests true true pass here rest later = (s, inl refl, pass, here)
      by_tests true false pass here rest later = let more = rest later in (more.0, inr more.1, more.2, more.3)
      by_tests false c pass here rest later = let more = rest later in (more.0, inr more.1, more.2, more.3)

  -- and one that passes gives its address
  gives : (p : Statement → Bool) (ss : List Statement) (s : Statement) → Among s ss → p s ≡ true
      → nat_eq a s.address ≡ true
      → has a (addresses_by p ss) ≡ true
  gives p [] s among pass here = absurd among
  gives p (x ∷ ss) s (inl same) pass here =
      one_more p x ss
      ∙ ap (λ (b : Bool). (b && nat_eq a x.address) || has a (addresses_by p ss)) (ap p same ∙ pass)
      ∙ ap (λ (b : Bool). b || has a (addresses_by p ss)) (ap (λ (z : Statement). nat_eq a z.address) same ∙ here)
  gives p (x ∷ ss) s (inr among) pass here =
      one_more p x ss
      ∙ ap (λ (b : Bool). (p x && nat_eq a x.address) || b) (gives p ss s among pass here)
      ∙ or_true (p x && nat_eq a x.address)
    where
      or_true : (b : Bool) → (b || true) ≡ true
      or_true true = refl
      or_true false = refl

-- ---- the statements of a sequence

abbrev AmongRows : (LineRow → Type 0) → List LineRow → Type 0
AmongRows P [] = ⊥
AmongRows P (r ∷ rows) = P r ⊎ AmongRows P rows

module _ (t : Texts) (path : List ℕ) (line : ℕ) (u : ListedUnit) where
  abbrev IsOf : Statement → LineRow → Type 0
  IsOf s r = file_path t u r.file ≡ s.path

  -- each comes of a row
  of_row : (s : Statement) (given : Option PathLine) (rows : List LineRow) → Among s (begun t u given rows)
      → AmongRows (IsOf s) rows
  of_row s given [] among = absurd among
  of_row s given (r ∷ rows) among =
      by_tests r.end_sequence (not (nat_lt 0 r.line)) (goes_on given (file_path t u r.file) r.line) (not r.is_stmt)
      (λ g. of_row s g rows) among
    where
      by_tests : (end zero goes none : Bool)
          → ((g : Option PathLine) → Among s (begun t u g rows) → AmongRows (IsOf s) rows)
          → Among s (if end then begun t u None rows
          else (if zero then begun t u None rows
          else (if goes then begun t u given rows
          else (if none then begun t u None rows
          else (record { path = file_path t u r.file; line = r.line; address = r.address })
          ∷ begun t u (Some (record { path = file_path t u r.file; line = r.line })) rows))))
          → AmongRows (IsOf s) (r ∷ rows)
      by_tests true zero goes none rest among = inr (rest None among)
      by_tests false true goes none rest among = inr (rest None among)
      by_tests false false true none rest among = inr (rest given among)
      by_tests false false false true rest among = inr (rest None among)
      by_tests false false false false rest (inl same) = inl (ap (λ (z : Statement). z.path) same)
      by_tests false false false false rest (inr among) =
          inr (rest (Some (record { path = file_path t u r.file; line = r.line })) among)

  module _ (a : ℕ) (all : List LineRow) where
    -- what a row adds to the addresses of its sequence
    abbrev of_file : LineRow → List ℕ
    of_file r =
        if is_named path (file_path t u r.file) then addresses_in_rows (is_one_file t u r.file) line all else []

    row_gives : (rows : List LineRow) (s : Statement) → AmongRows (IsOf s) rows → is_named path s.path ≡ true
        → has a (addresses_in_rows (λ (file : ℕ). is_one_path s.path (file_path t u file)) line all) ≡ true
        → has a (flat_map of_file rows) ≡ true
    row_gives [] s among named is = absurd among
    row_gives (r ∷ rows) s (inl same) named is =
        list_any-append (nat_eq a) (of_file r) (flat_map of_file rows)
        ∙ ap (λ (b : Bool). b || has a (flat_map of_file rows))
        (ap (λ (p : Result (List ℕ) NoPath). has a (if is_named path p
        then addresses_in_rows (λ (file : ℕ). is_one_path p (file_path t u file)) line all else [])) same
        ∙ ap (λ (b : Bool). has a (if b
        then addresses_in_rows (λ (file : ℕ). is_one_path s.path (file_path t u file)) line all else [])) named
        ∙ is)
    row_gives (r ∷ rows) s (inr among) named is =
        list_any-append (nat_eq a) (of_file r) (flat_map of_file rows)
        ∙ ap (λ (b : Bool). has a (of_file r) || b) (row_gives rows s among named is)
        ∙ or_true (has a (of_file r))
      where
        or_true : (b : Bool) → (b || true) ≡ true
        or_true true = refl
        or_true false = refl

    row_found : (rows : List LineRow) → has a (flat_map of_file rows) ≡ true
        → (p : Result (List ℕ) NoPath) × (is_named path p ≡ true)
        × (has a (addresses_in_rows (λ (file : ℕ). is_one_path p (file_path t u file)) line all) ≡ true)
    row_found [] is = absurd (false≢true is)
    row_found (r ∷ rows) is =
        by_parts (is_named path (file_path t u r.file)) refl (λ later. row_found rows later)
        (either (has a (of_file r)) (has a (flat_map of_file rows))
        (sym (list_any-append (nat_eq a) (of_file r) (flat_map of_file rows)) ∙ is))
      where
        by_parts : (b : Bool) → is_named path (file_path t u r.file) ≡ b
            → (has a (flat_map of_file rows) ≡ true → (p : Result (List ℕ) NoPath) × (is_named path p ≡ true)
            × (has a (addresses_in_rows (λ (file : ℕ). is_one_path p (file_path t u file)) line all) ≡ true))
            → (has a (if b then addresses_in_rows (is_one_file t u r.file) line all else []) ≡ true)
            ⊎ (has a (flat_map of_file rows) ≡ true)
            → (p : Result (List ℕ) NoPath) × (is_named path p ≡ true)
            × (has a (addresses_in_rows (λ (file : ℕ). is_one_path p (file_path t u file)) line all) ≡ true)
        by_parts true named rest (inl here) = (file_path t u r.file, named, here)
        by_parts false named rest (inl here) = absurd (false≢true here)
        by_parts b named rest (inr later) = rest later

  -- the statements of a sequence and its rows have the same addresses
  in_sequence : (a : ℕ) (rows : List LineRow)
      → has a (addresses_in path line (begun t u None rows)) ≡ has a (sequence_addresses t path u line rows)
  in_sequence a rows =
      same_truth (has a (addresses_in path line (begun t u None rows)))
      (has a (sequence_addresses t path u line rows))
      (λ is.
      let found = found_in a (is_of path line) (begun t u None rows) is in
      let s = found.0 in
      let parts = both (is_named path s.path) (nat_eq s.line line) found.2 in
      row_gives a rows rows s (of_row s None rows found.1) parts.0 (exact_rows s s.path refl found.1 parts.0 parts.1
      found.3))
      (λ is. let found = row_found a rows rows is in from_rows found.0 found.1 found.2)
    where
      both : (b c : Bool) → (b && c) ≡ true → (b ≡ true) × (c ≡ true)
      both true true is = (refl, refl)
      both true false is = absurd (false≢true is)
      both false c is = absurd (false≢true is)

      exact_rows : (s : Statement) (p : Result (List ℕ) NoPath) → s.path ≡ p → Among s (begun t u None rows)
          → is_named path p ≡ true → nat_eq s.line line ≡ true → nat_eq a s.address ≡ true
          → has a (addresses_in_rows (λ (file : ℕ). is_one_path p (file_path t u file)) line rows) ≡ true
      exact_rows s (Err e) same among named on here = absurd (false≢true named)
      exact_rows s (Ok whole) same among named on here =
          ap (has a) (sym (same_addresses t u whole line None rows))
          ∙ gives a (exactly t u whole line) (begun t u None rows) s among
          (ap (λ (p : Result (List ℕ) NoPath). is_one_path (Ok whole) p && nat_eq s.line line) same
          ∙ ap (λ (b : Bool). b && nat_eq s.line line) (one_path_self whole) ∙ on)
          here

      from_rows : (p : Result (List ℕ) NoPath) → is_named path p ≡ true
          → has a (addresses_in_rows (λ (file : ℕ). is_one_path p (file_path t u file)) line rows) ≡ true
          → has a (addresses_in path line (begun t u None rows)) ≡ true
      from_rows (Err e) named is = absurd (false≢true named)
      from_rows (Ok whole) named is =
          let found =
          found_in a (exactly t u whole line) (begun t u None rows)
          (ap (has a) (same_addresses t u whole line None rows) ∙ is) in
          let s = found.0 in
          let parts = both (is_one_path (Ok whole) s.path) (nat_eq s.line line) found.2 in
          gives a (is_of path line) (begun t u None rows) s found.1
          (ap (λ (q : Result (List ℕ) NoPath). is_named path q && nat_eq s.line line)
          (sym (one_path_same (Ok whole) s.path parts.0))
          ∙ ap (λ (b : Bool). b && nat_eq s.line line) named ∙ parts.1)
          found.3

-- ---- the statements of all sequences

module _ (t : Texts) (path : List ℕ) (line : ℕ) (a : ℕ) where
  joins : {X : Type 0} (f : X → List Statement) (g : X → List ℕ)
      → ((x : X) → has a (addresses_in path line (f x)) ≡ has a (g x)) → (xs : List X)
      → has a (addresses_in path line (flat_map f xs)) ≡ has a (flat_map g xs)
  joins f g each [] = refl
  joins f g each (x ∷ xs) =
      ap (λ (ss : List Statement). has a (map (λ (s : Statement). s.address) ss))
      (filter-append (is_of path line) (f x) (flat_map f xs))
      ∙ ap (has a)
      (map-append (λ (s : Statement). s.address) (filter (is_of path line) (f x))
      (filter (is_of path line) (flat_map f xs)))
      ∙ list_any-append (nat_eq a) (addresses_in path line (f x)) (addresses_in path line (flat_map f xs))
      ∙ ap (λ (b : Bool). b || has a (addresses_in path line (flat_map f xs))) (each x)
      ∙ ap (λ (b : Bool). has a (g x) || b) (joins f g each xs)
      ∙ sym (list_any-append (nat_eq a) (g x) (flat_map g xs))

  in_units : (units : List KeptUnit)
      → has a (addresses_in path line (begun_in_units t units)) ≡ has a (lookup_addresses t path units line)
  in_units units =
      joins (begun_in_unit t) (λ (u : KeptUnit). flat_map (sequence_addresses t path u.unit line) u.sequences)
      (λ u. joins (begun t u.unit None) (sequence_addresses t path u.unit line)
      (λ rows. in_sequence t path line u.unit a rows) u.sequences)
      units

pub say_where_lines_begin : (t : Texts) (units : List KeptUnit) → SayWhereLinesBegin t units (begun_in_units t units)
say_where_lines_begin t units path line =
    same_ascending_once (addresses_in path line (begun_in_units t units)) (lookup_addresses t path units line)
    (λ a. in_units t path line a units)

-- ---- there are no more statements than rows

few_rows : (t : Texts) (u : ListedUnit) (given : Option PathLine) (rows : List LineRow)
    → length (begun t u given rows) ≤ length rows
few_rows t u given [] = omega arith
few_rows t u given (r ∷ rows) =
    by_tests r.end_sequence (not (nat_lt 0 r.line)) (goes_on given (file_path t u r.file) r.line) (not r.is_stmt)
    (λ g. few_rows t u g rows)
  where
    by_tests : (end no_line goes none : Bool)
        → ((g : Option PathLine) → length (begun t u g rows) ≤ length rows)
        → length (if end then begun t u None rows
        else (if no_line then begun t u None rows
        else (if goes then begun t u given rows
        else (if none then begun t u None rows
        else (record { path = file_path t u r.file; line = r.line; address = r.address })
        ∷ begun t u (Some (record { path = file_path t u r.file; line = r.line })) rows))))
        ≤ length (r ∷ rows)
    by_tests true no_line goes none rest = let few = rest None in omega (arith, few)
    by_tests false true goes none rest = let few = rest None in omega (arith, few)
    by_tests false false true none rest = let few = rest given in omega (arith, few)
    by_tests false false false true rest = let few = rest None in omega (arith, few)
    by_tests false false false false rest =
        let few = rest (Some (record { path = file_path t u r.file; line = r.line })) in omega (arith, few)

few_sequences : (t : Texts) (u : ListedUnit) (sequences : List (List LineRow))
    → length (flat_map (begun t u None) sequences) ≤ length (flat_map (λ (rows : List LineRow). rows) sequences)
few_sequences t u [] = omega arith
few_sequences t u (rows ∷ sequences) =
    omega (
      arith,
      length-append (begun t u None rows) (flat_map (begun t u None) sequences),
      length-append rows (flat_map (λ (rs : List LineRow). rs) sequences),
      few_rows t u None rows,
      few_sequences t u sequences,
    )

pub few_begun : (t : Texts) (units : List KeptUnit)
    → length (begun_in_units t units) ≤ length (flat_map (λ (rows : List LineRow). rows) (all_sequences units))
few_begun t [] = omega arith
few_begun t (u ∷ units) =
    omega (
      arith,
      length-append (begun_in_unit t u) (begun_in_units t units),
      ap (λ (rs : List LineRow). length rs)
          (flat_joined u.sequences (all_sequences units)),
      length-append (flat_map (λ (rows : List LineRow). rows) u.sequences)
          (flat_map (λ (rows : List LineRow). rows) (all_sequences units)),
      few_sequences t u.unit u.sequences,
      few_begun t units,
    )
  where
    flat_joined : (xs ys : List (List LineRow))
        → flat_map (λ (rows : List LineRow). rows) (xs ++ ys)
        ≡ flat_map (λ (rows : List LineRow). rows) xs ++ flat_map (λ (rows : List LineRow). rows) ys
    flat_joined [] ys = refl
    flat_joined (x ∷ xs) ys =
        ap (λ (rs : List LineRow). x ++ rs) (flat_joined xs ys)
        ∙ sym (append_assoc x (flat_map (λ (rows : List LineRow). rows) xs)
        (flat_map (λ (rows : List LineRow). rows) ys))
