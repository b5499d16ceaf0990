-- One more row among the statements of a lookup.
use Rattle.std.proofs.Common.{◌≡◌, ◌≢◌, ◌∙◌, ℕ, suc, zero, ◌+◌, ◌<◌, Bool, true, false, not, nat_lt, List, [], ◌∷◌}
use Rattle.std.proofs.Common.{◌++◌}
use Rattle.std.proofs.Common.{length, Option, None, Some, refl, sym, ap, subst, arith, append_assoc, inl, inr}
use Rattle.std.proofs.Common.{if◌then◌else◌}
use Rattle.std.specs.Prelude.{flat_map, slice_get, take}
use Rattle.std.proofs.lemmas.List.{length-append, map-append}
use Rattle.gimli_line.specs.declared.run.row.LineRow.{LineRow}
use Rattle.gimli_lookup.specs.Section.{KeptUnit, ListedUnit}
use Rattle.gimli_index.specs.Contents.{path_at, statement_in}
use Rattle.gimli_index.specs.Found.{file_path}
use Rattle.gimli_lookup.specs.ProgramPaths.{Texts}
use Rattle.gimli_index.specs.Meaning.{Statement}
use Rattle.gimli_index.specs.declared.contents.Source.{Source}
use Rattle.gimli_index.specs.declared.contents.Statement.{Statement as Made}
use Rattle.gimli_index.specs.declared.statements.Given.{Given}
use Rattle.gimli_index.specs.inside.Begun.{AreInside, GoesOnTo, IsGiven, PathLine, begun, given_in, goes_on}
use Rattle.gimli_index.specs.inside.Begun.{statements_in}
use Rattle.gimli_index.specs.inside.Table.{AreSources, Keeps, Table, with_table}
use Rattle.gimli_index.proofs.Lists.{append_none, get_pushed}
use Rattle.gimli_index.proofs.Sources.{path_stays}
use Rattle.gimli_index.proofs.TurnSteps.{next_taken}

-- ---- where a table goes on

pub keeps_self : (table : Table) → Keeps table table
keeps_self table = record { sources = ([], none table.sources); paths = ([], none table.paths.bytes) }
  where
    none : {X : Type 0} (xs : List X) → xs ≡ xs ++ []
    none [] = refl
    none {X} (x ∷ xs) = ap (λ (ys : List X). x ∷ ys) (none xs)

pub keeps_on : (a b c : Table) → Keeps a b → Keeps b c → Keeps a c
keeps_on a b c one other = record {
  sources = (
    one.sources.0 ++ other.sources.0,
    other.sources.1 ∙ ap (λ (ss : List Source). ss ++ other.sources.0) one.sources.1
        ∙ append_assoc a.sources one.sources.0 other.sources.0,
  );
  paths = (
    one.paths.0 ++ other.paths.0,
    other.paths.1 ∙ ap (λ (ps : List ℕ). ps ++ other.paths.0) one.paths.1
        ∙ append_assoc a.paths.bytes one.paths.0 other.paths.0,
  );
}

more_sources : (old new : Table) → Keeps old new → (n : ℕ) → n < length old.sources → n < length new.sources
more_sources old new keeps n inside =
    omega
    (arith, inside, ap (λ (ss : List Source). length ss) keeps.sources.1, length-append old.sources keeps.sources.0)

pub still_inside : (old new : Table) (statements : List Made) → Keeps old new → AreInside old statements
    → AreInside new statements
still_inside old new statements keeps inside k s there = more_sources old new keeps s.source (inside k s there)

pub same_given : (t : Texts) (units : List KeptUnit) {limit : ℕ} (old new : Table) (given : Option Given)
    → AreSources t units limit old → Keeps old new → IsGiven old given → given_in new given ≡ given_in old given
same_given t units old new None are keeps is = refl
same_given t units old new (Some g) are keeps is =
    ap (λ p. let z : PathLine = record { path = p; line = g.line } in Some z)
    (path_stays t units old new g.source are keeps is)

pub same_statements : (t : Texts) (units : List KeptUnit) {limit : ℕ} (old new : Table) (statements : List Made)
    → AreSources t units limit old → Keeps old new → AreInside old statements
    → statements_in new statements ≡ statements_in old statements
same_statements t units old new [] are keeps inside = refl
same_statements t units old new (s ∷ statements) are keeps inside =
    ap (λ p. let z : Statement = record { path = p; line = s.line; address = s.address } in z ∷ statements_in new
    statements)
    (path_stays t units old new s.source are keeps (inside 0 s refl))
    ∙ ap (λ (ss : List Statement). statement_in (with_table old) s ∷ ss)
    (same_statements t units old new statements are keeps (λ k x there. inside (suc k) x there))

pub pushed_inside : (table : Table) (statements : List Made) (s : Made) → AreInside table statements
    → s.source < length table.sources
    → AreInside table (statements ++ s ∷ [])
pushed_inside table statements s inside last k x there = elim (get_pushed statements s k x there) [
  | inl earlier ↦ inside k x earlier
  | inr here ↦ subst (λ (y : Made). y.source < length table.sources) here.1 last
]

-- ---- a row

module _ (t : Texts) (units : List KeptUnit) {limit : ℕ} (u : ListedUnit) (old new : Table) (statements : List Made)
    (given : Option Given)
    (r : LineRow) (rest : List LineRow)
    (are : AreSources t units limit old) (keeps : Keeps old new) (inside : AreInside old statements)
    (is_given : IsGiven old given) where
  abbrev row_begins : Bool → Bool → Bool → Bool → List Statement
  row_begins end no_line goes none =
      if end then begun t u None rest
      else (if no_line then begun t u None rest
      else (if goes then begun t u (given_in old given) rest
      else (if none then begun t u None rest
      else (record { path = file_path t u r.file; line = r.line; address = r.address })
      ∷ begun t u (Some (record { path = file_path t u r.file; line = r.line })) rest)))

  abbrev of_row : List Statement
  of_row =
      row_begins r.end_sequence (not (nat_lt 0 r.line)) (goes_on (given_in old given) (file_path t u r.file) r.line)
      (not r.is_stmt)

  same : statements_in old statements ≡ statements_in new statements
  same = sym (same_statements t units old new statements are keeps inside)

  joined : (xs ys : List Statement) → xs ≡ ys
      → statements_in old statements ++ xs ≡ statements_in new statements ++ ys
  joined xs ys is =
      ap (λ (ss : List Statement). ss ++ xs) same ∙ ap (λ (ss : List Statement). statements_in new statements ++ ss) is

  module _ (code : r.end_sequence ≡ false) where
    module _ (some : nat_lt 0 r.line ≡ true) where
      to_line : of_row
          ≡ row_begins false false (goes_on (given_in old given) (file_path t u r.file) r.line) (not r.is_stmt)
      to_line =
          ap (λ (b : Bool). row_begins b (not (nat_lt 0 r.line))
          (goes_on (given_in old given) (file_path t u r.file) r.line) (not r.is_stmt)) code
          ∙ ap (λ (b : Bool). row_begins false (not b) (goes_on (given_in old given) (file_path t u r.file) r.line)
          (not r.is_stmt)) some

      -- a row of the run
      pub at_run : goes_on (given_in old given) (file_path t u r.file) r.line ≡ true
          → GoesOnTo t u old statements given (r ∷ rest) new statements given rest
      at_run goes =
          joined of_row (begun t u (given_in new given) rest)
          (to_line ∙ ap (λ (b : Bool). row_begins false false b (not r.is_stmt)) goes
          ∙ ap (λ (g : Option PathLine). begun t u g rest) (sym (same_given t units old new given are keeps is_given)))

      module _ (goes : goes_on (given_in old given) (file_path t u r.file) r.line ≡ false) where
        -- another row that is no statement
        pub at_other : r.is_stmt ≡ false → GoesOnTo t u old statements given (r ∷ rest) new statements None rest
        at_other stmt =
            joined of_row (begun t u None rest)
            (to_line ∙ ap (λ (b : Bool). row_begins false false b (not r.is_stmt)) goes
            ∙ ap (λ (b : Bool). row_begins false false false (not b)) stmt)

        -- a statement
        pub at_statement : r.is_stmt ≡ true → (source : ℕ) → path_at (with_table new) source ≡ file_path t u r.file
            → GoesOnTo t u old statements given (r ∷ rest) new
            (statements ++ (record { source = source; line = r.line; address = r.address }) ∷ [])
            (Some (record { source = source; line = r.line })) rest
        at_statement stmt source path =
            let s : Made = record { source = source; line = r.line; address = r.address } in
            let here : Statement = record { path = file_path t u r.file; line = r.line; address = r.address } in
            let now : Option PathLine = Some (record { path = file_path t u r.file; line = r.line }) in
            joined of_row (here ∷ begun t u now rest)
            (to_line ∙ ap (λ (b : Bool). row_begins false false b (not r.is_stmt)) goes
            ∙ ap (λ (b : Bool). row_begins false false false (not b)) stmt)
            ∙ sym (append_assoc (statements_in new statements) (here ∷ []) (begun t u now rest))
            ∙ ap (λ p. let z : Statement = record { path = p; line = r.line; address = r.address } in
            (statements_in new statements ++ z ∷ []) ++ begun t u now rest) (sym path)
            ∙ ap (λ p. let g : PathLine = record { path = p; line = r.line } in
            (statements_in new statements ++ statement_in (with_table new) s ∷ []) ++ begun t u (Some g) rest)
            (sym path)
            ∙ ap (λ (ss : List Statement).
            ss ++ begun t u (given_in new (Some (record { source = source; line = r.line })))
            rest)
            (sym (map-append (statement_in (with_table new)) statements (s ∷ [])))

-- ---- what a step makes of a row

pub some_line : (n : ℕ) → n ≢ 0 → nat_lt 0 n ≡ true
some_line zero some = absurd (some refl)
some_line (suc n) some = grind arith

pub goes_as : (t : Texts) (units : List KeptUnit) {limit : ℕ} (old new : Table) (given : Option Given)
    (source line : ℕ) (u : ListedUnit) (r : LineRow) (b : Bool) → AreSources t units limit old → Keeps old new
    → IsGiven old given → path_at (with_table new) source ≡ file_path t u r.file → line ≡ r.line
    → b ≡ goes_on (given_in new given) (path_at (with_table new) source) line
    → goes_on (given_in old given) (file_path t u r.file) r.line ≡ b
goes_as t units old new given source line u r b are keeps is_given path line_is told =
    ap (λ (g : Option PathLine). goes_on g (file_path t u r.file) r.line)
    (sym (same_given t units old new given are keeps is_given))
    ∙ ap (λ p. goes_on (given_in new given) p r.line) (sym path)
    ∙ ap (λ (n : ℕ). goes_on (given_in new given) (path_at (with_table new) source) n) (sym line_is)
    ∙ sym told

-- the same by the values of a step
pub as_read : (t : Texts) (u : ListedUnit) (old new : Table) (statements after : List Made) (given : Option Given)
    (r : LineRow) (rest : List LineRow) (source line address : ℕ) → line ≡ r.line → address ≡ r.address
    → after ≡ statements ++ (record { source = source; line = line; address = address }) ∷ []
    → GoesOnTo t u old statements given (r ∷ rest) new
    (statements ++ (record { source = source; line = r.line; address = r.address }) ∷ [])
    (Some (record { source = source; line = r.line })) rest
    → GoesOnTo t u old statements given (r ∷ rest) new after (Some (record { source = source; line = line })) rest
as_read t u old new statements after given r rest source line address line_is address_is after_is step =
    subst (λ (ss : List Made). GoesOnTo t u old statements given (r ∷ rest) new ss
    (Some (record { source = source; line = line })) rest) (sym after_is)
    (subst (λ (n : ℕ). GoesOnTo t u old statements given (r ∷ rest) new
    (statements ++ (record { source = source; line = line; address = n }) ∷ [])
    (Some (record { source = source; line = line })) rest) (sym address_is)
    (subst (λ (n : ℕ). GoesOnTo t u old statements given (r ∷ rest) new
    (statements ++ (record { source = source; line = n; address = r.address }) ∷ [])
    (Some (record { source = source; line = n })) rest) (sym line_is) step))

-- ---- one more of some

pub none_taken_of : {X : Type 0} (f : X → List Statement) (xs : List X) (ss : List Statement)
    → ss ≡ ss ++ flat_map f (take 0 xs)
none_taken_of f [] ss = sym (append_none ss)
none_taken_of f (x ∷ xs) ss = sym (append_none ss)

pub one_taken_of : {X : Type 0} (f : X → List Statement) (xs : List X) (k : ℕ) (x : X) (ss : List Statement)
    → slice_get xs k ≡ Some x
    → (ss ++ flat_map f (take k xs)) ++ f x ≡ ss ++ flat_map f (take (k + 1) xs)
one_taken_of {X} f xs k x ss there =
    append_assoc ss (flat_map f (take k xs)) (f x)
    ∙ ap (λ (zs : List Statement). ss ++ zs)
    (sym (ap (λ (ys : List X). flat_map f ys) (next_taken xs k x there) ∙ flat_map_more (take k xs)))
  where
    flat_map_more : (ys : List X) → flat_map f (ys ++ x ∷ []) ≡ flat_map f ys ++ f x
    flat_map_more [] = append_none (f x)
    flat_map_more (y ∷ ys) =
        ap (λ (zs : List Statement). f y ++ zs) (flat_map_more ys)
        ∙ sym (append_assoc (f y) (flat_map f ys) (f x))
