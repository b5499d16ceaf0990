-- The sources of an index in the making: they stay as more are added.
use Rattle.std.proofs.Common.{◌≡◌, ◌≢◌, ◌⊎◌, ℕ, zero, suc, ◌+◌, ◌<◌, ◌≤◌, Bool, true, false, List, [], ◌∷◌, ◌++◌}
use Rattle.std.proofs.Common.{length}
use Rattle.std.proofs.Common.{Option, None, ◌&&◌}
use Rattle.std.proofs.Common.{Some, Result, Ok, Err, refl, sym, ap, subst, ◌∙◌, inl, inr, arith, length-append}
use Rattle.std.proofs.Common.{if◌then◌else◌}
use Rattle.std.specs.Prelude.{map, min, slice_get, slice_index_or, nat_eq, All, bytes_eq}
use Rattle.std.specs.Option.{option_map, option_map_or}
use Rattle.std.proofs.lemmas.Bool.{eq-eqb, eqb-true, false≢true}
use Rattle.std.proofs.lemmas.Bool.Decides.{nat_tests}
use Rattle.std.proofs.lemmas.List.Elements.{All-push}
use Rattle.std.proofs.lemmas.List.Quantifiers.{all_pairs_push}
use Rattle.std.proofs.lemmas.Option.{slice_get_within}
use Rattle.std.proofs.lemmas.Slice.Eq.{bytes_eq-Decides}
use Rattle.gimli_line.specs.declared.run.row.LineRow.{LineRow}
use Rattle.gimli_lookup.specs.Paths.{row_path}
use Rattle.gimli_lookup.specs.Section.{KeptHeader, KeptUnit, ListedUnit}
use Rattle.gimli_lookup.specs.declared.path_error.PathError.{PathError}
use Rattle.gimli_lookup.specs.declared.section_lookup.CoveringRows.{CoveringRows}
use Rattle.gimli_index.specs.Contents.{line_in, path_at, source_path}
use Rattle.gimli_index.specs.Found.{is_one_path}
use Rattle.gimli_index.specs.Found.{found_place, path_by, path_said, row_place, unit_path}
use Rattle.gimli_lookup.specs.ProgramPaths.{Texts, unit_paths}
use Rattle.gimli_index.specs.Meaning.{Place, path_in}
use Rattle.gimli_index.specs.Refused.{AreFound, HasLongPaths, HasManyFiles, IsFoundFile, IsFoundPath}
use Rattle.gimli_index.specs.Short.{joined, IsSpanOf}
use Rattle.gimli_index.specs.declared.contents.Source.{Source}
use Rattle.gimli_index.specs.declared.contents.SourceLine.{SourceLine}
use Rattle.gimli_index.specs.declared.error.MakeError.{MakeError}
use Rattle.gimli_index.specs.declared.error.MakeError.TheVariants.{NotAscending, TooManyEntries, TooManySources}
use Rattle.gimli_index.specs.declared.error.MakeError.TheVariants.{TooManyStatements}
use Rattle.gimli_index.specs.declared.error.MakeError.TheVariants.{PathsTooLarge, IdentityTooLarge, LineTooLarge}
use Rattle.gimli_index.specs.declared.error.MakeError.TheVariants.{ColumnTooLarge, OutOfMemory}
use Rattle.gimli_index.specs.declared.place.NoPath.{NoPath}
use Rattle.gimli_index.specs.declared.place.NoPath.TheVariants.{Outside, Reason}
use Rattle.gimli_index.specs.declared.source_keys.SourceKey.{SourceKey}
use Rattle.gimli_index.specs.inside.Paths.{ArePaths, GoesOn, IsKept, IsSourceFault, PathList}
use Rattle.gimli_index.specs.inside.Table.{Table, AreSources, IsInside, IsSourceOf, IsTableFault, Keeps, SayTheSame}
use Rattle.gimli_index.specs.inside.Table.{key_of, no_table, place_in, with_table}
use Rattle.gimli_index.proofs.Lists.{append_none, get_inside, get_before, get_last, get_pushed, source_goes_on}
use Rattle.gimli_index.proofs.PathLists.{joined_push, none_are, one_span, span_read, span_stays}

-- what a unit says of a path is never that it is outside
said_inside : (r : Result (List ℕ) PathError) → path_said r ≡ Err Outside → ⊥
said_inside (Ok path) is = cc
said_inside (Err e) is = cc

pub unit_inside : (t : Texts) (u : ListedUnit) (r : LineRow) → unit_path t u r ≡ Err Outside → ⊥
unit_inside t u r = by_header u.header
  where
    by_header : (h : Option KeptHeader) → path_by t u.offset h r ≡ Err Outside → ⊥
    by_header None is = cc
    by_header (Some h) is = said_inside (row_path (unit_paths t u.offset h.meaning) r) is

-- ---- sources

-- some row of a file
abbrev row_of : ℕ → LineRow
row_of file = record {
  tombstone = false;
  address = 0;
  op_index = 0;
  file = file;
  line = 0;
  column = 0;
  is_stmt = false;
  basic_block = false;
  end_sequence = false;
  prologue_end = false;
  epilogue_begin = false;
  isa = 0;
  discriminator = 0;
}

source_inside : (t : Texts) (units : List KeptUnit) (paths : PathList) (key : SourceKey) (s : Source)
    → IsSourceOf t units paths key s
    → source_path paths.bytes s ≡ Err Outside → ⊥
source_inside t units paths key s of outside =
    unit_inside t of.unit.unit (row_of key.file) (sym (of.path (row_of key.file) refl) ∙ outside)

-- a span stays where paths go on
span_kept : (old new : List (List ℕ)) (path : List ℕ) (first : ℕ) (p : List ℕ) → (new ≡ old) ⊎ (new ≡ old ++ path ∷ [])
    → IsSpanOf old first p
    → IsSpanOf new first p
span_kept old new path first p (inl same) span =
    subst (λ (known : List (List ℕ)). IsSpanOf known first p) (sym same) span
span_kept old new path first p (inr more) span =
    subst (λ (known : List (List ℕ)). IsSpanOf known first p) (sym more) (span_stays old (path ∷ []) first p span)

-- a source is the same where the paths go on
source_stays : (t : Texts) (units : List KeptUnit) (old new : PathList) (path : List ℕ) (key : SourceKey) (s : Source)
    → GoesOn old.bytes new.bytes
    → (new.known ≡ old.known) ⊎ (new.known ≡ old.known ++ path ∷ []) → IsSourceOf t units old key s
    → IsSourceOf t units new key s
source_stays t units old new path key s bytes known of = record {
  unit = of.unit;
  there = of.there;
  offset = of.offset;
  path = λ r is.
      ap (λ (bs : List ℕ). source_path bs s) bytes.1
      ∙ source_goes_on old.bytes bytes.0 s (source_inside t units old key s of) ∙ of.path r is;
  span =
      λ is. let span = of.span is in (span.0, span_kept old.known new.known path s.first span.0 known span.1, span.2);
  empty = of.empty;
}

-- what paths are after a source was kept
kept_bytes : (limit : ℕ) (old new : PathList) (path : Result (List ℕ) NoPath) (s : Source) → IsKept limit old new path s
    → GoesOn old.bytes new.bytes
kept_bytes limit old new (Ok path) s kept = kept.1.bytes
kept_bytes limit old new (Err (Reason n)) s kept =
    ([], ap (λ (p : PathList). p.bytes) kept.4 ∙ sym (append_none old.bytes))
kept_bytes limit old new (Err Outside) s kept = absurd kept

-- the path of a row's file is that of the file
same_file : (t : Texts) (u : ListedUnit) (r s : LineRow) → r.file ≡ s.file → unit_path t u r ≡ unit_path t u s
same_file t u r s same = ap (λ (n : ℕ). unit_path t u (row_of n)) same

-- ---- one more source

module _ (t : Texts) (units : List KeptUnit) {limit : ℕ} (old : Table) (f : CoveringRows) (is_found : AreFound units f)
    (are : AreSources t units limit old) where
  abbrev key : SourceKey
  key = key_of f

  file_is : IsFoundFile units key
  file_is = (f, is_found, refl, refl)

  -- so many files are found, and one more
  pub many_files : All (λ k. k ≢ key) old.keys → 0xffff_ffff ≤ length old.sources → HasManyFiles units
  many_files absent many = record {
    files = old.keys ++ key ∷ [];
    found = All-push (IsFoundFile units) old.keys key are.files file_is;
    distinct = all_pairs_push (λ x y. x ≢ y) old.keys key are.distinct absent;
    many = omega (arith, many, are.count, length-append old.keys (key ∷ []));
  }

  module _ (u : KeptUnit) (there : slice_get units f.unit ≡ Some u) where
    place_is : found_place t units (Some f) ≡ Some (row_place t u.unit f.row)
    place_is = ap (option_map (λ (u : KeptUnit). row_place t u.unit f.row)) there

    -- the path of a row that is found is one that is found
    path_found : (path : List ℕ) → unit_path t u.unit f.row ≡ Ok path → IsFoundPath t units path
    path_found path is = (f, is_found, row_place t u.unit f.row, place_is, is)

    pub long_paths : (path : List ℕ) → unit_path t u.unit f.row ≡ Ok path → All (λ x. x ≢ path) old.paths.known
        → min limit 0xffff_ffff < length old.paths.bytes + length path + 1 → HasLongPaths t units limit
    long_paths path is absent long = record {
      paths = old.paths.known ++ path ∷ [];
      found = All-push (IsFoundPath t units) old.paths.known path are.found (path_found path is);
      distinct = all_pairs_push (λ x y. x ≢ y) old.paths.known path are.paths.distinct absent;
      long = omega (
        arith,
        long,
        ap (λ (bs : List ℕ). length bs) (joined_push old.paths.known path),
        length-append (joined old.paths.known) (path ++ 0 ∷ []),
        length-append path (0 ∷ []),
        ap (λ (bs : List ℕ). length bs) are.paths.bytes,
      );
    }

    -- why a path isn't kept
    pub path_fault : (path : Result (List ℕ) NoPath) (e : MakeError) → path ≡ unit_path t u.unit f.row
        → IsSourceFault limit old.paths path e
        → IsTableFault t units limit e
    path_fault (Ok path) PathsTooLarge is fault = long_paths path (sym is) fault.0 fault.1
    path_fault (Ok path) OutOfMemory is fault = tt
    path_fault (Ok path) NotAscending is fault = fault
    path_fault (Ok path) TooManyEntries is fault = fault
    path_fault (Ok path) TooManyStatements is fault = fault
    path_fault (Ok path) TooManySources is fault = absurd fault
    path_fault (Ok path) IdentityTooLarge is fault = fault
    path_fault (Ok path) LineTooLarge is fault = absurd fault
    path_fault (Ok path) ColumnTooLarge is fault = absurd fault
    path_fault (Err reason) e is fault = absurd fault

    module _ (new : PathList) (s : Source) where
      abbrev longer : Table
      longer = record { keys = old.keys ++ key ∷ []; sources = old.sources ++ s ∷ []; paths = new }

      -- the new paths
      paths_are : (path : Result (List ℕ) NoPath) → IsKept limit old.paths new path s → ArePaths limit new
      paths_are (Ok path) kept = kept.1.are
      paths_are (Err (Reason n)) kept = subst (ArePaths limit) (sym kept.4) are.paths
      paths_are (Err Outside) kept = absurd kept

      paths_found : (path : Result (List ℕ) NoPath) → path ≡ unit_path t u.unit f.row
          → IsKept limit old.paths new path s → All (IsFoundPath t units) new.known
      paths_found (Ok path) is kept = elim kept.1.known [
        | inl same ↦ subst (All (IsFoundPath t units)) (sym same) are.found
        | inr more ↦
            subst (All (IsFoundPath t units)) (sym more)
            (All-push (IsFoundPath t units) old.paths.known path are.found (path_found path (sym is)))
      ]
      paths_found (Err (Reason n)) is kept =
          subst (λ (p : PathList). All (IsFoundPath t units) p.known) (sym kept.4) are.found
      paths_found (Err Outside) is kept = absurd kept

      -- the source that was there
      earlier : (path : Result (List ℕ) NoPath) (key' : SourceKey) (s' : Source) → IsKept limit old.paths new path s
          → IsSourceOf t units old.paths key' s'
          → IsSourceOf t units new key' s'
      earlier (Ok path) key' s' kept of = source_stays t units old.paths new path key' s' kept.1.bytes kept.1.known of
      earlier (Err (Reason n)) key' s' kept of = subst (λ (p : PathList). IsSourceOf t units p key' s') (sym kept.4) of
      earlier (Err Outside) key' s' kept of = absurd kept

      -- what the path of the new one is
      reads : (path : Result (List ℕ) NoPath) → IsKept limit old.paths new path s → source_path new.bytes s ≡ path
      reads (Ok path) kept =
          ap (λ (n : ℕ). if nat_eq n 0 then path_in new.bytes s.first s.size else Err (Reason n)) kept.0
          ∙ ap (λ (n : ℕ). path_in new.bytes s.first n) kept.2 ∙ span_read new s.first path kept.1.are kept.1.span
      reads (Err (Reason n)) kept =
          let other : nat_eq s.reason 0 ≡ false = let some = kept.1 in grind (arith, nat_tests) in
          ap (λ (b : Bool). if b then path_in new.bytes s.first s.size else Err (Reason s.reason)) other
          ∙ ap (λ (m : ℕ). Err (Reason m)) kept.0
      reads (Err Outside) kept = absurd kept

      spans : (path : Result (List ℕ) NoPath) → IsKept limit old.paths new path s → s.reason ≡ 0
          → (path : List ℕ) × IsSpanOf new.known s.first path × (s.size ≡ length path)
      spans (Ok path) kept is = (path, kept.1.span, kept.2)
      spans (Err (Reason n)) kept is = absurd (kept.1 is)
      spans (Err Outside) kept is = absurd kept

      empties : (path : Result (List ℕ) NoPath) → IsKept limit old.paths new path s → s.reason ≢ 0
          → (s.first ≡ 0) × (s.size ≡ 0)
      empties (Ok path) kept is = absurd (is kept.0)
      empties (Err (Reason n)) kept is = (kept.2, kept.3)
      empties (Err Outside) kept is = absurd kept

      last : (path : Result (List ℕ) NoPath) → path ≡ unit_path t u.unit f.row → s.unit ≡ u.unit.offset
          → IsKept limit old.paths new path s
          → IsSourceOf t units new key s
      last path is offset kept = record {
        unit = u;
        there = there;
        offset = offset;
        path = λ r r_file. reads path kept ∙ is ∙ same_file t u.unit f.row r (sym r_file);
        span = spans path kept;
        empty = empties path kept;
      }

      pub one_more : (path : Result (List ℕ) NoPath) → path ≡ unit_path t u.unit f.row → s.unit ≡ u.unit.offset
          → IsKept limit old.paths new path s
          → All (λ k. k ≢ key) old.keys → length old.sources < 0xffff_ffff → AreSources t units limit longer
      one_more path is offset kept absent few = record {
        count = omega (arith, are.count, length-append old.keys (key ∷ []), length-append old.sources (s ∷ []));
        few = omega (arith, few, length-append old.sources (s ∷ []));
        each =
            λ k key' s' at_key at_source.
            at_both k key' s' (get_pushed old.keys key k key' at_key) (get_pushed old.sources s k s' at_source);
        distinct = all_pairs_push (λ x y. x ≢ y) old.keys key are.distinct absent;
        files = All-push (IsFoundFile units) old.keys key are.files file_is;
        paths = paths_are path kept;
        found = paths_found path is kept;
      }
        where
          at_both : (k : ℕ) (key' : SourceKey) (s' : Source)
              → (slice_get old.keys k ≡ Some key') ⊎ ((k ≡ length old.keys) × (key ≡ key'))
              → (slice_get old.sources k ≡ Some s') ⊎ ((k ≡ length old.sources) × (s ≡ s'))
              → IsSourceOf t units new key' s'
          at_both k key' s' (inl before) (inl also) = earlier path key' s' kept (are.each k key' s' before also)
          at_both k key' s' (inl before) (inr end) =
              absurd (omega (arith, slice_get_within old.keys k key' before, end.0, are.count))
          at_both k key' s' (inr end) (inl before) =
              absurd (omega (arith, slice_get_within old.sources k s' before, end.0, are.count))
          at_both k key' s' (inr end) (inr also) =
              subst (λ (q : SourceKey). IsSourceOf t units new q s') end.1
              (subst (λ (q : Source). IsSourceOf t units new key q) also.1 (last path is offset kept))

      pub more_kept : (path : Result (List ℕ) NoPath) → IsKept limit old.paths new path s → Keeps old longer
      more_kept path kept = record { sources = (s ∷ [], refl); paths = kept_bytes limit old.paths new path s kept }

      pub number_is : slice_get longer.keys (length old.sources) ≡ Some key
      number_is = ap (slice_get (old.keys ++ key ∷ [])) (sym are.count) ∙ get_last old.keys key

pub none_are_sources : (t : Texts) (units : List KeptUnit) {limit : ℕ} → AreSources t units limit no_table
none_are_sources t units = record {
  count = refl;
  few = omega arith;
  each = λ k key s there source. absurd cc;
  distinct = λ i j d lt within. absurd (omega (arith, within));
  files = λ k d within. absurd (omega (arith, within));
  paths = none_are;
  found = λ k d within. absurd (omega (arith, within));
}

-- ---- places

-- the path of a known source
pub path_known : (t : Texts) (units : List KeptUnit) {limit : ℕ} (table : Table) (number : ℕ) (key : SourceKey)
    (u : KeptUnit)
    (r : LineRow)
    → AreSources t units limit table
    → slice_get table.keys number ≡ Some key → slice_get units key.unit ≡ Some u → r.file ≡ key.file
    → path_at (with_table table) number ≡ unit_path t u.unit r
path_known t units table number key u r are there unit file =
    let known =
    get_inside table.sources number (omega (arith, slice_get_within table.keys number key there, are.count)) in
    let s = known.0 in
    let of = are.each number key s there known.1 in
    let both : Some of.unit ≡ Some u = sym of.there ∙ unit in
    let same : of.unit ≡ u = cc in
    ap (λ (o : Option Source). option_map_or (source_path table.paths.bytes) o (Err Outside)) known.1
    ∙ of.path r file ∙ ap (λ (v : KeptUnit). unit_path t v.unit r) same

-- the place of a line of a known source
pub place_known : (t : Texts) (units : List KeptUnit) {limit : ℕ} (table : Table) (l : SourceLine) (key : SourceKey)
    (u : KeptUnit)
    (r : LineRow)
    → AreSources t units limit table
    → slice_get table.keys l.source ≡ Some key → slice_get units key.unit ≡ Some u → r.file ≡ key.file
    → l.line ≡ r.line
    → l.column ≡ r.column → l.is_stmt ≡ r.is_stmt → l.prologue_end ≡ r.prologue_end
    → place_in table (Some l) ≡ Some (row_place t u.unit r)
place_known t units table l key u r are there unit file lines columns stmts ends =
    let known =
    get_inside table.sources l.source (omega (arith, slice_get_within table.keys l.source key there, are.count)) in
    let s = known.0 in
    let of = are.each l.source key s there known.1 in
    let both : Some of.unit ≡ Some u = sym of.there ∙ unit in
    let same : of.unit ≡ u = cc in
    ap (option_map (line_in table.paths.bytes l)) known.1
    ∙ ap (λ (p : Result (List ℕ) NoPath). Some (place_by p l.line l.column l.is_stmt l.prologue_end s.unit))
    (of.path r file ∙ ap (λ (v : KeptUnit). unit_path t v.unit r) same)
    ∙ ap (λ (n : ℕ). Some (place_by (unit_path t u.unit r) l.line l.column l.is_stmt l.prologue_end n))
    (of.offset ∙ ap (λ (v : KeptUnit). v.unit.offset) same)
    ∙ ap (λ (n : ℕ). Some (place_by (unit_path t u.unit r) n l.column l.is_stmt l.prologue_end u.unit.offset)) lines
    ∙ ap (λ (n : ℕ). Some (place_by (unit_path t u.unit r) r.line n l.is_stmt l.prologue_end u.unit.offset)) columns
    ∙ ap (λ (b : Bool). Some (place_by (unit_path t u.unit r) r.line r.column b l.prologue_end u.unit.offset)) stmts
    ∙ ap (λ (b : Bool). Some (place_by (unit_path t u.unit r) r.line r.column r.is_stmt b u.unit.offset)) ends
  where
    place_by : Result (List ℕ) NoPath → ℕ → ℕ → Bool → Bool → ℕ → Place
    place_by path line column is_stmt prologue_end unit = record {
      path = path;
      line = line;
      column = column;
      is_stmt = is_stmt;
      prologue_end = prologue_end;
      unit = unit;
    }

-- the path of a source stays where a table goes on
pub path_stays : (t : Texts) (units : List KeptUnit) {limit : ℕ} (old new : Table) (number : ℕ)
    → AreSources t units limit old → Keeps old new
    → number < length old.sources → path_at (with_table new) number ≡ path_at (with_table old) number
path_stays t units old new number are keeps inside =
    let source = get_inside old.sources number inside in
    let key = get_inside old.keys number (omega (arith, inside, are.count)) in
    let s = source.0 in
    let there : slice_get new.sources number
    ≡ Some s = ap (λ (ss : List Source). slice_get ss number) keeps.sources.1
    ∙ get_before old.sources keeps.sources.0 number s source.1 in
    let path : source_path new.paths.bytes s ≡ source_path old.paths.bytes s =
    ap (λ (ps : List ℕ). source_path ps s) keeps.paths.1
    ∙ source_goes_on old.paths.bytes keeps.paths.0 s
    (source_inside t units old.paths key.0 s (are.each number key.0 s key.1 source.1)) in
    ap (λ (o : Option Source). option_map_or (source_path new.paths.bytes) o (Err Outside)) there
    ∙ path
    ∙ ap (λ (o : Option Source). option_map_or (source_path old.paths.bytes) o (Err Outside)) (sym source.1)

-- two sources have one path where both begin at one place
pub one_path : (t : Texts) (units : List KeptUnit) {limit : ℕ} (table : Table) (m n : ℕ) (a b : Source)
    → AreSources t units limit table → slice_get table.sources m ≡ Some a → slice_get table.sources n ≡ Some b
    → (nat_eq a.reason 0 && nat_eq b.reason 0 && nat_eq a.first b.first && nat_eq a.size b.size)
    ≡ is_one_path (path_at (with_table table) m) (path_at (with_table table) n)
one_path t units table m n a b are one other =
    let key = get_inside table.keys m (omega (arith, slice_get_within table.sources m a one, are.count)) in
    let key' = get_inside table.keys n (omega (arith, slice_get_within table.sources n b other, are.count)) in
    let of = are.each m key.0 a key.1 one in
    let of' = are.each n key'.0 b key'.1 other in
    by_reasons (nat_eq a.reason 0) (nat_eq b.reason 0) refl refl of.span of'.span
    ∙ sym (ap (λ (o : Option Source). is_one_path (option_map_or (source_path table.paths.bytes) o (Err Outside))
    (path_at (with_table table) n)) one
    ∙ ap (λ (o : Option Source). is_one_path (source_path table.paths.bytes a)
    (option_map_or (source_path table.paths.bytes) o (Err Outside))) other)
  where
    Span : Source → Type 0
    Span s = s.reason ≡ 0 → (path : List ℕ) × IsSpanOf table.paths.known s.first path × (s.size ≡ length path)

    told : (x : Source) → nat_eq x.reason 0 ≡ true → Span x
        → (p : List ℕ) × (source_path table.paths.bytes x ≡ Ok p) × IsSpanOf table.paths.known x.first p
        × (x.size ≡ length p)
    told x zero_is span =
        let s = span (eqb-true x.reason 0 zero_is) in
        let p = s.0 in (
          p,
          ap (λ (b : Bool). if b then path_in table.paths.bytes x.first x.size else Err (Reason x.reason)) zero_is
              ∙ ap (λ (n : ℕ). path_in table.paths.bytes x.first n) s.2 ∙ span_read table.paths x.first p are.paths s.1,
          s.1,
          s.2,
        )

    untold : (x : Source) → nat_eq x.reason 0 ≡ false
        → source_path table.paths.bytes x ≡ Err (Reason x.reason)
    untold x some =
        ap (λ (b : Bool). if b then path_in table.paths.bytes x.first x.size else Err (Reason x.reason)) some

    truth : (x y : Bool) → (x ≡ true → y ≡ true) → (y ≡ true → x ≡ true) → x ≡ y
    truth true y there back = sym (there refl)
    truth false true there back = absurd (false≢true (back refl))
    truth false false there back = refl

    both : (x y : Bool) → (x && y) ≡ true → (x ≡ true) × (y ≡ true)
    both true true is = (refl, refl)
    both true false is = absurd (false≢true is)
    both false y is = absurd (false≢true is)

    by_reasons : (x y : Bool) → nat_eq a.reason 0 ≡ x → nat_eq b.reason 0 ≡ y → Span a → Span b
        → (x && y && nat_eq a.first b.first && nat_eq a.size b.size)
        ≡ is_one_path (source_path table.paths.bytes a) (source_path table.paths.bytes b)
    by_reasons false y here there span span' =
        sym (ap (λ (p : Result (List ℕ) NoPath). is_one_path p (source_path table.paths.bytes b)) (untold a here))
    by_reasons true false here there span span' =
        let first = told a here span in
        sym (ap (λ (p : Result (List ℕ) NoPath). is_one_path p (source_path table.paths.bytes b)) first.1
        ∙ ap (λ (p : Result (List ℕ) NoPath). is_one_path (Ok first.0) p) (untold b there))
    by_reasons true true here there span span' =
        let first = told a here span in
        let second = told b there span' in
        truth (nat_eq a.first b.first && nat_eq a.size b.size) (bytes_eq first.0 second.0)
        (λ is.
        let parts = both (nat_eq a.first b.first) (nat_eq a.size b.size) is in
        let paths : source_path table.paths.bytes a ≡ source_path table.paths.bytes b =
        ap (λ (x : Bool). if x then path_in table.paths.bytes a.first a.size else Err (Reason a.reason)) here
        ∙ ap (λ (n : ℕ). path_in table.paths.bytes n a.size) (eqb-true a.first b.first parts.0)
        ∙ ap (λ (n : ℕ). path_in table.paths.bytes b.first n) (eqb-true a.size b.size parts.1)
        ∙ sym
        (ap (λ (x : Bool). if x then path_in table.paths.bytes b.first b.size else Err (Reason b.reason)) there) in
        let same : Ok first.0 ≡ Ok second.0 = sym first.1 ∙ paths ∙ second.1 in
        let equal : first.0 ≡ second.0 = cc in
        (bytes_eq-Decides first.0 second.0).1 equal)
        (λ is.
        let equal = (bytes_eq-Decides first.0 second.0).0 is in
        let also : IsSpanOf table.paths.known b.first first.0 =
        subst (λ (p : List ℕ). IsSpanOf table.paths.known b.first p) (sym equal) second.2 in
        let firsts = one_span table.paths.known a.first b.first first.0 are.paths.distinct first.2 also in
        let sizes : a.size ≡ b.size = first.3 ∙ ap (λ (p : List ℕ). length p) equal ∙ sym second.3 in
        ap (λ (x : Bool). x && nat_eq a.size b.size) (eq-eqb a.first b.first firsts) ∙ eq-eqb a.size b.size sizes)
        ∙ sym (ap (λ (p : Result (List ℕ) NoPath). is_one_path p (source_path table.paths.bytes b)) first.1
        ∙ ap (λ (p : Result (List ℕ) NoPath). is_one_path (Ok first.0) p) second.1)

-- a place stays where a table goes on
pub place_stays : (t : Texts) (units : List KeptUnit) {limit : ℕ} (old new : Table) (place : Option SourceLine)
    → AreSources t units limit old → Keeps old new
    → IsInside old place → place_in new place ≡ place_in old place
place_stays t units old new None are keeps inside = refl
place_stays t units old new (Some l) are keeps inside =
    let source = get_inside old.sources l.source inside in
    let key = get_inside old.keys l.source (omega (arith, inside, are.count)) in
    let s = source.0 in
    let there : slice_get new.sources l.source
    ≡ Some s = ap (λ (ss : List Source). slice_get ss l.source) keeps.sources.1
    ∙ get_before old.sources keeps.sources.0 l.source s source.1 in
    let path : source_path new.paths.bytes s ≡ source_path old.paths.bytes s =
    ap (λ (ps : List ℕ). source_path ps s) keeps.paths.1
    ∙ source_goes_on old.paths.bytes keeps.paths.0 s
    (source_inside t units old.paths key.0 s (are.each l.source key.0 s key.1 source.1)) in
    ap (option_map (line_in new.paths.bytes l)) there
    ∙ ap (λ (p : Result (List ℕ) NoPath).
    let q : Place = record {
      path = p;
      line = l.line;
      column = l.column;
      is_stmt = l.is_stmt;
      prologue_end = l.prologue_end;
      unit = s.unit;
    } in
    Some q)
    path
    ∙ ap (option_map (line_in old.paths.bytes l)) (sym source.1)

pub inside_stays : (old new : Table) (place : Option SourceLine) → Keeps old new → IsInside old place
    → IsInside new place
inside_stays old new None keeps inside = inside
inside_stays old new (Some l) keeps inside =
    omega
    (arith, inside, ap (λ (ss : List Source). length ss) keeps.sources.1, length-append old.sources keeps.sources.0)

-- ---- two places

-- sources that say the same are the same
same_source : (t : Texts) (units : List KeptUnit) {limit : ℕ} (paths : PathList) (key key' : SourceKey) (s s' : Source)
    → ArePaths limit paths
    → IsSourceOf t units paths key s
    → IsSourceOf t units paths key' s' → s.unit ≡ s'.unit → source_path paths.bytes s ≡ source_path paths.bytes s'
    → s ≡ s'
same_source t units paths key key' s s' are of of' unit path = by_reasons (cases_zero s.reason) (cases_zero s'.reason)
  where
    cases_zero : (n : ℕ) → (n ≡ 0) ⊎ (n ≢ 0)
    cases_zero zero = inl refl
    cases_zero (suc n) = inr (λ e. omega (arith, e))

    from_parts : s.first ≡ s'.first → s.size ≡ s'.size → s.reason ≡ s'.reason → s ≡ s'
    from_parts first size reason =
        ap (λ (n : ℕ). let x : Source = record { unit = n; first = s.first; size = s.size; reason = s.reason } in x)
        unit
        ∙ ap (λ (n : ℕ). let x : Source = record { unit = s'.unit; first = n; size = s.size; reason = s.reason } in x)
        first
        ∙ ap (λ (n : ℕ). let x : Source = record { unit = s'.unit; first = s'.first; size = n; reason = s.reason } in x)
        size
        ∙ ap (λ (n : ℕ). let x : Source = record { unit = s'.unit; first = s'.first; size = s'.size; reason = n } in x)
        reason

    told : (x : Source) → x.reason ≡ 0 → (p : List ℕ) → IsSpanOf paths.known x.first p → x.size ≡ length p
        → source_path paths.bytes x ≡ Ok p
    told x zero_is p span size =
        ap (λ (n : ℕ). if nat_eq n 0 then path_in paths.bytes x.first x.size else Err (Reason n)) zero_is
        ∙ ap (λ (n : ℕ). path_in paths.bytes x.first n) size ∙ span_read paths x.first p are span

    untold : (x : Source) → x.reason ≢ 0 → source_path paths.bytes x ≡ Err (Reason x.reason)
    untold x some =
        let other : nat_eq x.reason 0 ≡ false = grind (arith, nat_tests) in
        ap (λ (b : Bool). if b then path_in paths.bytes x.first x.size else Err (Reason x.reason)) other

    by_reasons : (s.reason ≡ 0) ⊎ (s.reason ≢ 0) → (s'.reason ≡ 0) ⊎ (s'.reason ≢ 0) → s ≡ s'
    by_reasons (inl here) (inl there) =
        let one = of.span here in
        let other = of'.span there in
        let both : Ok one.0 ≡ Ok other.0 = sym (told s here one.0 one.1 one.2) ∙ path
        ∙ told s' there other.0 other.1 other.2 in
        let same : one.0 ≡ other.0 = cc in
        let also : IsSpanOf paths.known s'.first one.0 =
        subst (λ (p : List ℕ). IsSpanOf paths.known s'.first p) (sym same) other.1 in
        from_parts (one_span paths.known s.first s'.first one.0 are.distinct one.1 also)
        (one.2 ∙ ap (λ (p : List ℕ). length p) same ∙ sym other.2) (here ∙ sym there)
    by_reasons (inl here) (inr there) =
        let one = of.span here in
        let both : Ok one.0 ≡ Err (Reason s'.reason) = sym (told s here one.0 one.1 one.2) ∙ path ∙ untold s' there in
        absurd cc
    by_reasons (inr here) (inl there) =
        let other = of'.span there in
        let both : Err (Reason s.reason) ≡ Ok other.0 = sym (untold s here) ∙ path
        ∙ told s' there other.0 other.1 other.2 in
        absurd cc
    by_reasons (inr here) (inr there) =
        let one = of.empty here in
        let other = of'.empty there in
        let both : Err (Reason s.reason) ≡ Err (Reason s'.reason) = sym (untold s here) ∙ path ∙ untold s' there in
        let same : s.reason ≡ s'.reason = cc in
        from_parts (one.0 ∙ sym other.0) (one.1 ∙ sym other.1) same

-- places that are the same name the same source
pub say_the_same : (t : Texts) (units : List KeptUnit) {limit : ℕ} (table : Table) (x y : Option SourceLine)
    → AreSources t units limit table → IsInside table x
    → IsInside table y
    → place_in table x ≡ place_in table y → SayTheSame table.sources x y
say_the_same t units table None None are inside also same = tt
say_the_same t units table None (Some b) are inside also same =
    let known = get_inside table.sources b.source also in
    let some : None ≡ Some (line_in table.paths.bytes b known.0) = same
    ∙ ap (option_map (line_in table.paths.bytes b)) known.1 in
    absurd cc
say_the_same t units table (Some a) None are inside also same =
    let known = get_inside table.sources a.source inside in
    let some : None ≡ Some (line_in table.paths.bytes a known.0) = sym same
    ∙ ap (option_map (line_in table.paths.bytes a)) known.1 in
    absurd cc
say_the_same t units table (Some a) (Some b) are inside also same =
    let one = get_inside table.sources a.source inside in
    let other = get_inside table.sources b.source also in
    let key = get_inside table.keys a.source (omega (arith, inside, are.count)) in
    let key' = get_inside table.keys b.source (omega (arith, also, are.count)) in
    let both : Some (line_in table.paths.bytes a one.0) ≡ Some (line_in table.paths.bytes b other.0) =
    sym (ap (option_map (line_in table.paths.bytes a)) one.1) ∙ same
    ∙ ap (option_map (line_in table.paths.bytes b)) other.1 in
    let places : line_in table.paths.bytes a one.0 ≡ line_in table.paths.bytes b other.0 = cc in
    let sources =
    same_source t units table.paths key.0 key'.0 one.0 other.0 are.paths (are.each a.source key.0 one.0 key.1 one.1)
    (are.each b.source key'.0 other.0 key'.1 other.1)
    (ap (λ (p : Place). p.unit) places) (ap (λ (p : Place). p.path) places) in (
      one.1 ∙ ap (λ (s : Source). Some s) sources ∙ sym other.1,
      ap (λ (p : Place). p.line) places,
      ap (λ (p : Place). p.column) places,
      ap (λ (p : Place). p.is_stmt) places,
      ap (λ (p : Place). p.prologue_end) places,
    )

-- and those that name the same source say the same
pub same_places : (table : Table) (x y : Option SourceLine) → SayTheSame table.sources x y
    → place_in table x ≡ place_in table y
same_places table None None same = refl
same_places table None (Some b) same = absurd same
same_places table (Some a) None same = absurd same
same_places table (Some a) (Some b) same =
    ap (λ (o : Option Source). option_map (line_in table.paths.bytes a) o) same.0
    ∙ ap (λ (n : ℕ). place_by n a.column a.is_stmt a.prologue_end) same.1
    ∙ ap (λ (n : ℕ). place_by b.line n a.is_stmt a.prologue_end) same.2
    ∙ ap (λ (s : Bool). place_by b.line b.column s a.prologue_end) same.3
    ∙ ap (λ (s : Bool). place_by b.line b.column b.is_stmt s) same.4
  where
    place_by : ℕ → ℕ → Bool → Bool → Option Place
    place_by line column is_stmt prologue_end =
        option_map
        (line_in table.paths.bytes (record {
          source = b.source;
          line = line;
          column = column;
          is_stmt = is_stmt;
          prologue_end = prologue_end;
        }))
        (slice_get table.sources b.source)

-- ---- one more source, by its parts

pub listed_at : (units : List KeptUnit) (k : ℕ) (d : ListedUnit) (u : KeptUnit) → slice_get units k ≡ Some u
    → slice_index_or (map (λ (v : KeptUnit). v.unit) units) k d ≡ u.unit
listed_at [] k d u there = absurd cc
listed_at (v ∷ units) zero d u there = let same : v ≡ u = cc in ap (λ (w : KeptUnit). w.unit) same
listed_at (v ∷ units) (suc k) d u there = listed_at units k d u there

-- the table after one more source
module _ (t : Texts) (units : List KeptUnit) {limit : ℕ} (old inside : Table) (f : CoveringRows) (listed : ListedUnit)
    (new : PathList) (s : Source)
    (path : Result (List ℕ) NoPath) (new_keys : List SourceKey) (new_sources : List Source) (is : inside ≡ old)
    (is_found : AreFound units f)
    (are : AreSources t units limit old) (absent : All (λ k. k ≢ key_of f) old.keys) (within : f.unit < length units)
    (listed_is : listed ≡ slice_index_or (map (λ (v : KeptUnit). v.unit) units) f.unit listed)
    (path_is : path ≡ unit_path t listed f.row) where
  abbrev known : (u : KeptUnit) × (slice_get units f.unit ≡ Some u)
  known = get_inside units f.unit within

  unit_is : listed ≡ known.0.unit
  unit_is = listed_is ∙ listed_at units f.unit listed known.0 known.1

  path_of_unit : path ≡ unit_path t known.0.unit f.row
  path_of_unit = path_is ∙ ap (λ (v : ListedUnit). unit_path t v f.row) unit_is

  inside_are : AreSources t units limit inside
  inside_are = subst (AreSources t units limit) (sym is) are

  inside_absent : All (λ k. k ≢ key_of f) inside.keys
  inside_absent = subst (λ (o : Table). All (λ k. k ≢ key_of f) o.keys) (sym is) absent

  -- why it isn't taken in
  pub not_added : (e : MakeError) → IsSourceFault limit inside.paths path e → IsTableFault t units limit e
  not_added e fault = path_fault t units inside f is_found inside_are known.0 known.1 path e path_of_unit fault

  module _ (offset : s.unit ≡ listed.offset) (kept : IsKept limit inside.paths new path s)
      (few : length inside.sources < 0xffff_ffff)
      (keys_are : new_keys ≡ inside.keys ++ key_of f ∷ []) (sources_are : new_sources ≡ inside.sources ++ s ∷ []) where
    abbrev added : Table
    added = record { keys = new_keys; sources = new_sources; paths = new }

    abbrev plain : Table
    plain = record { keys = inside.keys ++ key_of f ∷ []; sources = inside.sources ++ s ∷ []; paths = new }

    added_is : added ≡ plain
    added_is =
        ap (λ (ks : List SourceKey). let o : Table = record { keys = ks; sources = new_sources; paths = new } in o)
        keys_are
        ∙ ap
        (λ (ss : List Source). let o : Table =
        record { keys = inside.keys ++ key_of f ∷ []; sources = ss; paths = new } in
        o)
        sources_are

    pub added_are : AreSources t units limit added
    added_are =
        subst (AreSources t units limit) (sym added_is)
        (one_more t units inside f is_found inside_are known.0 known.1 new s path path_of_unit
        (offset ∙ ap (λ (v : ListedUnit). v.offset) unit_is) kept
        inside_absent few)

    pub added_keeps : Keeps old added
    added_keeps =
        subst (λ (o : Table). Keeps o added) is
        (subst (Keeps inside) (sym added_is)
        (more_kept t units inside f is_found inside_are known.0 known.1 new s path kept))

    pub added_number : slice_get new_keys (length inside.sources) ≡ Some (key_of f)
    added_number =
        ap (λ (ks : List SourceKey). slice_get ks (length inside.sources)) keys_are
        ∙ number_is t units inside f is_found inside_are known.0 known.1 new s
