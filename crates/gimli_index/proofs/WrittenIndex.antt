-- The index that was written of the entries and the statements of a lookup.
use Rattle.std.proofs.Common.{◌≡◌, ◌≤◌, ◌∙◌, ℕ, List, [], ◌∷◌, ◌++◌, length, drop, map, None, Some, Result, Ok, Err}
use Rattle.std.proofs.Common.{refl, sym, ap, subst, arith}
use Rattle.std.specs.Prelude.{All, IfErr, OnOk, slice_get}
use Rattle.std.specs.List.{Contains}
use Rattle.std.specs.Option.{option_map, option_map_or, option_and_then}
use Rattle.std.proofs.lemmas.List.{length-map}
use Rattle.std.proofs.lemmas.Option.{get_or_from_slice_get, slice_get_within, slice_get-map}
use Rattle.gimli_index.specs.Contents.{Contents, Fits, HasColumn, entry_start, index_bytes, line_in, source_path}
use Rattle.gimli_index.specs.Contents.{statement_in}
use Rattle.gimli_index.specs.Files.{File, source_file}
use Rattle.gimli_index.specs.Found.{Given, AreContentsOf, IsAppended, IsIndexAppended, IsIndexOf, SayWhatIsFound}
use Rattle.gimli_index.specs.Found.{IsFileOfRow, SayWhereLinesBegin, code_of, unit_path}
use Rattle.gimli_index.specs.Lines.{addresses_of}
use Rattle.gimli_index.specs.Made.{EntriesAscend, HasOrder, IsMakeFault, contents_of}
use Rattle.gimli_index.specs.Meaning.{Start, place_at}
use Rattle.gimli_index.specs.Meaning.{Statement as StatementMeaning}
use Rattle.gimli_index.specs.Named.{HasNamed}
use Rattle.gimli_index.specs.Refused.{IsFoundFile, IsIndexFault}
use Rattle.gimli_index.specs.Short.{HasPathsOnce, IsShort}
use Rattle.gimli_index.specs.declared.contents.Contents.{Contents as Parts}
use Rattle.gimli_index.specs.declared.contents.Entry.{Entry}
use Rattle.gimli_index.specs.declared.contents.Source.{Source}
use Rattle.gimli_index.specs.declared.contents.SourceLine.{SourceLine}
use Rattle.gimli_index.specs.declared.contents.Statement.{Statement}
use Rattle.gimli_index.specs.declared.error.MakeError.{MakeError}
use Rattle.gimli_index.specs.declared.error.MakeError.TheVariants.{NotAscending, TooManyEntries, TooManySources}
use Rattle.gimli_index.specs.declared.error.MakeError.TheVariants.{TooManyStatements}
use Rattle.gimli_index.specs.declared.error.MakeError.TheVariants.{PathsTooLarge, IdentityTooLarge, LineTooLarge}
use Rattle.gimli_index.specs.declared.error.MakeError.TheVariants.{ColumnTooLarge, OutOfMemory}
use Rattle.gimli_index.specs.declared.place.NoPath.{NoPath}
use Rattle.gimli_index.specs.declared.place.NoPath.TheVariants.{Outside}
use Rattle.gimli_index.specs.declared.source_keys.SourceKey.{SourceKey}
use Rattle.gimli_index.specs.inside.Begun.{begun_in_units, statements_in}
use Rattle.gimli_index.specs.inside.Kept.{IsNamedWritten}
use Rattle.gimli_index.specs.inside.Table.{Entered, Table, starts_in, with_table}
use Rattle.gimli_index.proofs.BegunLines.{few_begun, say_where_lines_begin}
use Rattle.gimli_lookup.specs.Section.{KeptUnit}
use Rattle.gimli_index.proofs.Lists.{get_inside}
use Rattle.gimli_index.proofs.ReadBack.{read_back, starts_ascend}

pub with_ok : {T E : Type 0} (r : Result T E) (A P : Type 0) → OnOk r A → (A → P) → OnOk r P
with_ok (Ok x) A P a f = f a
with_ok (Err e) A P a f = tt

drop_front : (xs ys : List ℕ) → drop (length xs) (xs ++ ys) ≡ ys
drop_front [] [] = refl
drop_front [] (y ∷ ys) = refl
drop_front (x ∷ xs) ys = drop_front xs ys

index_of : (given : Given) (c : Contents) (rest : List ℕ) → AreContentsOf given c
    → IsIndexOf given (index_bytes c ++ rest)
index_of given c rest are =
    let read = read_back c rest are.fits in
    record {
      index = read.index;
      is_read = read.is_read;
      ascending = read.ascending are.ascending;
      ordered = read.ordered are.ordered;
      says = λ a. ap (place_at a) read.starts ∙ are.says a;
      lines = subst (SayWhereLinesBegin given.texts given.units) (sym read.statements) are.lines;
      files = subst (All (IsFileOfRow given.texts given.units)) (sym read.files) are.files;
      named = read.named are.named;
      short = subst IsShort (sym read.starts) are.short;
      address_size = read.address_size ∙ are.address_size;
      identity = read.identity ∙ are.identity;
    }

pub index_appended : (given : Given) {limit : ℕ} (old new : List ℕ) → IsAppended given limit old new
    → IsIndexAppended given old new
index_appended given old new appended rest =
    let left : drop (length old) new ≡ index_bytes appended.contents =
    ap (drop (length old)) appended.bytes ∙ drop_front old (index_bytes appended.contents) in
    subst (λ (bs : List ℕ). IsIndexOf given (bs ++ rest)) (sym left)
    (index_of given appended.contents rest appended.are)

-- ---- the contents that are made of a lookup

-- what an entry says, by the sources and the bytes of paths
abbrev start_by : List Source → List ℕ → Entry → Start
start_by sources paths e = record {
  address = e.address;
  place = option_and_then (λ (l : SourceLine). option_map (line_in paths l) (slice_get sources l.source)) e.place;
}

-- what a statement says, by the sources and the bytes of paths
abbrev statement_by : List Source → List ℕ → Statement → StatementMeaning
statement_by sources paths s = record {
  path = option_map_or (source_path paths) (slice_get sources s.source) (Err Outside);
  line = s.line;
  address = s.address;
}

-- what stands at a place is contained
contains_at : {X : Type 0} (xs : List X) (k : ℕ) (x : X) → slice_get xs k ≡ Some x → Contains xs x
contains_at xs k x there = (k, slice_get_within xs k x there, get_or_from_slice_get xs k x x there)

-- what holds of each value that a function makes
all_made : {X Y : Type 0} (P : Y → Type 0) (f : X → Y) (xs : List X)
    → ((k : ℕ) (x : X) → slice_get xs k ≡ Some x → P (f x)) → All P (map f xs)
all_made {X} P f xs each k d within =
    let known = get_inside xs k (omega (arith, within, length-map xs f)) in
    let made = slice_get-map f xs k ∙ ap (option_map f) known.1 in
    subst P (sym (get_or_from_slice_get (map f xs) k (f known.0) d made)) (each k known.0 known.1)

module _ (given : Given) {limit : ℕ} (table : Table) (entries : List Entry) (statements : List Statement) (c : Contents)
    (h : Entered given.texts given.units limit table entries None)
    (said : statements_in table statements ≡ begun_in_units given.texts given.units)
    (sources : c.sources ≡ table.sources)
    (entries_are : c.entries ≡ entries)
    (paths : c.paths ≡ table.paths.bytes) where
  same_starts : map (entry_start c) c.entries ≡ starts_in table entries
  same_starts =
      ap (λ (ss : List Source). map (start_by ss c.paths) c.entries) sources
      ∙ ap (λ (ps : List ℕ). map (start_by table.sources ps) c.entries) paths
      ∙ ap (map (start_by table.sources table.paths.bytes)) entries_are

  ascends : EntriesAscend c.entries
  ascends = subst EntriesAscend (sym entries_are) h.ascending

  says : SayWhatIsFound given.texts given.units (map (entry_start c) c.entries)
  says a = ap (place_at a) same_starts ∙ h.says a tt

  same_meanings : map (statement_in c) statements ≡ begun_in_units given.texts given.units
  same_meanings =
      ap (λ (ss : List Source). map (statement_by ss c.paths) statements) sources
      ∙ ap (λ (ps : List ℕ). map (statement_by table.sources ps) statements) paths
      ∙ said

  abbrev file_by : List ℕ → Source → File
  file_by ps s = record { unit = s.unit; path = source_path ps s }

  -- each source of the table is a file of a row
  file_of : (k : ℕ) (s : Source) → slice_get table.sources k ≡ Some s
      → IsFileOfRow given.texts given.units (file_by table.paths.bytes s)
  file_of k s there =
      let key = get_inside table.keys k (omega (arith, slice_get_within table.sources k s there, h.are.count)) in
      let of = h.are.each k key.0 s key.1 there in
      let found = each_key k key.0 key.1 in
      let f = found.0 in
      let at = found.1 in
      let both : Some at.unit ≡ Some of.unit = sym at.there ∙ ap (slice_get given.units) found.2 ∙ of.there in
      let same : of.unit ≡ at.unit = cc in (
        at.unit,
        contains_at given.units f.unit at.unit at.there,
        at.rows,
        contains_at at.unit.sequences at.sequence at.rows at.is_sequence,
        f.row,
        contains_at (code_of at.rows) at.index f.row at.stands,
        ap (λ (n : ℕ). let x : File = record { unit = n; path = source_path table.paths.bytes s } in x)
            (of.offset ∙ ap (λ (u : KeptUnit). u.unit.offset) same)
            ∙ ap (λ (p : Result (List ℕ) NoPath). let x : File = record { unit = at.unit.unit.offset; path = p } in x)
            (of.path f.row found.3 ∙ ap (λ (u : KeptUnit). unit_path given.texts u.unit f.row) same),
      )
    where
      each_key : (k : ℕ) (key : SourceKey) → slice_get table.keys k ≡ Some key → IsFoundFile given.units key
      each_key k key there =
          subst (IsFoundFile given.units) (get_or_from_slice_get table.keys k key key there)
          (h.are.files k key (slice_get_within table.keys k key there))

  -- where a source of the contents stands in the table
  from_table : (s : Source) → ((k : ℕ) × (slice_get c.sources k ≡ Some s))
      → (k : ℕ) × (slice_get table.sources k ≡ Some s)
  from_table s known = (known.0, ap (λ (ss : List Source). slice_get ss known.0) (sym sources) ∙ known.1)

  short : IsShort (map (entry_start c) c.entries)
  short = subst IsShort (sym same_starts) h.short

  module _ (d : Contents)
      (kept : (j : ℕ) (s : Source) → slice_get d.sources j ≡ Some s → (k : ℕ) × (slice_get c.sources k ≡ Some s))
      (same_paths : d.paths ≡ c.paths) where
    own_files : All (IsFileOfRow given.texts given.units) (map (source_file d) d.sources)
    own_files =
        subst (λ (ps : List ℕ). All (IsFileOfRow given.texts given.units) (map (file_by ps) d.sources))
        (sym (same_paths ∙ paths))
        (all_made (IsFileOfRow given.texts given.units) (file_by table.paths.bytes) d.sources (λ j s there.
        let at = from_table s (kept j s there) in
        file_of at.0 s at.1))

    own_paths : HasPathsOnce d
    own_paths = record {
      paths = table.paths.known;
      bytes = same_paths ∙ paths ∙ h.are.paths.bytes;
      distinct = h.are.paths.distinct;
      spans = λ j s there zero_is.
          let at = from_table s (kept j s there) in
          let key =
          get_inside table.keys at.0 (omega (arith, slice_get_within table.sources at.0 s at.1, h.are.count)) in
          (h.are.each at.0 key.0 s key.1 at.1).span zero_is;
    }

    pub within : length d.paths ≤ limit
    within = omega (arith, ap (λ (ps : List ℕ). length ps) (same_paths ∙ paths), h.are.paths.within)

    pub contents_are : Fits d → EntriesAscend d.entries → HasOrder d → HasNamed d
        → map (entry_start d) d.entries ≡ map (entry_start c) c.entries
        → ((path : List ℕ) (line : ℕ) → addresses_of path (map (statement_in d) d.statements) line
        ≡ addresses_of path (map (statement_in c) statements) line)
        → d.address_size ≡ given.size
        → d.identity ≡ given.name
        → AreContentsOf given d
    contents_are fits ascending ordered named starts lines size name = record {
      fits = fits;
      ascending = ascending;
      ordered = ordered;
      says = λ a. ap (place_at a) starts ∙ says a;
      lines = λ path line.
          lines path line
          ∙ ap (λ (ms : List StatementMeaning). addresses_of path ms line) same_meanings
          ∙ say_where_lines_begin given.texts given.units path line;
      files = own_files;
      named = named;
      short = subst IsShort (sym starts) short;
      paths_once = own_paths;
      address_size = size;
      identity = name;
    }

  -- why the contents aren't written
  pub contents_fault : (e : MakeError) → c.statements ≡ statements → c.identity ≡ given.name → IsMakeFault c e
      → IsIndexFault given limit e
  contents_fault NotAscending all name fault = absurd (fault ascends)
  contents_fault TooManyEntries all name fault = record {
    starts = map (entry_start c) c.entries;
    ascending = starts_ascend c ascends;
    says = says;
    short = short;
    many = omega (arith, fault, length-map c.entries (entry_start c));
  }
  contents_fault TooManyStatements all name fault =
      omega (
        arith,
        fault,
        ap (λ (ss : List Statement). length ss) all,
        length-map statements (statement_in (with_table table)),
        ap (λ (ss : List StatementMeaning). length ss) said,
        few_begun given.texts given.units,
      )
  contents_fault TooManySources all name fault =
      absurd (omega (arith, fault, h.are.few, ap (λ (ss : List Source). length ss) sources))
  contents_fault PathsTooLarge all name fault =
      absurd (omega (arith, fault, h.are.paths.few, ap (λ (ps : List ℕ). length ps) paths))
  contents_fault IdentityTooLarge all name fault = omega (arith, fault, ap (λ (ns : List ℕ). length ns) name)
  contents_fault LineTooLarge all name fault = absurd fault
  contents_fault ColumnTooLarge all name fault =
      absurd
      (fault (subst (λ (es : List Entry). All (λ (e : Entry). HasColumn e.place) es) (sym entries_are) h.columns))
  contents_fault OutOfMemory all name fault = tt

-- the contents that were written are those of the lookup
pub named_contents : (given : Given) {limit : ℕ} (table : Table) (entries : List Entry) (statements : List Statement)
    (parts : Parts) (old new : List ℕ)
    → Entered given.texts given.units limit table entries None
    → statements_in table statements ≡ begun_in_units given.texts given.units
    → parts.sources.now ≡ table.sources → parts.entries.now ≡ entries → parts.statements.now ≡ statements
    → parts.paths.now ≡ table.paths.bytes
    → parts.address_size ≡ given.size → parts.identity.now ≡ given.name
    → IsNamedWritten parts old new
    → IsAppended given limit old new
named_contents given table entries statements parts old new h said sources entries_are statements_are paths size name
    w =
    let c = contents_of parts [] in
    record {
      contents = w.contents;
      within =
          within given table entries statements c h said sources entries_are paths w.contents w.sources w.paths;
      bytes = w.bytes;
      are =
          contents_are given table entries statements c h said sources entries_are paths w.contents w.sources w.paths
          w.fits w.ascending w.ordered w.named w.starts
          (λ path line.
          w.lines path line
          ∙ ap (λ (ss : List Statement). addresses_of path (map (statement_in c) ss) line) statements_are)
          (w.address_size ∙ size) (w.identity ∙ name);
    }

pub on_fault : {T : Type 0} (r : Result T MakeError) (P Q : MakeError → Type 0) → ((e : MakeError) → P e → Q e)
    → IfErr r P → IfErr r Q
on_fault (Ok x) P Q f fault = tt
on_fault (Err e) P Q f fault = f e fault
