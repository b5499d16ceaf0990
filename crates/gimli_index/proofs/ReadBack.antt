-- What is written is read as what it was made of.
use Rattle.std.proofs.Common.{◌≡◌, ℕ, zero, suc, ◌+◌, ◌-◌, ◌*◌, ◌^◌, ◌<◌, ◌≤◌, Bool, true, false, if◌then◌else◌, nat_lt}
use Rattle.std.proofs.Common.{List, [], ◌∷◌, ◌++◌, length, take, fold, ◌%◌}
use Rattle.std.proofs.Common.{drop, map, Option, Some, None, Result, Ok, Err, slice_get, refl, sym, ap, ◌∙◌, arith}
use Rattle.std.proofs.Common.{length-append, append_assoc, inl, inr}
use Rattle.std.proofs.Common.{subst, nat_eq}
use Rattle.std.specs.Prelude.{All, flat_map, slice_range}
use Rattle.std.specs.Option.{option_map, option_map_or, option_and_then}
use Rattle.std.proofs.lemmas.Bool.{le-leb, lt-leb}
use Rattle.std.proofs.lemmas.Bool.Decides.{nat_tests}
use Rattle.std.proofs.lemmas.Option.{slice_get_cases, slice_get_within}
use Rattle.std.proofs.lemmas.List.Elements.{All-get_or}
use Rattle.gimli_core.specs.Numbers.{is_address_size, le_value}
use Rattle.gimli_index.specs.Header.{number_at}
use Rattle.gimli_index.specs.Header.{◌>>=◌}
use Rattle.gimli_index.specs.Header.{size_of, statement_size, highest_base, address_size_of, start_size_of, base_of}
use Rattle.gimli_index.specs.Header.{fields_at}
use Rattle.gimli_index.specs.Header.{header_at}
use Rattle.gimli_index.specs.Parts.{Index, index_at, parts_at, starts_offset, entries_offset}
use Rattle.gimli_index.specs.Parts.{statements_offset}
use Rattle.gimli_index.specs.Parts.{paths_offset, identity_offset, end_offset}
use Rattle.gimli_index.specs.declared.place.NoPath.{NoPath}
use Rattle.gimli_index.specs.declared.place.NoPath.TheVariants.{Outside, Reason}
use Rattle.gimli_index.specs.Files.{File, file_at, files_of, source_file}
use Rattle.gimli_index.specs.Meaning.{column_in, ends_prologue_in, is_statement_in, source_at, source_path_at}
use Rattle.gimli_index.specs.Meaning.{statement_at, statement_from, statements_of}
use Rattle.gimli_index.specs.Meaning.{Statement as StatementMeaning}
use Rattle.gimli_index.specs.Meaning.{AreAscending, Place, Start, path_in, entry_place, place_from, start_at}
use Rattle.gimli_index.specs.Meaning.{start_number, starts_of, path_of}
use Rattle.gimli_index.specs.Contents.{Contents, Fits, FitsLine, FitsPlace, FitsSource, IsNear, entry_start, line_place}
use Rattle.gimli_index.specs.Contents.{line_in, header_bytes, source_bytes, source_path, path_at, statement_bytes}
use Rattle.gimli_index.specs.Contents.{statement_in, FitsStatement}
use Rattle.gimli_index.specs.Contents.{column_word, start_bytes, line_bytes, place_bytes, entry_bytes, index_bytes}
use Rattle.gimli_index.specs.Contents.{le_bytes}
use Rattle.gimli_index.specs.Made.{EntriesAscend, HasOrder, SaysWhat}
use Rattle.gimli_index.specs.Named.{AreNamed, HasNamed, number_in}
use Rattle.gimli_index.specs.Order.{last_number, name_at, name_number, path_number, AreOrdered, IsOrdered}
use Rattle.gimli_index.specs.declared.contents.Entry.{Entry}
use Rattle.gimli_index.specs.declared.contents.Source.{Source}
use Rattle.gimli_index.specs.declared.contents.SourceLine.{SourceLine}
use Rattle.gimli_index.specs.declared.contents.Statement.{Statement}
use Rattle.gimli_index.specs.declared.error.IndexError.{IndexError}
use Rattle.gimli_index.specs.declared.error.IndexError.TheVariants.{AddressSize, Base, Cut, HeaderCut}
use Rattle.gimli_index.specs.declared.header.Header.{Header}
use Rattle.gimli_index.specs.declared.header.StartSize.{StartSize}
use Rattle.gimli_index.specs.declared.header.StartSize.TheVariants.{Four, Eight}
use Rattle.gimli_lookup.specs.Components.{components}
use Rattle.gimli_index.proofs.Lists.{at_index, get_inside}
use Rattle.gimli_index.proofs.Numerals.{number_read}
use Rattle.gimli_index.proofs.Slices.{element_at, elements_length, same_values, second_part, third_part, fourth_part}
use Rattle.gimli_index.proofs.Slices.{fifth_part, sixth_part, seventh_part}

-- ---- the header

abbrev header_of : Contents → Header
header_of c = record {
  address_size = c.address_size;
  start_size = c.start_size;
  base = c.base;
  starts = length c.entries;
  sources = length c.sources;
  paths = length c.paths;
  identity = length c.identity;
  statements = length c.statements;
}

abbrev with_fields : ℕ → StartSize → ℕ → ℕ → ℕ → ℕ → ℕ → ℕ → Header
with_fields address_size start_size base starts sources paths identity statements = record {
  address_size = address_size;
  start_size = start_size;
  base = base;
  starts = starts;
  sources = sources;
  paths = paths;
  identity = identity;
  statements = statements;
}

-- the header of its fields
abbrev fields_by : ℕ → ℕ → ℕ → ℕ → ℕ → ℕ → ℕ → ℕ → Result Header IndexError
fields_by address start base starts sources paths identity statements =
    address_size_of address >>= λ address_size.
    start_size_of start >>= λ start_size.
    base_of start_size base >>= λ base.
    Ok (with_fields address_size start_size base starts sources paths identity statements)

same_fields : (a a' b b' c c' d d' e e' g g' h h' i i' : ℕ) → a ≡ a' → b ≡ b' → c ≡ c' → d ≡ d' → e ≡ e' → g ≡ g'
    → h ≡ h' → i ≡ i'
    → fields_by a b c d e g h i ≡ fields_by a' b' c' d' e' g' h' i'
same_fields a a' b b' c c' d d' e e' g g' h h' i i' p q r s t u v w =
    ap (λ x. fields_by x b c d e g h i) p
    ∙ ap (λ x. fields_by a' x c d e g h i) q
    ∙ ap (λ x. fields_by a' b' x d e g h i) r
    ∙ ap (λ x. fields_by a' b' c' x e g h i) s
    ∙ ap (λ x. fields_by a' b' c' d' x g h i) t
    ∙ ap (λ x. fields_by a' b' c' d' e' x h i) u
    ∙ ap (λ x. fields_by a' b' c' d' e' g' x i) v
    ∙ ap (λ x. fields_by a' b' c' d' e' g' h' x) w

base_fits : (size : StartSize) (base : ℕ) → base ≤ highest_base size → base_of size base ≡ Ok base
base_fits size base low =
    let fits : nat_lt (highest_base size) base ≡ false = grind (arith, nat_tests) in
    ap (λ (b : Bool). if b then Err (Base base) else Ok base) fits

start_size_is : (size : StartSize) → start_size_of (size_of size) ≡ Ok size
start_size_is Four = refl
start_size_is Eight = refl

fields_are : (c : Contents) → Fits c
    → fields_by c.address_size (size_of c.start_size) c.base (length c.entries) (length c.sources) (length c.paths)
    (length c.identity) (length c.statements)
    ≡ Ok (header_of c)
fields_are c fits =
    let starts = length c.entries in
    let sources = length c.sources in
    let paths = length c.paths in
    let identity = length c.identity in
    let statements = length c.statements in
    let address : address_size_of c.address_size
    ≡ Ok c.address_size = ap (λ (b : Bool). if b then Ok c.address_size else Err (AddressSize c.address_size))
    fits.address_size in
    ap (λ (r : Result ℕ IndexError). r >>= λ address_size. start_size_of (size_of c.start_size) >>= λ start_size.
    base_of start_size c.base >>= λ base.
    Ok (with_fields address_size start_size base starts sources paths identity statements))
    address
    ∙ ap (λ (r : Result StartSize IndexError). r >>= λ start_size. base_of start_size c.base >>= λ base.
    Ok (with_fields c.address_size start_size base starts sources paths identity statements))
    (start_size_is c.start_size)
    ∙ ap (λ (r : Result ℕ IndexError). r >>= λ base.
    Ok (with_fields c.address_size c.start_size base starts sources paths identity statements))
    (base_fits c.start_size c.base fits.base)

size_fits : (size : StartSize) → size_of size < 256 ^ 2
size_fits Four = omega arith
size_fits Eight = omega arith

base_is_long : (size : StartSize) (base : ℕ) → base ≤ highest_base size → base < 256 ^ 8
base_is_long Four base low = omega arith
base_is_long Eight base low = omega arith

header_length : (c : Contents) → length (header_bytes c) ≡ 48
header_length c = refl

header_read : (c : Contents) (rest : List ℕ) → c.address_size < 2 ^ 16 → Fits c
    → header_at (header_bytes c ++ rest) ≡ Ok (header_of c)
header_read c rest half fits =
    let bytes = header_bytes c ++ rest in
    let enough : 48 ≤ length bytes = omega (arith, length-append (header_bytes c) rest, header_length c) in
    let whole : nat_lt (length bytes) 48 ≡ false = grind (arith, nat_tests) in
    ap (λ (b : Bool). if b then Err HeaderCut else fields_at bytes) whole
    ∙ same_fields _ c.address_size _ (size_of c.start_size) _ c.base _ (length c.entries) _ (length c.sources) _
    (length c.paths) _ (length c.identity) _
    (length c.statements)
    (number_read 2 c.address_size (omega arith))
    (number_read 2 (size_of c.start_size) (size_fits c.start_size))
    (number_read 8 c.base (base_is_long c.start_size c.base fits.base))
    (number_read 4 (length c.entries) (omega (arith, fits.counts.entries)))
    (number_read 4 (length c.sources) (omega (arith, fits.counts.sources)))
    (number_read 4 (length c.paths) (omega (arith, fits.counts.paths)))
    (number_read 4 (length c.identity) (omega (arith, fits.counts.identity)))
    (number_read 4 (length c.statements) (omega (arith, fits.counts.statements)))
    ∙ fields_are c fits

-- ---- the parts

abbrev sources_part : Contents → List ℕ
sources_part c = flat_map (source_bytes c.paths) c.sources

abbrev starts_part : Contents → List ℕ
starts_part c = flat_map (start_bytes c.start_size c.base) c.entries

abbrev entries_part : Contents → List ℕ
entries_part c = flat_map entry_bytes c.entries

abbrev statements_part : Contents → List ℕ
statements_part c = flat_map (statement_bytes c.start_size c.base) c.statements

-- the index that is read
abbrev index_of_contents : Contents → Index
index_of_contents c = record {
  address_size = c.address_size;
  start_size = c.start_size;
  base = c.base;
  starts = length c.entries;
  sources = length c.sources;
  statements = length c.statements;
  source_bytes = sources_part c;
  start_bytes = starts_part c;
  entry_bytes = entries_part c;
  statement_bytes = statements_part c;
  path_bytes = c.paths;
  identity = c.identity;
}

start_length : (size : StartSize) (base : ℕ) (e : Entry) → length (start_bytes size base e) ≡ size_of size
start_length Four base e = refl
start_length Eight base e = refl

entry_length : (e : Entry) → length (entry_bytes e) ≡ 12
entry_length e = of_place e.place
  where
    of_place : (place : Option SourceLine) → length (place_bytes place) ≡ 12
    of_place None = refl
    of_place (Some l) = refl

source_length : (paths : List ℕ) (s : Source) → length (source_bytes paths s) ≡ 24
source_length paths s = refl

statement_length : (size : StartSize) (base : ℕ) (s : Statement)
    → length (statement_bytes size base s) ≡ statement_size size
statement_length Four base s = refl
statement_length Eight base s = refl

-- seven parts and what follows them
grouped : (a b c d e g h r : List ℕ)
    → (a ++ b ++ c ++ d ++ e ++ g ++ h) ++ r ≡ a ++ (b ++ (c ++ (d ++ (e ++ (g ++ (h ++ r))))))
grouped a b c d e g h r =
    append_assoc (a ++ b ++ c ++ d ++ e ++ g) h r
    ∙ append_assoc (a ++ b ++ c ++ d ++ e) g (h ++ r)
    ∙ append_assoc (a ++ b ++ c ++ d) e (g ++ (h ++ r))
    ∙ append_assoc (a ++ b ++ c) d (e ++ (g ++ (h ++ r)))
    ∙ append_assoc (a ++ b) c (d ++ (e ++ (g ++ (h ++ r))))
    ∙ append_assoc a b (c ++ (d ++ (e ++ (g ++ (h ++ r)))))

abbrev index_of_parts : Contents → List ℕ → List ℕ → List ℕ → List ℕ → List ℕ → List ℕ → Index
index_of_parts c sources starts entries statements paths identity = record (index_of_contents c) {
  source_bytes = sources;
  start_bytes = starts;
  entry_bytes = entries;
  statement_bytes = statements;
  path_bytes = paths;
  identity = identity;
}

same_parts : (c : Contents) (a a' b b' d d' e e' g g' h h' : List ℕ) → a ≡ a' → b ≡ b' → d ≡ d' → e ≡ e' → g ≡ g'
    → h ≡ h'
    → index_of_parts c a b d e g h ≡ index_of_parts c a' b' d' e' g' h'
same_parts c a a' b b' d d' e e' g g' h h' p q r s t u =
    ap (λ x. index_of_parts c x b d e g h) p
    ∙ ap (λ x. index_of_parts c a' x d e g h) q
    ∙ ap (λ x. index_of_parts c a' b' x e g h) r
    ∙ ap (λ x. index_of_parts c a' b' d' x g h) s
    ∙ ap (λ x. index_of_parts c a' b' d' e' x h) t
    ∙ ap (λ x. index_of_parts c a' b' d' e' g' x) u

-- what follows the header
abbrev tail_of : Contents → List ℕ → List ℕ
tail_of c rest =
    sources_part c ++ (starts_part c ++ (entries_part c ++ (statements_part c ++ (c.paths ++ (c.identity ++ rest)))))

bytes_are : (c : Contents) (rest : List ℕ) → index_bytes c ++ rest ≡ header_bytes c ++ tail_of c rest
bytes_are c rest =
    grouped (header_bytes c) (sources_part c) (starts_part c) (entries_part c) (statements_part c) c.paths c.identity
    rest

part_lengths : (c : Contents)
    → (length (sources_part c) ≡ 24 * length c.sources)
    × (length (starts_part c) ≡ size_of c.start_size * length c.entries)
    × (length (entries_part c) ≡ 12 * length c.entries)
    × (length (statements_part c) ≡ statement_size c.start_size * length c.statements)
part_lengths c = (
  elements_length (source_bytes c.paths) 24 (source_length c.paths) c.sources,
  elements_length (start_bytes c.start_size c.base) (size_of c.start_size) (start_length c.start_size c.base) c.entries,
  elements_length entry_bytes 12 entry_length c.entries,
  elements_length (statement_bytes c.start_size c.base) (statement_size c.start_size)
      (statement_length c.start_size c.base) c.statements,
)

whole_length : (h s t e o p i r : List ℕ)
    → length (h ++ (s ++ (t ++ (e ++ (o ++ (p ++ (i ++ r)))))))
    ≡ length h + length s + length t + length e + length o + length p + length i + length r
whole_length h s t e o p i r = omega (
  arith,
  length-append h (s ++ (t ++ (e ++ (o ++ (p ++ (i ++ r)))))),
  length-append s (t ++ (e ++ (o ++ (p ++ (i ++ r))))),
  length-append t (e ++ (o ++ (p ++ (i ++ r)))),
  length-append e (o ++ (p ++ (i ++ r))),
  length-append o (p ++ (i ++ r)),
  length-append p (i ++ r),
  length-append i r,
)

-- the parts of these bytes, where a header of these numbers stands before them
parts_by : (c : Contents) (h s t e o p i r : List ℕ) → length h ≡ 48 → length s ≡ 24 * length c.sources
    → length t ≡ size_of c.start_size * length c.entries
    → length e ≡ 12 * length c.entries → length o ≡ statement_size c.start_size * length c.statements
    → length p ≡ length c.paths
    → length i ≡ length c.identity
    → parts_at (h ++ (s ++ (t ++ (e ++ (o ++ (p ++ (i ++ r))))))) (header_of c) ≡ Ok (index_of_parts c s t e o p i)
parts_by c h s t e o p i r in_header in_sources in_starts in_entries in_statements in_paths in_identity =
    let header = header_of c in
    let flat : List ℕ = h ++ (s ++ (t ++ (e ++ (o ++ (p ++ (i ++ r)))))) in
    let all = whole_length h s t e o p i r in
    let enough : end_offset header ≤ length flat = omega (arith, all) in
    let whole : nat_lt (length flat) (end_offset header) ≡ false = grind (arith, nat_tests) in
    ap (λ (b : Bool).
    if b then Err Cut
    else Ok (index_of_parts c (slice_range flat 48 (starts_offset header))
    (slice_range flat (starts_offset header) (entries_offset header))
    (slice_range flat (entries_offset header) (statements_offset header))
    (slice_range flat (statements_offset header) (paths_offset header))
    (slice_range flat (paths_offset header) (identity_offset header))
    (slice_range flat (identity_offset header) (end_offset header))))
    whole
    ∙ ap (λ (index : Index). Ok index)
    (same_parts c (slice_range flat 48 (starts_offset header)) s
    (slice_range flat (starts_offset header) (entries_offset header)) t
    (slice_range flat (entries_offset header) (statements_offset header)) e
    (slice_range flat (statements_offset header) (paths_offset header)) o
    (slice_range flat (paths_offset header) (identity_offset header)) p
    (slice_range flat (identity_offset header) (end_offset header)) i
    (second_part h s (t ++ (e ++ (o ++ (p ++ (i ++ r))))) 48 (starts_offset header) (omega arith) (omega arith))
    (third_part h s t (e ++ (o ++ (p ++ (i ++ r)))) (starts_offset header) (entries_offset header) (omega arith)
    (omega arith))
    (fourth_part h s t e (o ++ (p ++ (i ++ r))) (entries_offset header) (statements_offset header) (omega arith)
    (omega arith))
    (fifth_part h s t e o (p ++ (i ++ r)) (statements_offset header) (paths_offset header) (omega arith) (omega arith))
    (sixth_part h s t e o p (i ++ r) (paths_offset header) (identity_offset header) (omega arith) (omega arith))
    (seventh_part h s t e o p i r (identity_offset header) (end_offset header) (omega arith) (omega arith)))

parts_read : (c : Contents) (rest : List ℕ)
    → parts_at (header_bytes c ++ tail_of c rest) (header_of c) ≡ Ok (index_of_contents c)
parts_read c rest =
    let lengths = part_lengths c in
    parts_by c (header_bytes c) (sources_part c) (starts_part c) (entries_part c) (statements_part c) c.paths c.identity
    rest
    (header_length c) lengths.0 lengths.1
    lengths.2 lengths.3 refl refl

-- ---- the starts

-- a start of 4 bytes, and one of 8
start_read : (size : StartSize) (base n : ℕ) (rest : List ℕ) → n < 256 ^ size_of size
    → le_value (take (size_of size) (le_bytes (size_of size) n ++ rest)) ≡ n
start_read Four base n rest fits = number_read 4 n fits
start_read Eight base n rest fits = number_read 8 n fits

start_number_read : (c : Contents) → (i : ℕ) (e : Entry) → slice_get c.entries i ≡ Some e
    → IsNear c.start_size c.base e.address
    → start_number (index_of_contents c) i ≡ e.address - c.base
start_number_read c i e there fits =
    let size = size_of c.start_size in
    let here =
    element_at (start_bytes c.start_size c.base) size (start_length c.start_size c.base) c.entries i e there in
    let near : e.address - c.base < 256 ^ size = omega (arith, fits.0, fits.1) in
    ap (λ bytes. le_value (take size bytes)) here.1 ∙ start_read c.start_size c.base (e.address - c.base) here.0 near

-- the word of a column
word_fits : (l : SourceLine) → l.column < 2 ^ 30 → column_word l < 2 ^ 32
word_fits l low = by_flags l.is_stmt l.prologue_end
  where
    by_flags : (b e : Bool) → l.column + (if b then 2 ^ 31 else 0) + (if e then 2 ^ 30 else 0) < 2 ^ 32
    by_flags true true = omega (arith, low)
    by_flags true false = omega (arith, low)
    by_flags false true = omega (arith, low)
    by_flags false false = omega (arith, low)

column_read : (l : SourceLine) → l.column < 2 ^ 30 → column_in (column_word l) ≡ l.column
column_read l low = by_flags l.is_stmt l.prologue_end
  where
    by_flags : (b e : Bool)
        → (l.column + (if b then 2 ^ 31 else 0) + (if e then 2 ^ 30 else 0)) % 2 ^ 30 ≡ l.column
    by_flags true true = omega (arith, low)
    by_flags true false = omega (arith, low)
    by_flags false true = omega (arith, low)
    by_flags false false = omega (arith, low)

statement_read : (l : SourceLine) → l.column < 2 ^ 30 → is_statement_in (column_word l) ≡ l.is_stmt
statement_read l low = by_flags l.is_stmt l.prologue_end
  where
    by_flags : (b e : Bool)
        → is_statement_in (l.column + (if b then 2 ^ 31 else 0) + (if e then 2 ^ 30 else 0)) ≡ b
    by_flags true true = le-leb (2 ^ 31) (l.column + 2 ^ 31 + 2 ^ 30) (omega arith)
    by_flags true false = le-leb (2 ^ 31) (l.column + 2 ^ 31 + 0) (omega arith)
    by_flags false true = lt-leb (2 ^ 31) (l.column + 0 + 2 ^ 30) (omega (arith, low))
    by_flags false false = lt-leb (2 ^ 31) (l.column + 0 + 0) (omega (arith, low))

prologue_read : (l : SourceLine) → l.column < 2 ^ 30 → ends_prologue_in (column_word l) ≡ l.prologue_end
prologue_read l low = by_flags l.is_stmt l.prologue_end
  where
    by_flags : (b e : Bool)
        → ends_prologue_in (l.column + (if b then 2 ^ 31 else 0) + (if e then 2 ^ 30 else 0)) ≡ e
    by_flags true true = le-leb (2 ^ 30) ((l.column + 2 ^ 31 + 2 ^ 30) % 2 ^ 31) (omega (arith, low))
    by_flags true false = lt-leb (2 ^ 30) ((l.column + 2 ^ 31 + 0) % 2 ^ 31) (omega (arith, low))
    by_flags false true = le-leb (2 ^ 30) ((l.column + 0 + 2 ^ 30) % 2 ^ 31) (omega (arith, low))
    by_flags false false = lt-leb (2 ^ 30) ((l.column + 0 + 0) % 2 ^ 31) (omega (arith, low))

-- the number of a name has 31 bits
number_few : (name : List ℕ) (n : ℕ) → n < 2 ^ 31 → fold (λ n byte. (n * 31 + byte) % 2 ^ 31) n name < 2 ^ 31
number_few [] n few = few
number_few (byte ∷ name) n few = number_few name ((n * 31 + byte) % 2 ^ 31) (omega arith)

last_few : (names : List (List ℕ)) → last_number names < 2 ^ 31
last_few [] = omega arith
last_few (name ∷ names) = number_few name 0 (omega arith)

pub path_number_few : (path : Result (List ℕ) NoPath) → path_number path < 2 ^ 31
path_number_few (Ok path) = last_few (components path)
path_number_few (Err e) = omega arith

-- the path of a source is read as what it was
path_read : (paths : List ℕ) (s : Source) (more : List ℕ) → FitsSource s
    → path_of paths (source_bytes paths s ++ more) ≡ source_path paths s
path_read paths s more fits =
    let first : number_at 4 8 (source_bytes paths s ++ more)
    ≡ s.first = number_read 4 s.first (omega (arith, fits.1)) in
    let size : number_at 4 12 (source_bytes paths s ++ more)
    ≡ s.size = number_read 4 s.size (omega (arith, fits.2)) in
    let reason : number_at 4 16 (source_bytes paths s ++ more)
    ≡ s.reason = number_read 4 s.reason (omega (arith, fits.3)) in
    ap
    (λ n. by_numbers n (number_at 4 8 (source_bytes paths s ++ more)) (number_at 4 12 (source_bytes paths s ++ more)))
    reason
    ∙ ap (λ n. by_numbers s.reason n (number_at 4 12 (source_bytes paths s ++ more))) first
    ∙ ap (λ n. by_numbers s.reason s.first n) size
  where
    by_numbers : ℕ → ℕ → ℕ → Result (List ℕ) NoPath
    by_numbers reason first size = if nat_eq reason 0 then path_in paths first size else Err (Reason reason)

-- and so are its unit and the number of its name
unit_read : (paths : List ℕ) (s : Source) (more : List ℕ) → FitsSource s
    → number_at 8 0 (source_bytes paths s ++ more) ≡ s.unit
unit_read paths s more fits = number_read 8 s.unit (omega (arith, fits.0))

name_read : (paths : List ℕ) (s : Source) (more : List ℕ)
    → number_at 4 20 (source_bytes paths s ++ more) ≡ path_number (source_path paths s)
name_read paths s more =
    number_read 4 (path_number (source_path paths s)) (omega (arith, path_number_few (source_path paths s)))

-- a source is read as what it was
source_read : (paths : List ℕ) (l : SourceLine) (s : Source) (rest more : List ℕ) → FitsLine l → FitsSource s
    → place_from paths (line_bytes l ++ rest) (source_bytes paths s ++ more) ≡ line_in paths l s
source_read paths l s rest more fits source_fits =
    let line : number_at 4 4 (line_bytes l ++ rest) ≡ l.line = number_read 4 l.line (omega (arith, fits.1)) in
    let word : number_at 4 8 (line_bytes l ++ rest)
    ≡ column_word l = number_read 4 (column_word l) (word_fits l fits.2) in
    let bytes = source_bytes paths s ++ more in
    ap (λ n. with_word n (number_at 4 8 (line_bytes l ++ rest)) (path_of paths bytes) (number_at 8 0 bytes)) line
    ∙ ap (λ n. with_word l.line n (path_of paths bytes) (number_at 8 0 bytes)) word
    ∙ ap (λ path. with_word l.line (column_word l) path (number_at 8 0 bytes)) (path_read paths s more source_fits)
    ∙ ap (λ n. with_word l.line (column_word l) (source_path paths s) n) (unit_read paths s more source_fits)
    ∙ ap (λ n. with_flags n (is_statement_in (column_word l)) (ends_prologue_in (column_word l)))
    (column_read l fits.2)
    ∙ ap (λ b. with_flags l.column b (ends_prologue_in (column_word l))) (statement_read l fits.2)
    ∙ ap (λ b. with_flags l.column l.is_stmt b) (prologue_read l fits.2)
  where
    with_word : ℕ → ℕ → Result (List ℕ) NoPath → ℕ → Place
    with_word line word path unit = record {
      path = path;
      line = line;
      column = column_in word;
      is_stmt = is_statement_in word;
      prologue_end = ends_prologue_in word;
      unit = unit;
    }

    with_flags : ℕ → Bool → Bool → Place
    with_flags column is_stmt prologue_end = record {
      path = source_path paths s;
      line = l.line;
      column = column;
      is_stmt = is_stmt;
      prologue_end = prologue_end;
      unit = s.unit;
    }

-- the place of a line, by the source that its number names
place_read : (c : Contents) (l : SourceLine) (rest : List ℕ) → FitsLine l → All FitsSource c.sources
    → entry_place (index_of_contents c) (line_bytes l ++ rest) ≡ line_place c l
place_read c l rest fits sources =
    let named : number_at 4 0 (line_bytes l ++ rest) ≡ l.source = number_read 4 l.source (omega (arith, fits.0)) in
    ap (λ n. by_number n) named ∙ elim ((slice_get_cases c.sources l.source).1) [
      | inl found ↦
          let s = found.0 in
          let inside : nat_lt l.source (length c.sources) ≡ true = let within = found.1 in grind (arith, nat_tests) in
          let here = element_at (source_bytes c.paths) 24 (source_length c.paths) c.sources l.source s found.2 in
          let source_fits : FitsSource s =
          subst (λ (x : Source). FitsSource x) found.3
          (All-get_or FitsSource c.sources l.source s found.1 sources) in
          ap
          (λ (b : Bool). if b
          then Some (place_from c.paths (line_bytes l ++ rest) (drop (24 * l.source) (sources_part c))) else None)
          inside
          ∙ ap (λ bytes. Some (place_from c.paths (line_bytes l ++ rest) bytes)) here.1
          ∙ ap Some (source_read c.paths l s rest here.0 fits source_fits)
          ∙ sym (ap (λ o. option_map (line_in c.paths l) o) found.2)
      | inr past ↦
          let outside : nat_lt l.source (length c.sources) ≡ false = let beyond = past.0 in grind (arith, nat_tests) in
          ap
          (λ (b : Bool). if b
          then Some (place_from c.paths (line_bytes l ++ rest) (drop (24 * l.source) (sources_part c))) else None)
          outside
          ∙ sym (ap (λ o. option_map (line_in c.paths l) o) past.1)
    ]
  where
    by_number : ℕ → Option Place
    by_number n =
        if nat_lt n (length c.sources)
        then Some (place_from c.paths (line_bytes l ++ rest) (drop (24 * n) (sources_part c))) else None

-- a gap names no source
gap_read : (c : Contents) (rest : List ℕ) → length c.sources < 2 ^ 32
    → entry_place (index_of_contents c) (place_bytes None ++ rest) ≡ None
gap_read c rest few =
    let outside : nat_lt 0xffff_ffff (length c.sources) ≡ false = grind (arith, nat_tests) in
    ap
    (λ (b : Bool). if b
    then Some (place_from c.paths (place_bytes None ++ rest) (drop (24 * 0xffff_ffff) (sources_part c))) else None)
    outside

entry_read : (c : Contents) (place : Option SourceLine) (rest : List ℕ) → FitsPlace place → Fits c
    → entry_place (index_of_contents c) (place_bytes place ++ rest) ≡ option_and_then (line_place c) place
entry_read c None rest place fits = gap_read c rest fits.counts.sources
entry_read c (Some l) rest place fits = place_read c l rest place fits.sources

start_is : (c : Contents) → Fits c → (i : ℕ) (e : Entry) → slice_get c.entries i ≡ Some e
    → start_at (index_of_contents c) i ≡ entry_start c e
start_is c fits i e there =
    let near = at_index (λ (x : Entry). IsNear c.start_size c.base x.address) c.entries i e there fits.near in
    let place_fits = at_index (λ (x : Entry). FitsPlace x.place) c.entries i e there fits.places in
    let number = start_number_read c i e there near in
    let address : c.base + start_number (index_of_contents c) i ≡ e.address = omega (arith, number, near.0) in
    let here = element_at entry_bytes 12 entry_length c.entries i e there in
    let place : entry_place (index_of_contents c) (drop (12 * i) (entries_part c))
    ≡ option_and_then (line_place c) e.place =
    ap (entry_place (index_of_contents c)) here.1 ∙ entry_read c e.place here.0 place_fits fits in
    ap (λ n. record { address = n; place = entry_place (index_of_contents c) (drop (12 * i) (entries_part c)) }) address
    ∙ ap (λ p. record { address = e.address; place = p }) place

small_address : (n : ℕ) → is_address_size n ≡ true → n < 2 ^ 16
small_address n is = grind (arith, nat_tests)

-- the element that a value was made of
made_of : {X Y : Type 0} (g : X → Y) (xs : List X) (i : ℕ) (y : Y) → slice_get (map g xs) i ≡ Some y
    → (x : X) × (slice_get xs i ≡ Some x) × (y ≡ g x)
made_of g [] i y there = absurd cc
made_of g (x ∷ xs) zero y there = let same : y ≡ g x = cc in (x, refl, same)
made_of g (x ∷ xs) (suc i) y there = made_of g xs i y there

pub starts_ascend : (c : Contents) → EntriesAscend c.entries → AreAscending (map (entry_start c) c.entries)
starts_ascend c ascend i j x y lt first second =
    let one = made_of (entry_start c) c.entries i x first in
    let other = made_of (entry_start c) c.entries j y second in
    omega (
      arith,
      ap (λ (s : Start). s.address) one.2,
      ap (λ (s : Start). s.address) other.2,
      ascend i j one.0 other.0 lt one.1 other.1,
    )

starts_are : (c : Contents) → Fits c → starts_of (index_of_contents c) ≡ map (entry_start c) c.entries
starts_are c fits = same_values (start_at (index_of_contents c)) (entry_start c) c.entries 0 (λ i e there.
    let same : 0 + i ≡ i = omega arith in
    ap (start_at (index_of_contents c)) same ∙ start_is c fits i e there)

index_read : (c : Contents) (rest : List ℕ) → Fits c
    → index_at (header_bytes c ++ tail_of c rest) ≡ Ok (index_of_contents c)
index_read c rest fits =
    let bytes = header_bytes c ++ tail_of c rest in
    ap (λ (r : Result Header IndexError). r >>= λ h. parts_at bytes h)
    (header_read c (tail_of c rest) (small_address c.address_size fits.address_size) fits)
    ∙ parts_read c rest

-- ---- the statements

-- a source that is there
source_here : (c : Contents) (k : ℕ) (s : Source) → slice_get c.sources k ≡ Some s
    → (more : List ℕ) × (source_at (index_of_contents c) k ≡ source_bytes c.paths s ++ more)
source_here c k s there = element_at (source_bytes c.paths) 24 (source_length c.paths) c.sources k s there

-- the path of a source, by its number
path_at_read : (c : Contents) (k : ℕ) → Fits c → source_path_at (index_of_contents c) k ≡ path_at c k
path_at_read c k fits = elim ((slice_get_cases c.sources k).1) [
  | inl found ↦
      let s = found.0 in
      let inside : nat_lt k (length c.sources) ≡ true = let within = found.1 in grind (arith, nat_tests) in
      let here = source_here c k s found.2 in
      let bytes = source_at (index_of_contents c) k in
      ap (λ (b : Bool). if b then path_of c.paths bytes else Err Outside) inside
      ∙ ap (path_of c.paths) here.1
      ∙ path_read c.paths s here.0 (at_index FitsSource c.sources k s found.2 fits.sources)
      ∙ sym (ap (λ o. option_map_or (source_path c.paths) o (Err Outside)) found.2)
  | inr past ↦
      let outside : nat_lt k (length c.sources) ≡ false = let beyond = past.0 in grind (arith, nat_tests) in
      let bytes = source_at (index_of_contents c) k in
      ap (λ (b : Bool). if b then path_of c.paths bytes else Err Outside) outside
      ∙ sym (ap (λ o. option_map_or (source_path c.paths) o (Err Outside)) past.1)
]

-- the numbers of a statement fit
source_fits : (size : StartSize) (base : ℕ) (s : Statement) → FitsStatement size base s → s.source < 2 ^ 32
source_fits size base s fits = fits.0

line_fits : (size : StartSize) (base : ℕ) (s : Statement) → FitsStatement size base s → s.line < 2 ^ 32
line_fits size base s fits = fits.1

address_low : (size : StartSize) (base : ℕ) (s : Statement) → FitsStatement size base s → base ≤ s.address
address_low size base s fits = fits.2.0

address_fits : (size : StartSize) (base : ℕ) (s : Statement) → FitsStatement size base s
    → s.address - base < 256 ^ size_of size
address_fits size base s fits = omega (arith, fits.2.0, fits.2.1)

-- a statement's address is read as far as it is above the base
address_read : (size : StartSize) (base : ℕ) (s : Statement) (rest : List ℕ) → s.address - base < 256 ^ size_of size
    → number_at (size_of size) 8 (statement_bytes size base s ++ rest) ≡ s.address - base
address_read Four base s rest fits = number_read 4 (s.address - base) fits
address_read Eight base s rest fits = number_read 8 (s.address - base) fits

source_number_read : (size : StartSize) (base : ℕ) (s : Statement) (rest : List ℕ) → s.source < 256 ^ 4
    → number_at 4 0 (statement_bytes size base s ++ rest) ≡ s.source
source_number_read size base s rest fits = number_read 4 s.source fits

line_number_read : (size : StartSize) (base : ℕ) (s : Statement) (rest : List ℕ) → s.line < 256 ^ 4
    → number_at 4 4 (statement_bytes size base s ++ rest) ≡ s.line
line_number_read size base s rest fits = number_read 4 s.line fits

statement_is : (c : Contents) → Fits c → (i : ℕ) (s : Statement) → slice_get c.statements i ≡ Some s
    → statement_at (index_of_contents c) i ≡ statement_in c s
statement_is c fits i s there =
    let size = c.start_size in
    let own = at_index (FitsStatement size c.base) c.statements i s there fits.statements in
    let here =
    element_at (statement_bytes size c.base) (statement_size size) (statement_length size c.base) c.statements i s
    there in
    let bytes = statement_bytes size c.base s ++ here.0 in
    let source = source_number_read size c.base s here.0 (omega (arith, source_fits size c.base s own)) in
    let line = line_number_read size c.base s here.0 (omega (arith, line_fits size c.base s own)) in
    let above = address_read size c.base s here.0 (address_fits size c.base s own) in
    let address : c.base + number_at (size_of size) 8 bytes ≡ s.address =
    omega (arith, above, address_low size c.base s own) in
    ap by_bytes here.1
    ∙ ap (λ k. by_parts (source_path_at (index_of_contents c) k) (number_at 4 4 bytes)
    (c.base + number_at (size_of size) 8 bytes)) source
    ∙ ap (λ path. by_parts path (number_at 4 4 bytes) (c.base + number_at (size_of size) 8 bytes))
    (path_at_read c s.source fits)
    ∙ ap (λ n. by_parts (path_at c s.source) n (c.base + number_at (size_of size) 8 bytes)) line
    ∙ ap (λ n. by_parts (path_at c s.source) s.line n) address
  where
    by_parts : Result (List ℕ) NoPath → ℕ → ℕ → StatementMeaning
    by_parts path line address = record { path = path; line = line; address = address }

    by_bytes : List ℕ → StatementMeaning
    by_bytes bytes =
        by_parts (source_path_at (index_of_contents c) (number_at 4 0 bytes)) (number_at 4 4 bytes)
        (c.base + number_at (size_of c.start_size) 8 bytes)

statements_are : (c : Contents) → Fits c → statements_of (index_of_contents c) ≡ map (statement_in c) c.statements
statements_are c fits =
    same_values (statement_at (index_of_contents c)) (statement_in c) c.statements 0 (λ i s there.
    let same : 0 + i ≡ i = omega arith in
    ap (statement_at (index_of_contents c)) same ∙ statement_is c fits i s there)

-- ---- the files

file_is : (c : Contents) → Fits c → (i : ℕ) (s : Source) → slice_get c.sources i ≡ Some s
    → file_at (index_of_contents c) i ≡ source_file c s
file_is c fits i s there =
    let own = at_index FitsSource c.sources i s there fits.sources in
    let here = source_here c i s there in
    ap by_bytes here.1
    ∙ ap (λ n. by_parts n (path_of c.paths (source_bytes c.paths s ++ here.0))) (unit_read c.paths s here.0 own)
    ∙ ap (λ path. by_parts s.unit path) (path_read c.paths s here.0 own)
  where
    by_parts : ℕ → Result (List ℕ) NoPath → File
    by_parts unit path = record { unit = unit; path = path }

    by_bytes : List ℕ → File
    by_bytes bytes = by_parts (number_at 8 0 bytes) (path_of c.paths bytes)

files_are : (c : Contents) → Fits c → files_of (index_of_contents c) ≡ map (source_file c) c.sources
files_are c fits = same_values (file_at (index_of_contents c)) (source_file c) c.sources 0 (λ i s there.
    let same : 0 + i ≡ i = omega arith in
    ap (file_at (index_of_contents c)) same ∙ file_is c fits i s there)

-- ---- the order

name_is : (c : Contents) → Fits c → (k : ℕ) → k < length c.sources
    → name_at (index_of_contents c) k ≡ path_number (path_of c.paths (source_at (index_of_contents c) k))
name_is c fits k within =
    let found = get_inside c.sources k within in
    let s = found.0 in
    let here = source_here c k s found.1 in
    ap (number_at 4 20) here.1 ∙ name_read c.paths s here.0
    ∙ ap path_number
    (sym (path_read c.paths s here.0 (at_index FitsSource c.sources k s found.1 fits.sources))
    ∙ sym (ap (path_of c.paths) here.1))

ordered_as : (c : Contents) → Fits c → HasOrder c → IsOrdered (index_of_contents c)
ordered_as c fits order = record {
  names = name_is c fits;
  statements = subst AreOrdered (sym (statements_are c fits)) order;
}

-- ---- the sources that are named

entry_number_read : (place : Option SourceLine) (rest : List ℕ) → FitsPlace place
    → number_at 4 0 (place_bytes place ++ rest) ≡ number_in place
entry_number_read None rest fits = number_read 4 0xffff_ffff (omega arith)
entry_number_read (Some l) rest fits = number_read 4 l.source (omega (arith, fits.0))

entry_names : (c : Contents) → Fits c → (i : ℕ) (e : Entry) → slice_get c.entries i ≡ Some e
    → number_at 4 0 (drop (12 * i) (entries_part c)) ≡ number_in e.place
entry_names c fits i e there =
    let own = at_index (λ (x : Entry). FitsPlace x.place) c.entries i e there fits.places in
    let here = element_at entry_bytes 12 entry_length c.entries i e there in
    ap (number_at 4 0) here.1 ∙ entry_number_read e.place here.0 own

statement_names : (c : Contents) → Fits c → (i : ℕ) (s : Statement) → slice_get c.statements i ≡ Some s
    → number_at 4 0 (statement_from (index_of_contents c) i) ≡ s.source
statement_names c fits i s there =
    let size = c.start_size in
    let own = at_index (FitsStatement size c.base) c.statements i s there fits.statements in
    let here =
    element_at (statement_bytes size c.base) (statement_size size) (statement_length size c.base) c.statements i s
    there in
    ap (number_at 4 0) here.1
    ∙ source_number_read size c.base s here.0 (omega (arith, source_fits size c.base s own))

named_as : (c : Contents) → Fits c → HasNamed c → AreNamed (index_of_contents c)
named_as c fits named k within = elim (named k within) [
  | inl by ↦
      inl (by.0, slice_get_within c.entries by.0 by.1 by.2, entry_names c fits by.0 by.1 by.2 ∙ by.3)
  | inr by ↦
      inr (by.0, slice_get_within c.statements by.0 by.1 by.2, statement_names c fits by.0 by.1 by.2 ∙ by.3)
]

pub read_back : (c : Contents) (rest : List ℕ) → Fits c → SaysWhat c (index_at (index_bytes c ++ rest))
read_back c rest fits = record {
  index = index_of_contents c;
  is_read = ap index_at (bytes_are c rest) ∙ index_read c rest fits;
  starts = starts_are c fits;
  statements = statements_are c fits;
  files = files_are c fits;
  named = named_as c fits;
  ascending =
      λ ascend. subst (λ (starts : List Start). AreAscending starts) (sym (starts_are c fits)) (starts_ascend c ascend);
  ordered = ordered_as c fits;
  address_size = refl;
  identity = refl;
}
