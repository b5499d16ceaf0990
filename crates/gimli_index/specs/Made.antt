-- The index of a list of entries, and what keeps it from being made.
use Rattle.std.specs.Prelude.{◌≡◌, ◌≤◌, ◌<◌, ℕ, ◌-◌, ◌^◌, min, max, nat_lt, if◌then◌else◌, List, []}
use Rattle.std.specs.Prelude.{◌∷◌, length, map, fold, slice_get, Some, Result, Ok, All, ◌++◌}
use Rattle.gimli_index.specs.Header.{highest_base}
use Rattle.gimli_index.specs.Files.{files_of, source_file}
use Rattle.gimli_index.specs.Parts.{Index}
use Rattle.gimli_index.specs.Meaning.{AreAscending, starts_of, statements_of}
use Rattle.gimli_index.specs.Contents.{Contents, Fits, HasColumn, entry_start, index_bytes}
use Rattle.gimli_index.specs.Contents.{statement_in}
use Rattle.gimli_index.specs.Lines.{addresses_of}
use Rattle.gimli_index.specs.Named.{AreNamed, HasNamed}
use Rattle.gimli_index.specs.Order.{AreOrdered, IsOrdered}
use Rattle.gimli_index.specs.declared.contents.Contents.{Contents as Made}
use Rattle.gimli_index.specs.declared.contents.Entry.{Entry}
use Rattle.gimli_index.specs.declared.contents.Statement.{Statement}
use Rattle.gimli_index.specs.declared.error.IndexError.{IndexError}
use Rattle.gimli_index.specs.declared.error.MakeError.{MakeError}
use Rattle.gimli_index.specs.declared.error.MakeError.TheVariants.{NotAscending, TooManyEntries}
use Rattle.gimli_index.specs.declared.error.MakeError.TheVariants.{TooManyStatements}
use Rattle.gimli_index.specs.declared.error.MakeError.TheVariants.{TooManySources, PathsTooLarge}
use Rattle.gimli_index.specs.declared.error.MakeError.TheVariants.{IdentityTooLarge, LineTooLarge}
use Rattle.gimli_index.specs.declared.error.MakeError.TheVariants.{ColumnTooLarge, OutOfMemory}
use Rattle.gimli_index.specs.declared.header.StartSize.{StartSize}
use Rattle.gimli_index.specs.declared.header.StartSize.TheVariants.{Four, Eight}

-- no entry has a lower address than one before it
abbrev pub EntriesAscend : List Entry → Type 0
EntriesAscend entries =
    (i j : ℕ) (x y : Entry) → i < j → slice_get entries i ≡ Some x → slice_get entries j ≡ Some y
    → x.address ≤ y.address

-- the addresses of entries and of statements
abbrev pub all_addresses : List Entry → List Statement → List ℕ
all_addresses entries statements = map (λ e. e.address) entries ++ map (λ s. s.address) statements

-- the least and the greatest of numbers; 0 where there are none
abbrev pub least : List ℕ → ℕ
least [] = 0
least (n ∷ ns) = fold min n ns

-- the greatest of numbers; 0 where there are none
abbrev pub greatest : List ℕ → ℕ
greatest ns = fold max 0 ns

-- four bytes where the addresses aren't further apart
abbrev pub size_for : ℕ → ℕ → StartSize
size_for first last = if nat_lt (last - first) (2 ^ 32) then Four else Eight

-- the base: the least address, where starts of this size allow it
abbrev pub base_for : StartSize → ℕ → ℕ
base_for size first = min first (highest_base size)

-- the contents, with the size of starts and the base that its addresses need, and the statements in
-- some order
abbrev pub contents_of : Made → List Statement → Contents
contents_of c statements =
    let addresses = all_addresses c.entries.now c.statements.now in
    let size = size_for (least addresses) (greatest addresses) in
    record {
      address_size = c.address_size;
      start_size = size;
      base = base_for size (least addresses);
      sources = c.sources.now;
      entries = c.entries.now;
      statements = statements;
      paths = c.paths.now;
      identity = c.identity.now;
    }

-- why contents make no index, memory aside
abbrev pub IsMakeFault : Contents → MakeError → Type 0
IsMakeFault c NotAscending = EntriesAscend c.entries → ⊥
IsMakeFault c TooManyEntries = 2 ^ 32 ≤ length c.entries
IsMakeFault c TooManyStatements = 2 ^ 32 ≤ length c.statements
IsMakeFault c TooManySources = 2 ^ 32 ≤ length c.sources
IsMakeFault c PathsTooLarge = 2 ^ 32 ≤ length c.paths
IsMakeFault c IdentityTooLarge = 2 ^ 32 ≤ length c.identity
IsMakeFault c LineTooLarge = ⊥
IsMakeFault c ColumnTooLarge = All (λ e. HasColumn e.place) c.entries → ⊥
IsMakeFault c OutOfMemory = Unit {0}

-- the statements of contents are in order
abbrev pub HasOrder : Contents → Type 0
HasOrder c = AreOrdered (map (statement_in c) c.statements)

-- two lists of statements give each line the same addresses
abbrev pub SayTheSameLines : Contents → List Statement → List Statement → Type 0
SayTheSameLines c xs ys =
    (path : List ℕ) (line : ℕ) → addresses_of path (map (statement_in c) xs) line
    ≡ addresses_of path (map (statement_in c) ys) line

-- the bytes of contents were appended, with their statements in order
pub record IsWritten (c : Made) (old new : List ℕ) : Type 0 where
  pub statements : List Statement
  pub bytes : new ≡ old ++ index_bytes (contents_of c statements)
  pub fits : Fits (contents_of c statements)
  pub ordered : HasOrder (contents_of c statements)
  pub same : SayTheSameLines (contents_of c []) c.statements.now statements

-- bytes are read as an index that says what the entries say
pub record SaysWhat (c : Contents) (read : Result Index IndexError) : Type 0 where
  pub index : Index
  pub is_read : read ≡ Ok index
  pub starts : starts_of index ≡ map (entry_start c) c.entries
  pub statements : statements_of index ≡ map (statement_in c) c.statements
  pub files : files_of index ≡ map (source_file c) c.sources
  pub named : HasNamed c → AreNamed index
  pub ascending : EntriesAscend c.entries → AreAscending (starts_of index)
  pub ordered : HasOrder c → IsOrdered index
  pub address_size : index.address_size ≡ c.address_size
  pub identity : index.identity ≡ c.identity
