-- The sources of contents that are kept: those that an entry or a statement names.
use Rattle.std.specs.Prelude.{◌≡◌, ◌+◌, ◌++◌, ◌||◌, ◌==◌, ℕ, Bool, if◌then◌else◌, List, [], ◌∷◌}
use Rattle.std.specs.Prelude.{map}
use Rattle.std.specs.Prelude.{slice_get, Some}
use Rattle.std.specs.List.{list_any}
use Rattle.std.specs.Option.{option_map, option_map_or}
use Rattle.gimli_index.specs.Contents.{Contents, Fits, entry_start, index_bytes, statement_in}
use Rattle.gimli_index.specs.Lines.{addresses_of}
use Rattle.gimli_index.specs.Made.{EntriesAscend, HasOrder, contents_of}
use Rattle.gimli_index.specs.Named.{HasNamed, number_in}
use Rattle.gimli_index.specs.declared.contents.Contents.{Contents as Made}
use Rattle.gimli_index.specs.declared.contents.Entry.{Entry}
use Rattle.gimli_index.specs.declared.contents.Source.{Source}
use Rattle.gimli_index.specs.declared.contents.SourceLine.{SourceLine}
use Rattle.gimli_index.specs.declared.contents.Statement.{Statement}

-- whether entries, and whether statements, name the source of a number
abbrev pub entries_name : List Entry → ℕ → Bool
entries_name entries n = list_any (λ (e : Entry). number_in e.place == n) entries

-- whether statements do
abbrev pub statements_name : List Statement → ℕ → Bool
statements_name statements n = list_any (λ (s : Statement). s.source == n) statements

-- whether one of both does
abbrev pub are_named : List Entry → List Statement → ℕ → Bool
are_named entries statements n = entries_name entries n || statements_name statements n

-- the sources whose marks are set
abbrev pub kept : List Bool → List Source → List Source
kept [] sources = []
kept (mark ∷ named) [] = []
kept (mark ∷ named) (s ∷ sources) = if mark then s ∷ kept named sources else kept named sources

-- beside each mark a number: how many are set before it, and so many more
abbrev pub numbers_from : ℕ → List Bool → List ℕ
numbers_from n [] = []
numbers_from n (mark ∷ named) = n ∷ numbers_from (if mark then n + 1 else n) named

-- the number that stands in the place of another one
abbrev pub number_by : List ℕ → ℕ → ℕ
number_by numbers k = option_map_or (λ (n : ℕ). n) (slice_get numbers k) k

-- the place of a line, by other numbers
abbrev pub line_by : List ℕ → SourceLine → SourceLine
line_by numbers l = record l { source = number_by numbers l.source }

-- an entry, by other numbers
abbrev pub entry_by : List ℕ → Entry → Entry
entry_by numbers e = record e { place = option_map (line_by numbers) e.place }

-- a statement, by other numbers
abbrev pub statement_by : List ℕ → Statement → Statement
statement_by numbers s = record s { source = number_by numbers s.source }

-- the bytes of contents were appended, with these statements, and with the sources alone whose
-- marks are set
pub record IsKeptWritten (c : Made) (lines : List Statement) (named : List Bool)
    (old new : List ℕ) : Type 0 where
  pub contents : Contents
  pub bytes : new ≡ old ++ index_bytes contents
  pub fits : Fits contents
  pub sources : contents.sources ≡ kept named c.sources.now
  pub entries : contents.entries ≡ map (entry_by (numbers_from 0 named)) c.entries.now
  pub statements : contents.statements ≡ map (statement_by (numbers_from 0 named)) lines
  pub paths : contents.paths ≡ c.paths.now
  pub address_size : contents.address_size ≡ c.address_size
  pub identity : contents.identity ≡ c.identity.now

-- the bytes of contents were appended that say the same, of whose sources each one is named
pub record IsNamedWritten (c : Made) (old new : List ℕ) : Type 0 where
  pub contents : Contents
  pub bytes : new ≡ old ++ index_bytes contents
  pub fits : Fits contents
  pub ascending : EntriesAscend contents.entries
  pub ordered : HasOrder contents
  pub named : HasNamed contents
  pub starts : map (entry_start contents) contents.entries
      ≡ map (entry_start (contents_of c [])) c.entries.now
  pub lines : (path : List ℕ) (line : ℕ)
      → addresses_of path (map (statement_in contents) contents.statements) line
      ≡ addresses_of path (map (statement_in (contents_of c [])) c.statements.now) line
  pub sources : (j : ℕ) (s : Source) → slice_get contents.sources j ≡ Some s
      → (k : ℕ) × (slice_get c.sources.now k ≡ Some s)
  pub paths : contents.paths ≡ c.paths.now
  pub address_size : contents.address_size ≡ c.address_size
  pub identity : contents.identity ≡ c.identity.now
