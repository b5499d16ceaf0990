-- The parts of an index after its header, one after the other (docs/reference/INDEX.md, "Parts").
use Rattle.std.specs.Prelude.{ℕ, ◌+◌, ◌*◌, List, length, nat_lt, slice_range, if◌then◌else◌, Result}
use Rattle.std.specs.Prelude.{Ok, Err}
use Rattle.gimli_index.specs.Header.{◌>>=◌}
use Rattle.gimli_index.specs.Header.{header_at, size_of, statement_size}
use Rattle.gimli_index.specs.declared.error.IndexError.{IndexError}
use Rattle.gimli_index.specs.declared.error.IndexError.TheVariants.{Cut}
use Rattle.gimli_index.specs.declared.header.Header.{Header}
use Rattle.gimli_index.specs.declared.header.StartSize.{StartSize}

-- an index: what its header says, and its parts
pub record Index : Type 0 where
  pub address_size : ℕ
  pub start_size : StartSize
  pub base : ℕ
  -- how many starts there are, and how many sources
  pub starts : ℕ
  pub sources : ℕ
  -- how many statements there are
  pub statements : ℕ
  -- the bytes of the parts
  pub source_bytes : List ℕ
  pub start_bytes : List ℕ
  pub entry_bytes : List ℕ
  pub statement_bytes : List ℕ
  pub path_bytes : List ℕ
  pub identity : List ℕ

-- where the parts begin: the sources come right after the header
abbrev pub starts_offset : Header → ℕ
starts_offset h = 48 + 24 * h.sources

-- the entries of the starts come after the starts
abbrev pub entries_offset : Header → ℕ
entries_offset h = starts_offset h + size_of h.start_size * h.starts

-- then the statements
abbrev pub statements_offset : Header → ℕ
statements_offset h = entries_offset h + 12 * h.starts

-- then the bytes of the paths
abbrev pub paths_offset : Header → ℕ
paths_offset h = statements_offset h + statement_size h.start_size * h.statements

-- and last the identity
abbrev pub identity_offset : Header → ℕ
identity_offset h = paths_offset h + h.paths

-- where the index ends
abbrev pub end_offset : Header → ℕ
end_offset h = identity_offset h + h.identity

-- the index of a header
abbrev pub parts_at : List ℕ → Header → Result Index IndexError
parts_at bytes h =
    if nat_lt (length bytes) (end_offset h) then Err Cut
    else Ok (record {
      address_size = h.address_size;
      start_size = h.start_size;
      base = h.base;
      starts = h.starts;
      sources = h.sources;
      statements = h.statements;
      source_bytes = slice_range bytes 48 (starts_offset h);
      start_bytes = slice_range bytes (starts_offset h) (entries_offset h);
      entry_bytes = slice_range bytes (entries_offset h) (statements_offset h);
      statement_bytes = slice_range bytes (statements_offset h) (paths_offset h);
      path_bytes = slice_range bytes (paths_offset h) (identity_offset h);
      identity = slice_range bytes (identity_offset h) (end_offset h);
    })

-- the index that bytes begin with, or the first thing that keeps them from being one
abbrev pub index_at : List ℕ → Result Index IndexError
index_at bytes = header_at bytes >>= λ h. parts_at bytes h
