-- The sources of an index that an entry or a statement names (docs/reference/INDEX.md, "Sources").
use Rattle.std.specs.Prelude.{◌≡◌, ◌⊎◌, ◌<◌, ◌*◌, ℕ, List, drop, length, slice_get, Option, None}
use Rattle.std.specs.Prelude.{Some}
use Rattle.gimli_index.specs.Contents.{Contents}
use Rattle.gimli_index.specs.Meaning.{statement_from}
use Rattle.gimli_index.specs.Header.{number_at}
use Rattle.gimli_index.specs.Parts.{Index}
use Rattle.gimli_index.specs.declared.contents.Entry.{Entry}
use Rattle.gimli_index.specs.declared.contents.SourceLine.{SourceLine}
use Rattle.gimli_index.specs.declared.contents.Statement.{Statement}

-- in the bytes of an entry or of a statement stands the number of this source
abbrev pub IsNamed : Index → ℕ → Type 0
IsNamed index k =
    ((i : ℕ) × (i < index.starts) × (number_at 4 0 (drop (12 * i) index.entry_bytes) ≡ k))
    ⊎ ((i : ℕ) × (i < index.statements) × (number_at 4 0 (statement_from index i) ≡ k))

-- that of each source does
abbrev pub AreNamed : Index → Type 0
AreNamed index = (k : ℕ) → k < index.sources → IsNamed index k

-- ---- of contents

-- the number of a source that stands in an entry; no source has that of a gap
abbrev pub number_in : Option SourceLine → ℕ
number_in None = 0xffff_ffff
number_in (Some l) = l.source

-- an entry or a statement has this number
abbrev pub IsNamedBy : List Entry → List Statement → ℕ → Type 0
IsNamedBy entries statements k =
    ((i : ℕ) × (e : Entry) × (slice_get entries i ≡ Some e) × (number_in e.place ≡ k))
    ⊎ ((i : ℕ) × (s : Statement) × (slice_get statements i ≡ Some s) × (s.source ≡ k))

-- an entry or a statement has the number of each source
abbrev pub HasNamed : Contents → Type 0
HasNamed c = (k : ℕ) → k < length c.sources → IsNamedBy c.entries c.statements k
