-- A table of version 5 has no more entries than bytes stand after their count, and the tables of a header have no more
-- than it has bytes.
use Rattle.std.specs.Prelude.{◌≡◌, ◌≢◌, ◌+◌, ◌<◌, ◌≤◌, ◌∷◌}
use Rattle.gimli_line.proofs.Common
use Common.{ℕ, zero, suc, Bool, true, false, List, [], length, Option, Some, None, refl, ap, arith}
use Common.{lookup, nat_eq, nat_le, length-append, length-map, OrderAndLimit, IsLeb128, UnknownForm, Value, Production}
use Common.{Each, times, refuse, choose, table_of, offset_word, header_production, Format, Encoding, File, Header}
use Common.{UnitEntry}
use Common.{TableEntry, path_of, file_of_entry, paths_production, files_production, formats_production}
use Common.{entry_production, entries_production, table_production, directory_table, file_table, opening_production}
use Common.{fields_production, HeaderOpening, SpellsUnit, HoldsCount, FileEntryFormat}
use Rattle.gimli_core.specs.Form.{
  Shape,
  fixed,
  three_bytes,
  word_offset,
  leb,
  signed_leb,
  leb_offset,
  block,
  counted,
  leb_counted,
  string,
  shapes,
  shape_production,
  form_production,
}

-- ---- a value in a form has bytes

groups_some : (bytes : List ℕ) (n : ℕ) → IsLeb128 bytes n → 0 < length bytes
groups_some [] n g = absurd g
groups_some (b ∷ []) n g = omega arith
groups_some (b ∷ c ∷ bytes) n g = omega arith

-- a number of no bytes is none, and neither is a block of none
abbrev HasBytes : Shape → Type 0
HasBytes (fixed size make) = 0 < size
HasBytes (block size) = 0 < size
HasBytes (counted size) = 0 < size
HasBytes shape = Unit {0}

-- so many values, each of which has bytes
times_bounded : {A : Type 0} (n : ℕ) (l : Production A)
    → ((bytes : List ℕ) (x : A) → l.Spells bytes x → 0 < length bytes) → (bytes : List ℕ) (xs : List A)
    → (times n l).Spells bytes xs → length xs ≤ length bytes
times_bounded zero l some bytes xs s = rw s.1 (omega arith)
times_bounded (suc n) l some bytes xs s =
    let r = s.5 in
    let one = some s.1 s.0 s.4 in
    let others = times_bounded n l some _ _ r.4 in
    omega (arith, length-append s.1 s.2, ap length s.3, length-append r.1 r.2, ap length r.3, ap length r.5.1)

-- so many values are that many
times_counted : {A : Type 0} (n : ℕ) (l : Production A) (bytes : List ℕ) (xs : List A) → (times n l).Spells bytes xs
    → n ≡ length xs
times_counted zero l bytes xs s = rw s.1 refl
times_counted (suc n) l bytes xs s =
    let r = s.5 in
    rw r.5.1 (ap suc (times_counted n l _ _ r.4))

-- values one after the other, each of which has bytes
each_bounded : {A : Type 0} (Spells : List ℕ → A → Type 0)
    → ((bytes : List ℕ) (x : A) → Spells bytes x → 0 < length bytes) → (bytes : List ℕ) (xs : List A)
    → Each Spells bytes xs → length xs ≤ length bytes
each_bounded Spells some bytes [] s = omega arith
each_bounded Spells some bytes (x ∷ xs) s =
    omega (arith, length-append s.0 s.1, ap length s.2, some s.0 x s.3, each_bounded Spells some s.1 xs s.4)

-- formats with a path are some
pub formats_some : (bytes : List ℕ) (formats : List FileEntryFormat) → formats_production.Spells bytes formats
    → formats ≢ []
unfolding formats_production
formats_some bytes formats s none = grind arith

module _ (layout : OrderAndLimit) (format : Format) where
  shape_some : (shape : Shape) → HasBytes shape → (bytes : List ℕ) (v : Value)
      → (shape_production layout format shape).Spells bytes v → 0 < length bytes
  unfolding offset_word
  shape_some (fixed size make) some bytes v s = grind (arith, length-append)
  shape_some (three_bytes make) some bytes v s = grind (arith, length-append)
  shape_some (word_offset make) some bytes v s = grind (arith, length-append)
  shape_some (leb make) some bytes v s = grind (arith, length-append, groups_some)
  shape_some (signed_leb make) some bytes v s = grind (arith, length-append, groups_some)
  shape_some (leb_offset make) some bytes v s = grind (arith, length-append, groups_some)
  shape_some (block size) some bytes v s = omega (arith, length-append s.1 s.2, ap length s.3)
  shape_some (counted size) some bytes v s = grind (arith, length-append)
  shape_some leb_counted some bytes v s = grind (arith, length-append, groups_some)
  shape_some string some bytes v s = grind (arith, length-append)

  form_some : (form : ℕ) (bytes : List ℕ) (v : Value) → (form_production layout format form).Spells bytes v
      → 0 < length bytes
  form_some form bytes v = at_shape _ refl
    where
      at_shape : (found : Option Shape) → lookup (nat_eq form) shapes ≡ found
          → (let l : Production Value = elim found
          [ Some shape ↦ shape_production layout format shape | None ↦ refuse (UnknownForm (record { 0 = form })) ] in
          l.Spells bytes v)
          → 0 < length bytes
      at_shape (Some shape) is s = grind (arith, shape_some)
      at_shape None is s = absurd s

  -- ---- entries

  entry_some : (formats : List FileEntryFormat) → formats ≢ [] → (bytes : List ℕ) (entry : TableEntry)
      → (entry_production layout format formats).Spells bytes entry → 0 < length bytes
  unfolding entry_production
  entry_some [] some bytes entry s = absurd (some refl)
  entry_some (f ∷ formats) some bytes entry s = grind (arith, length-append, form_some)

  -- a table's entries are as many as their count says, and no more than the bytes after it
  pub entries_bounded : (formats : List FileEntryFormat) → formats ≢ [] → (bytes : List ℕ) (entries : List TableEntry)
      → (entries_production layout format formats).Spells bytes entries → HoldsCount bytes (length entries)
  unfolding entries_production
  entries_bounded formats some bytes entries s = grind (arith, times_counted, times_bounded, entry_some)

  table_bounded : (bytes : List ℕ) (table : List FileEntryFormat × List TableEntry)
      → (table_production layout format).Spells bytes table
      → length table.1 ≤ length bytes
  unfolding table_production
  table_bounded bytes table s =
      let b = entries_bounded _ (formats_some _ _ s.4) _ _ s.5.4 in
      grind (arith, length-append, b.2, b.4)

-- ---- the tables of a header

paths_bounded : (bytes : List ℕ) (paths : List (List ℕ)) → paths_production.Spells bytes paths
    → length paths ≤ length bytes
paths_bounded bytes paths s = grind (arith, length-append, each_bounded)

files_bounded : (bytes : List ℕ) (files : List File) → files_production.Spells bytes files → length files ≤ length bytes
files_bounded bytes files s = grind (arith, length-append, each_bounded)

-- one production or the other
chosen : {A : Type 0} {P : Type 0} (test : Bool) (l m : Production A) (bytes : List ℕ) (x : A) → (l.Spells bytes x → P)
    → (m.Spells bytes x → P)
    → (choose test l m).Spells bytes x → P
chosen true l m bytes x one other s = one s
chosen false l m bytes x one other s = other s

items_bounded : {B : Type 0} (plain : Production (List B)) (view : TableEntry → B)
    → ((bytes : List ℕ) (items : List B) → plain.Spells bytes items → length items ≤ length bytes)
    → (layout : OrderAndLimit) (encoding : Encoding) (bytes : List ℕ) (table : List FileEntryFormat × List B)
    → (table_of plain view layout encoding).Spells bytes table
    → length table.1 ≤ length bytes
unfolding table_of
items_bounded plain view bounded layout encoding bytes table =
    chosen (nat_le encoding.version 4) _ _ bytes table
    (λ s. grind (arith, length-append, bounded))
    (λ s. grind (arith, length-append, length-map, table_bounded))

module _ (layout : OrderAndLimit) (encoding : Encoding) where
  directories_bounded : (bytes : List ℕ) (table : List FileEntryFormat × List Value)
      → (directory_table layout encoding).Spells bytes table → length table.1 ≤ length bytes
  directories_bounded = items_bounded _ path_of
      (λ bytes items s. grind (arith, length-append, paths_bounded, length-map)) layout encoding

  all_files_bounded : (bytes : List ℕ) (table : List FileEntryFormat × List File)
      → (file_table layout encoding).Spells bytes table → length table.1 ≤ length bytes
  all_files_bounded = items_bounded _ file_of_entry files_bounded layout encoding

-- the bytes that the header length counts are that many, and stand in front of the program
opening_counted : (layout : OrderAndLimit) (handed : ℕ) (format : Format) (bytes : List ℕ) (o : HeaderOpening)
    → (opening_production layout handed format).Spells bytes o
    → (length o.fields ≡ o.header_length) × (o.header_length ≤ length bytes)
unfolding opening_production
opening_counted layout handed format bytes o s = grind (arith, length-append)

fields_bounded : (layout : OrderAndLimit) (unit_entry : UnitEntry) (unit : ℕ) (o : HeaderOpening)
    (program bytes : List ℕ)
    (h : Header)
    → (fields_production layout unit_entry unit o program).Spells bytes h
    → (length h.directories + length h.files ≤ length bytes) × (h.program ≡ program)
    × (h.header_length ≡ o.header_length) × (h.unit_length ≡ unit)
unfolding fields_production
fields_bounded layout unit_entry unit o program bytes h s =
    grind (arith, directories_bounded, all_files_bounded, length-append)

pub unit_bounded : (layout : OrderAndLimit) (unit_entry : UnitEntry) (bytes : List ℕ) (h : Header)
    → SpellsUnit layout unit_entry bytes h
    → (length h.directories + length h.files ≤ h.header_length) × (h.header_length + length h.program ≤ h.unit_length)
    × (h.unit_length ≤ length bytes)
unfolding header_production
unit_bounded layout unit_entry bytes h u =
    let s = u.3 in
    let i = s.5 in
    let o = i.5 in
    let f = o.5 in
    let whole = length-append u.0 u.1 in
    let opened = opening_counted layout unit_entry.address_size s.0.1 o.4.1.0 o.0.0 o.4.1.2 in
    let fields = fields_bounded layout unit_entry s.0.0 o.0.0 o.0.1 f.4.1.0 f.0.0 f.4.1.2 in
    let same : h ≡ f.0.0 = f.5.1 in
    rw same (
      omega (arith, length-append f.4.1.0 f.0.1, ap length f.4.1.1),
      omega (arith, ap length fields.1, length-append o.4.1.0 o.0.1, ap length o.4.1.1, ap length i.4.1),
      omega (arith, ap length u.2, length-append s.1 s.2, ap length s.3, length-append i.1 i.2, ap length i.3),
    )
