-- Taking in the values of an entry one by one gives the entry's parts.
use Rattle.std.specs.Prelude.{◌≡◌, if◌then◌else◌, ◌∷◌}
use Rattle.gimli_line.proofs.Common
use Common.{ℕ, List, [], Option, Some, None, Ok, Err, refl, sym, ap, ◌∙◌, nat_eq, OrderAndLimit, Value, udata_value}
use Common.{Read, ◌>>=◌, Format, read_map, File, plain_file, TableEntry, last_value, digest, file_of_entry}
use Common.{entry_production, FileEntryFormat}
use Rattle.gimli_line.specs.inside.header.EntryReading.{value_after, file_with, fold_of, folded_at}

-- the last value of an entry, from its first value on
last_of : {A : Type 0} (wanted : ℕ) (pick : Value → Option A) (first : A) (content : ℕ) (value : Value)
    (entry : TableEntry)
    → last_value wanted pick first ((content, value) ∷ entry)
    ≡ last_value wanted pick (value_after wanted pick content value first) entry
last_of {A} wanted pick first content value entry = at_pick (if nat_eq content wanted then pick value else None)
  where
    at_pick : (picked : Option A)
        → elim picked [ Some x ↦ last_value wanted pick x entry | None ↦ last_value wanted pick first entry ]
        ≡ last_value wanted pick (elim picked [ Some x ↦ x | None ↦ first ]) entry
    at_pick (Some x) = refl
    at_pick None = refl

-- the parts of a file, from what stands at first
abbrev parts_from : File → TableEntry → File
parts_from first entry = record {
  path_name = last_value 0x0001 Some first.path_name entry;
  directory_index = last_value 0x0002 udata_value first.directory_index entry;
  timestamp = last_value 0x0003 udata_value first.timestamp entry;
  size = last_value 0x0004 udata_value first.size entry;
  md5 = last_value 0x0005 digest first.md5 entry;
  source = last_value 0x2001 (λ v. Some (Some v)) first.source entry;
}

file_folded : (first : File) (entry : TableEntry) → fold_of file_with first entry ≡ parts_from first entry
file_folded first [] = refl
file_folded first (v ∷ entry) =
    let path = last_of 0x0001 Some first.path_name v.0 v.1 entry in
    let directory = last_of 0x0002 udata_value first.directory_index v.0 v.1 entry in
    let time = last_of 0x0003 udata_value first.timestamp v.0 v.1 entry in
    let size = last_of 0x0004 udata_value first.size v.0 v.1 entry in
    let md5 = last_of 0x0005 digest first.md5 v.0 v.1 entry in
    let source = last_of 0x2001 (λ w. Some (Some w)) first.source v.0 v.1 entry in
    file_folded (file_with first v.0 v.1) entry ∙ sym (cc)

module _ (layout : OrderAndLimit) (format : Format) {A : Type 0} (step : A → ℕ → Value → A) where
  folded_is : (first : A) (formats : List FileEntryFormat) (bytes : List ℕ)
      → folded_at layout format step first formats bytes
      ≡ read_map (fold_of step first) ((entry_production layout format formats).read bytes)
  unfolding entry_production
  folded_is first [] bytes = refl
  folded_is first (f ∷ formats) bytes = at_value _ (λ value rest.
      folded_is (step first f.content_type.0 value) formats rest)
    where
      after : (value : Value) (r : Read TableEntry)
          → read_map (fold_of step (step first f.content_type.0 value)) r
          ≡ read_map (fold_of step first) (r >>= λ values left. (Ok ((f.content_type.0, value) ∷ values), left))
      after value (Ok values, left) = refl
      after value (Err e, left) = refl

      at_value : (r : Read Value)
          → ((value : Value) (rest : List ℕ)
          → folded_at layout format step (step first f.content_type.0 value) formats rest
          ≡ read_map (fold_of step (step first f.content_type.0 value))
          ((entry_production layout format formats).read rest))
          → (r >>= λ value rest. folded_at layout format step (step first f.content_type.0 value) formats rest)
          ≡ read_map (fold_of step first) (r >>= λ value rest. (entry_production layout format formats).read rest
          >>= λ values left.
          (Ok ((f.content_type.0, value) ∷ values), left))
      at_value (Ok value, rest) others =
          others value rest ∙ after _ ((entry_production layout format formats).read rest)
      at_value (Err e, rest) others = refl

viewed_by : {A B : Type 0} (f g : A → B) → ((x : A) → f x ≡ g x) → (r : Read A) → read_map f r ≡ read_map g r
viewed_by {A} {B} f g same (Ok x, rest) = ap (λ y. let r : Read B = (Ok y, rest) in r) (same x)
viewed_by f g same (Err e, rest) = refl

module _ (layout : OrderAndLimit) (format : Format) where
  -- from a file of an empty path the file is that of the entry
  pub file_is : (formats : List FileEntryFormat) (bytes : List ℕ)
      → folded_at layout format file_with (plain_file [] 0 0 0) formats bytes
      ≡ read_map file_of_entry ((entry_production layout format formats).read bytes)
  file_is formats bytes = folded_is _ _ _ _ _ _
      ∙ viewed_by _ _ (file_folded _)
      _
