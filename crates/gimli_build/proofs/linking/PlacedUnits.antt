-- What two hands write alike.
use Rattle.std.specs.Prelude.{◌≡◌, ◌≤◌, ◌∷◌, ◌++◌, if◌then◌else◌, ◌+◌, ◌<◌, ◌^◌}
use Rattle.gimli_build.proofs
use proofs.Common
use Common.{ℕ, Bool, true, false, List, [], length, Ok, refl, ap, ◌∙◌, Result, All, nat_eq, nat_le, leb-false, All-head}
use Common.{All-tail, Encoding, LineEncoding, Hand, Placement, plain, counted, uleb, length_word, StringTables, Error}
use Common.{format_word, result_append, result_concat, after_length, LineText, File, Built, directories_bytes}
use Common.{files_bytes, formats_bytes, directory_formats, file_formats, text_bytes, text_in_form}
use Common.{directory_table_bytes, source_bytes, file_entry_bytes, file_table_bytes, emitted_texts, line_encoding_bytes}
use Common.{opcode_bytes, opening_bytes, escape_bytes, tables_bytes, program_bytes, whole_bytes, item_bytes}
use Common.{items_bytes, next_previous, LineRow, BuiltItem, SetAddress, Row, End, arith, map, All-weaker, result_map}
use Common.{section_word, placed, placed_offset, address_placed, position_after, initial_row, CanWrite, AreBuilt}
use Common.{instructions_bytes, set_address_bytes, row_instructions, end_instructions, AreFit, texts_after}
use Common.{IsOffsetHeld, unit_bytes, IsBuilt}
use Rattle.std.proofs.Math.Nat.{mod-eq_of_lt}
use Rattle.gimli_core.specs.declared.common.SectionId.{SectionId}
use Rattle.gimli_bytes.proofs.PlacedNumbers.{placed-word, placed-address}
use Rattle.gimli_line.specs.LineNumbers.{DW_LNE_set_address}
use proofs.reading.ReadyTexts.{source_of, IsOfFile, of-tables}
use Rattle.gimli_build.specs.Linked.{placed_item, placed_program, AddressFits, OffsetFits, SumsFit, TextsBeginAtZero}

-- part by part
concat_alike : {A : Type 0} (P : A → Type 0) (f g : A → Result (List ℕ) Error) → ((x : A) → P x → f x ≡ g x)
    → (xs : List A) → All P xs
    → result_concat f xs ≡ result_concat g xs
concat_alike P f g same [] all = refl
concat_alike P f g same (x ∷ xs) all = λ i.
    result_append (same x (All-head P x _ all) i) (concat_alike P f g same xs (All-tail P x _ all) i)

-- where it is due
due_alike : (due : Bool) (a b : Result (List ℕ) Error) → (due ≡ true → a ≡ b)
    → (let r : Result (List ℕ) Error = if due then a else Ok [] in r) ≡ (if due then b else Ok [])
due_alike due a b same = grind arith

module _ (h k : Hand) (is_big : Bool) (p : Built) (texts : StringTables) where
  -- a text that both write alike
  abbrev pub IsAlike : LineText → Type 0
  IsAlike t = text_bytes h is_big p.encoding.format texts t ≡ text_bytes k is_big p.encoding.format texts t

  form_alike : (form : ℕ) (t : LineText) → IsAlike t
      → text_in_form h is_big p.encoding.format texts form t ≡ text_in_form k is_big p.encoding.format texts form t
  form_alike form t same = grind (arith, nat_eq)

  directories_alike : All IsAlike p.directories
      → directory_table_bytes h is_big p.encoding.format texts p
      ≡ directory_table_bytes k is_big p.encoding.format texts p
  directories_alike all =
      ap (λ r. result_append (Ok (formats_bytes (directory_formats p) ++ uleb (length p.directories))) r)
      (concat_alike _ _
      _ (form_alike _) _ all)

  source_alike : (f : File) → (p.file_has_source ≡ true → IsAlike (source_of p texts f))
      → source_bytes h is_big p.encoding.format texts p f ≡ source_bytes k is_big p.encoding.format texts p f
  source_alike f same = due_alike _ _ _ (λ due. form_alike _ _ (same due))

  file_alike : (f : File) → IsOfFile IsAlike p texts f
      → file_entry_bytes h is_big p.encoding.format texts p f ≡ file_entry_bytes k is_big p.encoding.format texts p f
  file_alike f all = grind (arith, form_alike, source_alike)

  files_alike : All (IsOfFile IsAlike p texts) p.files
      → file_table_bytes h is_big p.encoding.format texts p ≡ file_table_bytes k is_big p.encoding.format texts p
  files_alike all = λ i. result_append (Ok (formats_bytes (file_formats p) ++ uleb (length p.files)))
      (concat_alike _ _ _ file_alike _ all i)

  tables_alike : (5 ≤ p.encoding.version → All (λ t. IsAlike t.1) (emitted_texts p texts))
      → tables_bytes h is_big p texts ≡ tables_bytes k is_big p texts
  tables_alike all = by _ refl
    where
      old : Result (List ℕ) Error
      old = result_append (directories_bytes p.directories) (files_bytes p.files)

      new : Hand → Result (List ℕ) Error
      new hand = result_append (directory_table_bytes hand is_big p.encoding.format texts p)
          (file_table_bytes hand is_big p.encoding.format texts p)

      by : (b : Bool) → nat_le p.encoding.version 4 ≡ b
          → (let r : Result (List ℕ) Error = if b then old else new h in r) ≡ (if b then old else new k)
      by true is = refl
      by false is =
          let parts = of-tables IsAlike p texts is (all (leb-false p.encoding.version 4 is)) in
          λ i. result_append (directories_alike parts.directories i) (files_alike parts.files i)

  -- a unit, where the items are written alike too
  pub whole-alike : (items : List BuiltItem) → (5 ≤ p.encoding.version → All (λ t. IsAlike t.1) (emitted_texts p texts))
      → program_bytes h is_big p ≡ program_bytes k is_big (record p { items = items })
      → whole_bytes h is_big p texts ≡ whole_bytes k is_big (record p { items = items }) texts
  whole-alike items all same = λ i. after_length (λ n.
      result_append (Ok (escape_bytes is_big p.encoding.format)) (length_word is_big p.encoding.format n))
      (result_append (opening_bytes is_big p.encoding)
      (result_append (after_length (λ n. format_word is_big p.encoding.format n)
      (result_append (line_encoding_bytes p.encoding.version p.line_encoding)
      (result_append (Ok opcode_bytes) (tables_alike all i)))) (same i)))

-- ---- items

-- addresses are the same numbers
module _ (at : Placement) (is_big : Bool) (encoding : Encoding) (e : LineEncoding) where
  item_plain : (previous : LineRow) (item : BuiltItem)
      → item_bytes (counted at) is_big encoding e previous item ≡ item_bytes plain is_big encoding e previous item
  item_plain previous item = grind arith

  pub items-plain : (previous : LineRow) (items : List BuiltItem)
      → items_bytes (counted at) is_big encoding e previous items ≡ items_bytes plain is_big encoding e previous items
  items-plain previous [] = refl
  items-plain previous (item ∷ items) = λ i. result_append (item_plain previous item i)
      (items-plain (next_previous encoding.version e.default_is_stmt previous item) items i)

-- ---- a unit once a linker has placed its symbols and sections

-- ---- items

module _ (at : Placement) (is_big : Bool) (encoding : Encoding) (e : LineEncoding) where
  items_placed : (previous : LineRow) (items : List BuiltItem) → All (AddressFits at encoding.address_size) items
      → items_bytes (placed at) is_big encoding e previous items
      ≡ items_bytes plain is_big encoding e previous (map (placed_item at) items)
  items_placed previous [] fit = refl
  items_placed previous (SetAddress a ∷ items) fit =
      let size = encoding.address_size in
      let next = next_previous encoding.version e.default_is_stmt previous (SetAddress a) in
      let first = ap (result_map (λ operand. 0 ∷ uleb (size + 1) ++ DW_LNE_set_address ∷ operand))
      (placed-address at _ a _ (All-head (AddressFits at size) _ _ fit)) in
      ap (λ r. result_append r (items_bytes (placed at) is_big encoding e next items)) first
      ∙ ap (λ r. result_append (set_address_bytes plain is_big (address_placed at a) size) r)
      (items_placed next items (All-tail (AddressFits at size) _ _ fit))
  items_placed previous (Row r ∷ items) fit =
      ap (λ s. result_append (Ok (instructions_bytes (row_instructions encoding.version e previous r))) s)
      (items_placed r items (All-tail (AddressFits at encoding.address_size) _ _ fit))
  items_placed previous (End offset op_index ∷ items) fit =
      ap (λ s. result_append (Ok (instructions_bytes (end_instructions e previous offset op_index))) s)
      (items_placed (initial_row encoding.version e.default_is_stmt) items
      (All-tail (AddressFits at encoding.address_size) _ _ fit))

-- ---- texts

module _ (at : Placement) (is_big : Bool) (p : Built) (texts : StringTables) where
  -- an offset that fits, as does what it becomes
  offset_counted : (section : SectionId) (n size : ℕ) → n < 256 ^ size → at.section section n < 256 ^ size
      → placed_offset at is_big section n size ≡ section_word is_big (at.section section n) size
  offset_counted section n size fits placed_fits = grind (arith, mod-eq_of_lt, placed-word)

  text_counted : (t : LineText) → OffsetFits at p.encoding.format texts t
      → IsAlike (placed at) (counted at) is_big p texts t
  text_counted t fits = grind (arith, offset_counted)

  text_plain : TextsBeginAtZero at → (t : LineText) → OffsetFits at p.encoding.format texts t
      → IsAlike (placed at) plain is_big p texts t
  text_plain zero t fits = grind (arith, text_counted)

-- ---- units

unit_alike : (h k : Hand) (is_big : Bool) (unit : Encoding) (p q : Built) (texts : StringTables)
    → q.encoding ≡ p.encoding
    → whole_bytes h is_big p (texts_after p texts) ≡ whole_bytes k is_big q (texts_after q texts)
    → unit_bytes h is_big unit p texts ≡ unit_bytes k is_big unit q texts
unit_alike _ _ _ _ _ _ _ encoding same = grind arith

module _ (at : Placement) (is_big : Bool) (unit : Encoding) (p : Built) (texts : StringTables)
    (fit : SumsFit at p (texts_after p texts)) where
  program_placed : program_bytes (placed at) is_big p ≡ program_bytes plain is_big (placed_program at p)
  program_placed = items_placed at is_big p.encoding p.line_encoding _ _ fit.addresses

  placed_by : (hand : Hand)
      → program_bytes plain is_big (placed_program at p) ≡ program_bytes hand is_big (placed_program at p)
      → ((t : LineText) → OffsetFits at p.encoding.format (texts_after p texts) t
      → IsAlike (placed at) hand is_big p (texts_after p texts) t)
      → unit_bytes (placed at) is_big unit p texts ≡ unit_bytes hand is_big unit (placed_program at p) texts
  placed_by hand numbers alike = unit_alike (placed at) hand _ unit p (placed_program at p) texts refl
      (whole-alike (placed at) hand is_big p (texts_after p texts) (map (placed_item at) p.items)
      (λ new. All-weaker _ _ (λ t fits. alike t.1 fits) _ (fit.offsets new))
      (program_placed ∙ numbers))

  pub placed-counted : unit_bytes (placed at) is_big unit p texts
      ≡ unit_bytes (counted at) is_big unit (placed_program at p) texts
  placed-counted = grind (arith, placed_by, items-plain, text_counted)

  pub placed-plain : TextsBeginAtZero at
      → unit_bytes (placed at) is_big unit p texts ≡ unit_bytes plain is_big unit (placed_program at p) texts
  placed-plain zero = placed_by plain refl (text_plain at is_big p (texts_after p texts) zero)

  -- 64 bits hold what the offsets of texts become
  pub placed-short : 5 ≤ p.encoding.version
      → All (λ t. IsOffsetHeld (2 ^ 64) at (texts_after p texts) t.1) (emitted_texts p (texts_after p texts))
  placed-short new = grind (arith, All-weaker)

-- ---- the program with its symbols replaced

built_placed : (at : Placement) (e : LineEncoding) (position : ℕ × ℕ) (items : List BuiltItem)
    → AreBuilt e position items
    → AreBuilt e position (map (placed_item at) items)
built_placed at e position [] built = tt
built_placed at e position (SetAddress a ∷ items) built =
    (tt, built_placed at e (position_after (SetAddress a)) items built.1)
built_placed at e position (Row r ∷ items) built = (built.0, built_placed at e (position_after (Row r)) items built.1)
built_placed at e position (End offset op_index ∷ items) built =
    (built.0, built_placed at e (position_after (End offset op_index)) items built.1)

fit_placed : (at : Placement) (version : ℕ) (items : List BuiltItem) → AreFit version items
    → AreFit version (map (placed_item at) items)
fit_placed at version [] fit = tt
fit_placed at version (SetAddress a ∷ items) fit = (tt, fit_placed at version items fit.1)
fit_placed at version (Row r ∷ items) fit = (fit.0, fit_placed at version items fit.1)
fit_placed at version (End offset op_index ∷ items) fit = (tt, fit_placed at version items fit.1)

pub is-built : (at : Placement) (p : Built) → IsBuilt p → IsBuilt (placed_program at p)
is-built at p built = record {
  is = record {
    lines = built.is.lines;
    address_size = built.is.address_size;
    working_dir = built.is.working_dir;
    source_file = built.is.source_file;
    directories_not_empty = grind arith;
    paths_not_empty = grind arith;
    items_built = built_placed at _ _ _ built.is.items_built;
  };
  tables = built.tables;
  items_fit = fit_placed at _ _ built.items_fit;
  files_fit = built.files_fit;
}

pub can-write : (at : Placement) (p : Built) (texts : StringTables) → CanWrite p texts
    → CanWrite (placed_program at p) texts
can-write at p texts can = grind arith
