-- The bytes of a unit spell a header.
use Rattle.std.specs.Prelude.{◌≡◌, ◌+◌, ◌-◌, ◌<◌, ◌≤◌, ◌^◌, ◌∷◌, ◌++◌, if◌then◌else◌}
use Rattle.gimli_build.proofs
use proofs.Common
use Common.{ℕ, Bool, List, [], length, option_map, Ok, refl, sym, ap, ◌∙◌, arith, append_assoc, Result, nat_le}
use Common.{append-nil, OrderAndLimit, Format, Dwarf64, Hand, length_word, Error, StringTables, Header}
use Common.{UnitEntry, plain_file, Built, IsBuilt, Sections, built_rules, IsUnit, format_word, result_append}
use Common.{opening_bytes, line_encoding_bytes, operand_counts, opcode_bytes, tables_bytes, fields_bytes, program_bytes}
use Common.{escape_bytes, whole_bytes}
use Rattle.std.proofs.lemmas.List.{length-append}
use Rattle.gimli_core.specs.declared.error.Error.TheVariants.{OpcodeBaseZero}
use Rattle.gimli_line.specs.header.HeaderGrammar.{
  HeaderOpening,
  handed_value,
  parameters_production,
  opening_production,
  fields_production,
  header_production,
}
use proofs.writing.WrittenParts.{both_written, after_written, before_written, counted_written}
use proofs.spellings.EncodingSpellings.{
  positive-spelled,
  encoding-spelled,
  version-spelled,
  address-spelled,
  offset-spelled,
  length-spelled,
}
use proofs.reading.TablesBack.{TablesBack}

-- ---- a unit that was written, and its parts

pub record UnitWritten (hand : Hand) (is_big : Bool) (p : Built) (texts : StringTables) (unit : List ℕ) : Type 0 where
  pub length_bytes : List ℕ
  pub opening : List ℕ
  pub size : List ℕ
  pub fields : List ℕ
  pub program : List ℕ
  pub inside : List ℕ
  pub length_is : length_word is_big p.encoding.format (length inside) ≡ Ok length_bytes
  pub opening_is : opening_bytes is_big p.encoding ≡ Ok opening
  pub size_is : format_word is_big p.encoding.format (length fields) ≡ Ok size
  pub fields_are : fields_bytes hand is_big p texts ≡ Ok fields
  pub program_is : program_bytes hand is_big p ≡ Ok program
  pub inside_is : inside ≡ opening ++ ((size ++ fields) ++ program)
  pub whole : unit ≡ (escape_bytes is_big p.encoding.format ++ length_bytes) ++ inside

-- a front in two parts
front_in_two : (whole front rest first second : List ℕ) → whole ≡ front ++ rest → front ≡ first ++ second
    → whole ≡ (first ++ second) ++ rest
front_in_two whole front rest first second is parts = grind arith

-- a rest in three parts
rest_in_three : (whole first rest header size fields last : List ℕ) → whole ≡ first ++ rest → rest ≡ header ++ last
    → header ≡ size ++ fields
    → whole ≡ first ++ ((size ++ fields) ++ last)
rest_in_three whole first rest header size fields last is parts inner = grind arith

pub unit_written : (hand : Hand) (is_big : Bool) (p : Built) (texts : StringTables) (unit : List ℕ)
    → whole_bytes hand is_big p texts ≡ Ok unit → UnitWritten hand is_big p texts unit
unit_written hand is_big p texts unit is =
    let escape = escape_bytes is_big p.encoding.format in
    let word : ℕ → Result (List ℕ) Error = λ n. length_word is_big p.encoding.format n in
    let a = counted_written (λ n. result_append (Ok escape) (word n)) _ _ is in
    let b = after_written _ _ _ a.size_is in
    let c = both_written _ _ _ a.inside_is in
    let d = both_written _ _ _ c.rest_is in
    let e = counted_written (λ n. format_word is_big p.encoding.format n) _ _ d.first_is in
    record {
      length_bytes = b.rest;
      opening = c.first;
      size = e.size;
      fields = e.inside;
      program = d.rest;
      inside = a.inside;
      length_is = b.rest_is;
      opening_is = c.first_is;
      size_is = e.size_is;
      fields_are = e.inside_is;
      program_is = d.rest_is;
      inside_is = rest_in_three _ _ _ _ e.size e.inside _ c.whole d.whole e.whole;
      whole = front_in_two _ _ _ escape b.rest a.whole b.whole;
    }

-- the fields, and their parts
pub record FieldsWritten (hand : Hand) (is_big : Bool) (p : Built) (texts : StringTables) (fields : List ℕ)
    : Type 0 where
  encoding : List ℕ
  pub tables : List ℕ
  encoding_is : line_encoding_bytes p.encoding.version p.line_encoding ≡ Ok encoding
  pub tables_are : tables_bytes hand is_big p texts ≡ Ok tables
  whole : fields ≡ (encoding ++ 13 ∷ []) ++ (operand_counts ++ tables)

pub fields_written : (hand : Hand) (is_big : Bool) (p : Built) (texts : StringTables) (fields : List ℕ)
    → fields_bytes hand is_big p texts ≡ Ok fields
    → FieldsWritten hand is_big p texts fields
fields_written hand is_big p texts fields is =
    let a = both_written _ _ _ is in
    let b = after_written opcode_bytes _ _ a.rest_is in
    record {
      encoding = a.first;
      tables = b.rest;
      encoding_is = a.first_is;
      tables_are = b.rest_is;
      whole =
          a.whole ∙ ap (λ l. a.first ++ l) b.whole ∙ sym (append_assoc a.first (13 ∷ []) (operand_counts ++ b.rest));
    }

-- what is written of a unit is no longer than the unit
pub inside-short : (hand : Hand) (is_big : Bool) (p : Built) (texts : StringTables) (unit : List ℕ)
    (w : UnitWritten hand is_big p texts unit) → length w.inside ≤ length unit
inside-short hand is_big p texts unit w = grind (arith, length-append)

-- in the 64-bit format twelve bytes stand before what the unit length counts
length_wide : (is_big : Bool) (format : Format) (n : ℕ) (word : List ℕ) → format ≡ Dwarf64
    → length_word is_big format n ≡ Ok word
    → length (escape_bytes is_big format ++ word) ≡ 12
length_wide is_big format n word wide is = grind arith

inside-wide : (hand : Hand) (is_big : Bool) (p : Built) (texts : StringTables) (unit : List ℕ)
    (w : UnitWritten hand is_big p texts unit)
    → p.encoding.format ≡ Dwarf64
    → length w.inside + 12 ≡ length unit
inside-wide hand is_big p texts unit w wide = grind (arith, length_wide, length-append)

pub fields-short : (hand : Hand) (is_big : Bool) (p : Built) (texts : StringTables) (unit : List ℕ)
    (w : UnitWritten hand is_big p texts unit) → length w.fields ≤ length w.inside
fields-short hand is_big p texts unit w = grind (arith, length-append)

-- the tables are no longer than the fields
pub tables-short : (hand : Hand) (is_big : Bool) (p : Built) (texts : StringTables) (fields : List ℕ)
    (w : FieldsWritten hand is_big p texts fields) → length w.tables ≤ length fields
tables-short hand is_big p texts fields w = grind (arith, length-append)

-- ---- the header

module _ (hand : Hand) (layout : OrderAndLimit) (unit_entry : UnitEntry) (sections : Sections) (p : Built)
    (texts : StringTables) (built : IsBuilt p) where
  abbrev pub Tables : List ℕ → Type 0
  Tables bytes = TablesBack layout unit_entry sections p texts bytes

  abbrev pub header_of : (bytes : List ℕ) → Tables bytes → ℕ → ℕ → List ℕ → Header
  header_of bytes t unit_size fields_size program = record {
    parameters = built_rules p.encoding p.line_encoding;
    unit_length = unit_size;
    header_length = fields_size;
    operand_counts = operand_counts;
    directory_formats = t.directory_formats;
    directories = t.directories;
    file_formats = t.file_formats;
    files = t.files;
    program = program;
    comp_dir = handed_value p.encoding unit_entry.directory;
    comp_file = handed_value p.encoding (option_map (λ path. plain_file path 0 0 0) unit_entry.name);
  }

  abbrev opening_of : List ℕ → HeaderOpening
  opening_of fields = record { encoding = p.encoding; header_length = length fields; fields = fields }

  rules_spelled : (bytes : List ℕ) → line_encoding_bytes p.encoding.version p.line_encoding ≡ Ok bytes
      → (parameters_production p.encoding).Spells (bytes ++ 13 ∷ []) (built_rules p.encoding p.line_encoding)
  unfolding parameters_production
  rules_spelled bytes is = (
    p.line_encoding,
    bytes,
    13 ∷ [],
    refl,
    encoding-spelled _ _ _ built.is.lines is,
    (13, 13 ∷ [], [], refl, positive-spelled _ OpcodeBaseZero (omega arith), (refl, refl)),
  )

  fields_spelled : (unit_size : ℕ) (fields program : List ℕ) (w : FieldsWritten hand layout.is_big p texts fields)
      (t : Tables w.tables)
      → (fields_production layout unit_entry unit_size (opening_of fields) program).Spells fields
      (header_of w.tables t unit_size (length fields) program)
  unfolding fields_production
  fields_spelled unit_size fields program w t = (
    built_rules p.encoding p.line_encoding,
    w.encoding ++ 13 ∷ [],
    operand_counts ++ w.tables,
    w.whole,
    rules_spelled _ w.encoding_is,
    (
      operand_counts,
      operand_counts,
      w.tables,
      refl,
      (refl, refl),
      (
        (t.directory_formats, t.directories),
        t.directory_bytes,
        t.file_bytes,
        t.whole,
        t.directories_spelled,
        ((t.file_formats, t.files), t.file_bytes, [], sym (append-nil _), t.files_spelled, (refl, refl)),
      ),
    ),
  )

  -- the fields in front of those, read with the address size of the program
  opening_spelled : (opening size fields : List ℕ) → unit_entry.address_size ≡ p.encoding.address_size
      → (p.encoding.format ≡ Dwarf64 → length fields < layout.limit) → length fields < 2 ^ 64
      → opening_bytes layout.is_big p.encoding ≡ Ok opening
      → format_word layout.is_big p.encoding.format (length fields) ≡ Ok size
      → (opening_production layout unit_entry.address_size p.encoding.format).Spells (opening ++ (size ++ fields))
      (opening_of fields)
  unfolding opening_production
  opening_spelled opening size fields same holds small opening_is size_is =
      let address = if nat_le p.encoding.version 4 then [] else p.encoding.address_size ∷ 0 ∷ [] in
      let b = before_written _ _ _ opening_is in (
        p.encoding.version,
        b.front,
        address ++ (size ++ fields),
        ap (λ l. l ++ (size ++ fields)) b.whole ∙ append_assoc b.front address (size ++ fields),
        version-spelled _ _ _ b.front_is,
        (
          p.encoding.address_size,
          address,
          size ++ fields,
          refl,
          address-spelled _ _ _ same (built.is.address_size refl),
          (
            length fields,
            size,
            fields,
            refl,
            offset-spelled _ _ _ _ holds small size_is,
            (fields, fields, [], sym (append-nil _), (refl, refl), (refl, refl)),
          ),
        ),
      )

  module _ (unit : List ℕ) (w : UnitWritten hand layout.is_big p texts unit)
      (v : FieldsWritten hand layout.is_big p texts w.fields)
      (t : Tables v.tables)
      (same : unit_entry.address_size ≡ p.encoding.address_size)
      (holds : p.encoding.format ≡ Dwarf64 → length unit - 12 < layout.limit)
      (small : length unit < 2 ^ 64) where
    abbrev header : Header
    header = header_of v.tables t (length w.inside) (length w.fields) w.program

    unit_fields : (fields_production layout unit_entry (length w.inside) (opening_of w.fields) w.program).Spells
        w.fields header
    unit_fields = fields_spelled _ _ _ v t

    unit_spelled : (header_production layout unit_entry).Spells unit header
    unfolding header_production
    unit_spelled =
        let inside = inside-short hand layout.is_big p texts _ w in
        let fields = fields-short hand layout.is_big p texts unit w in
        let inside_held : p.encoding.format ≡ Dwarf64 → length w.inside < layout.limit = λ wide.
        (let rest = inside-wide hand layout.is_big p texts _ w wide in let lt = holds wide in
        omega arith) in
        let fields_held : p.encoding.format ≡ Dwarf64 → length w.fields < layout.limit = λ wide.
        (let lt = inside_held wide in omega (arith, lt)) in
        let length_spelled = length-spelled _ _ _ _ inside_held (omega arith) w.length_is in
        let opened = opening_spelled _ _ _ same fields_held (omega arith) w.opening_is w.size_is in
        let parted = w.inside_is
        ∙ sym (append_assoc w.opening (w.size ++ w.fields) w.program) in (
          (length w.inside, p.encoding.format),
          escape_bytes layout.is_big p.encoding.format ++ w.length_bytes,
          w.inside,
          w.whole,
          length_spelled,
          (
            w.inside,
            w.inside,
            [],
            sym (append-nil _),
            (refl, refl),
            (
              (opening_of w.fields, w.program),
              [],
              [],
              refl,
              (refl, (w.opening ++ (w.size ++ w.fields), parted, opened)),
              ((header, []), [], [], refl, (refl, (w.fields, sym (append-nil _), unit_fields)), (refl, refl)),
            ),
          ),
        )

    unit_parts : unit
        ≡ ((escape_bytes layout.is_big p.encoding.format ++ w.length_bytes) ++ (w.opening ++ w.size)) ++ w.fields
        ++ w.program
    unit_parts = grind (arith, append_assoc)

    pub unit-is : IsUnit layout unit_entry unit (header_of v.tables t (length w.inside) (length w.fields) w.program)
    unit-is = record {
      spelled = unit_spelled;
      opening = opening_of w.fields;
      before = (escape_bytes layout.is_big p.encoding.format ++ w.length_bytes) ++ (w.opening ++ w.size);
      parts = unit_parts;
      whole = refl;
      no_slack = unit_fields;
    }
