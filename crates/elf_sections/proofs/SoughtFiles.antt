-- A file that is read by its parts has the sections that it has as a whole: the steps.
use Rattle.std.proofs.Common.{◌≡◌, refl, sym, ◌∙◌, ap, ℕ, ◌+◌, ◌-◌, ◌*◌, ◌≤◌, List, [], length, take, drop, true, false}
use Rattle.std.proofs.Common.{if◌then◌else◌, nat_eq, nat_lt, Option}
use Rattle.std.proofs.Common.{Some, None, Result, Ok, Err, slice_get, length-take, length-drop, arith}
use Rattle.std.proofs.lemmas.Bool.Decides.{nat_tests}
use Rattle.std.proofs.Math.Nat.{zero-mul}
use Rattle.std.specs.List.{slice_range}
use Rattle.std.specs.Option.{option_map}
use Rattle.elf_sections.specs.Steps.{◌>>=◌}
use Rattle.elf_sections.specs.Layout.{layout_at}
use Rattle.elf_sections.specs.Header.{header_at}
use Rattle.elf_sections.specs.SectionHeader.{section_header_size, section_header, has_flag, section_bytes}
use Rattle.elf_sections.specs.Table.{Table, section_headers, count_of, names_index_of, table_at, names_or_cut, names_in}
use Rattle.elf_sections.specs.Table.{names_at}
use Rattle.elf_sections.specs.File.{File, file_at, bytes_in, section_named, section_at}
use Rattle.elf_sections.specs.FileRange.{bytes_at, nowhere, range_in, or_refused, header_range}
use Rattle.elf_sections.specs.Seeking.{TablePlace, Listed, first_range, no_table, table_with, table_by, table_in}
use Rattle.elf_sections.specs.Seeking.{range_or_cut, names_of_header, names_in_table}
use Rattle.elf_sections.specs.Seeking.{names_range, list_by, range_of, range_named, listed, listed_of, listed_at}
use Rattle.elf_sections.specs.Seeking.{section_in, read_at}
use Rattle.elf_sections.specs.declared.error.ElfError.{ElfError}
use Rattle.elf_sections.specs.declared.error.ElfError.TheVariants.{SectionHeaderSize, SectionTableCut, SectionCut}
use Rattle.elf_sections.specs.declared.error.ElfError.TheVariants.{Compressed}
use Rattle.elf_sections.specs.declared.file_range.FileRange.{FileRange}
use Rattle.elf_sections.specs.declared.header.Header.{Header}
use Rattle.elf_sections.specs.declared.layout.Layout.{Layout}
use Rattle.elf_sections.specs.declared.section_header.SectionHeader.{SectionHeader}
use Rattle.elf_sections.specs.declared.seeking.FileHeader.{FileHeader}
use Rattle.elf_sections.proofs.Seeks.{layout_in, header_in, entry_in, headers_in}

then_map : {A B C : Type 0} (r : Result A ElfError) (f : A → B) (g : B → C)
    → ((r >>= λ x. Ok (f x)) >>= λ y. Ok (g y)) ≡ (r >>= λ x. Ok (g (f x)))
then_map (Ok x) f g = refl
then_map (Err e) f g = refl

-- ---- the bytes of a section

pub header_found : (bytes : List ℕ) (header : SectionHeader)
    → (header_range (length bytes) header >>= λ range. Ok (bytes_at bytes range)) ≡ section_bytes bytes header
header_found bytes header =
    elim (has_flag header 0x800) as (λ b.
    ((if b then Err Compressed
    else (if nat_eq header.kind 8 then Ok nowhere
    else or_refused SectionCut (range_in header.offset header.size (length bytes)))) >>= λ range.
    Ok (bytes_at bytes range))
    ≡ (if b then Err Compressed
    else (if nat_eq header.kind 8 then Ok []
    else (if nat_lt (length bytes) (header.offset + header.size) then Err SectionCut
    else Ok (slice_range bytes header.offset (header.offset + header.size)))))) [
      | true ↦ refl
      | false ↦ elim (nat_eq header.kind 8) as (λ b.
          ((if b then Ok nowhere
          else or_refused SectionCut (range_in header.offset header.size (length bytes))) >>= λ range.
          Ok (bytes_at bytes range))
          ≡ (if b then Ok []
          else (if nat_lt (length bytes) (header.offset + header.size) then Err SectionCut
          else Ok (slice_range bytes header.offset (header.offset + header.size))))) [
            | true ↦ refl
            | false ↦ elim (nat_lt (length bytes) (header.offset + header.size)) as (λ b.
                (or_refused SectionCut
                (if b then None else Some (record { offset = header.offset; size = header.size }))
                >>= λ range. Ok (bytes_at bytes range))
                ≡ (if b then Err SectionCut else Ok (slice_range bytes header.offset (header.offset + header.size))))
                [ true ↦ refl | false ↦ refl ]
          ]
    ]

-- ---- the names

or_cut : (bytes : List ℕ) (r : Result FileRange ElfError)
    → (range_or_cut r >>= λ range. Ok (bytes_at bytes range)) ≡ names_or_cut (r >>= λ range. Ok (bytes_at bytes range))
or_cut bytes (Ok range) = refl
or_cut bytes (Err e) = refl

names_of : (bytes : List ℕ) (found : Option SectionHeader)
    → (names_of_header (length bytes) found >>= λ range. Ok (bytes_at bytes range)) ≡ names_in bytes found
names_of bytes None = refl
names_of bytes (Some header) =
    or_cut bytes (header_range (length bytes) header) ∙ ap names_or_cut (header_found bytes header)

names_found : (bytes : List ℕ) (table : Table)
    → (names_in_table (length bytes) table >>= λ range. Ok (bytes_at bytes range)) ≡ names_at bytes table
names_found bytes table =
    elim (nat_eq table.names_index 0) as (λ b.
    ((if b then Ok nowhere else names_of_header (length bytes) (slice_get table.headers table.names_index))
    >>= λ range. Ok (bytes_at bytes range))
    ≡ (if b then Ok [] else names_in bytes (slice_get table.headers table.names_index)))
    [ true ↦ refl | false ↦ names_of bytes (slice_get table.headers table.names_index) ]

-- ---- the sections, by a table

abbrev with_table : TablePlace → Table → List ℕ → Listed
with_table place table names = record {
  layout = place.layout;
  kind = place.kind;
  length = place.length;
  headers = table.headers;
  names = names;
}

abbrev rest_of : List ℕ → TablePlace → Result Listed ElfError
rest_of bytes place =
    names_range place (bytes_at bytes place.range) >>= λ names.
    list_by place (bytes_at bytes place.range) (bytes_at bytes names)

list_found : (bytes : List ℕ) (place : TablePlace) (table : Table) → place.length ≡ length bytes
    → table_in place (bytes_at bytes place.range) ≡ Ok table
    → rest_of bytes place ≡ (names_at bytes table >>= λ names. Ok (with_table place table names))
list_found bytes place table size is =
    (λ i. (is i >>= λ t. names_in_table (size i) t) >>= λ names.
    (is i >>= λ t. Ok (with_table place t (bytes_at bytes names))))
    ∙ sym (then_map (names_in_table (length bytes) table) (bytes_at bytes) (with_table place table))
    ∙ ap (λ (r : Result (List ℕ) ElfError). r >>= λ names. Ok (with_table place table names)) (names_found bytes table)

-- ---- the table

module _ (bytes : List ℕ) (layout : Layout) (header : Header) where
  abbrev known : FileHeader
  known = record { layout = layout; header = header; length = length bytes }

  abbrev whole : Table → Result Listed ElfError
  whole table =
      (names_at bytes table >>= λ names.
      Ok (record {
        bytes = bytes;
        layout = layout;
        kind = header.kind;
        machine = header.machine;
        headers = table.headers;
        names = names;
      }))
      >>= λ file. Ok (listed_of file)

  at_place : (place : TablePlace) (table : Table) → place.layout ≡ layout → place.kind ≡ header.kind
      → place.length ≡ length bytes
      → table_in place (bytes_at bytes place.range) ≡ Ok table → rest_of bytes place ≡ whole table
  at_place place table same kind size is =
      list_found bytes place table size is
      ∙ (λ i. names_at bytes table >>= λ names.
      Ok (record { layout = same i; kind = kind i; length = size i; headers = table.headers; names = names }))
      ∙ sym (then_map (names_at bytes table)
      (λ names. record {
        bytes = bytes;
        layout = layout;
        kind = header.kind;
        machine = header.machine;
        headers = table.headers;
        names = names;
      })
      listed_of)

  without_table : rest_of bytes (no_table known) ≡ whole (record { headers = []; names_index = 0 })
  without_table =
      at_place (no_table known) (record { headers = []; names_index = 0 }) refl refl refl
      (ap (λ n. if nat_lt 0 n then Err SectionTableCut else Ok (record { headers = []; names_index = 0 }))
      (zero-mul (section_header_size layout.class)))

  -- the first entry, and all of them, by the parts that hold them
  abbrev first : SectionHeader
  first = section_header layout (drop header.table_offset bytes)

  abbrev size : ℕ
  size = count_of header first * header.entry_size

  abbrev entries_range : FileRange
  entries_range = record { offset = header.table_offset; size = size }

  abbrev place : TablePlace
  place = record {
    layout = layout;
    kind = header.kind;
    length = length bytes;
    range = entries_range;
    entry_size = header.entry_size;
    count = count_of header first;
    names_index = names_index_of header first;
  }

  abbrev table : Table
  table = record {
    headers = section_headers layout header.entry_size (count_of header first) (drop header.table_offset bytes);
    names_index = names_index_of header first;
  }

  part_length : (offset n : ℕ) → offset + n ≤ length bytes → length (slice_range bytes offset (offset + n)) ≡ n
  part_length offset n h =
      let taken = length-take (offset + n - offset) (drop offset bytes) in
      let dropped = length-drop offset bytes in
      omega arith

  part_is : (offset n : ℕ) → slice_range bytes offset (offset + n) ≡ take n (drop offset bytes)
  part_is offset n = let same : offset + n - offset ≡ n = omega arith in ap (λ k. take k (drop offset bytes)) same

  not_shorter : (n m : ℕ) → m ≤ n → nat_lt n m ≡ false
  not_shorter n m h = grind (arith, nat_tests)

  entries_found : section_header_size layout.class ≤ header.entry_size → header.table_offset + size ≤ length bytes
      → rest_of bytes place ≡ whole table
  entries_found wide fits =
      let enough : nat_lt (length (bytes_at bytes entries_range)) size ≡ false
      =
      not_shorter (length (bytes_at bytes entries_range)) size
      (let e = part_length header.table_offset size fits in omega arith) in
      let same =
      ap (section_headers layout header.entry_size (count_of header first)) (part_is header.table_offset size)
      ∙ headers_in layout header.entry_size (count_of header first) (drop header.table_offset bytes) wide in
      at_place place table refl refl refl
      (λ i. if enough i then Err SectionTableCut
      else Ok (record { headers = same i; names_index = names_index_of header first }))

  abbrev after_first : Result Listed ElfError
  after_first =
      (if nat_lt (length bytes) (header.table_offset + size) then Err SectionTableCut else Ok table) >>= whole

  with_first : section_header_size layout.class ≤ header.entry_size
      → (table_with known first >>= rest_of bytes) ≡ after_first
  with_first wide =
      (elim (nat_lt (length bytes) (header.table_offset + size)) as (λ b.
      nat_lt (length bytes) (header.table_offset + size) ≡ b
      → ((or_refused SectionTableCut (if b then None else Some entries_range) >>= λ range.
      Ok (record place { range = range })) >>= rest_of bytes)
      ≡ ((if b then Err SectionTableCut else Ok table) >>= whole)) [
        | true ↦ λ e. refl
        | false ↦
            λ e.
            entries_found wide (let fits : header.table_offset + size ≤ length bytes = grind (arith, nat_tests) in fits)
      ]) refl

  abbrev width : ℕ
  width = section_header_size layout.class

  abbrev first_part : FileRange
  first_part = record { offset = header.table_offset; size = width }

  first_found : width ≤ header.entry_size → header.table_offset + width ≤ length bytes
      → ((if nat_lt (length (bytes_at bytes first_part)) width then Err SectionTableCut
      else table_with known (section_header layout (bytes_at bytes first_part))) >>= rest_of bytes) ≡ after_first
  first_found wide fits =
      let enough : nat_lt (length (bytes_at bytes first_part)) width ≡ false
      =
      not_shorter (length (bytes_at bytes first_part)) width
      (let e = part_length header.table_offset width fits in omega arith) in
      let same = ap (section_header layout) (part_is header.table_offset width)
      ∙ entry_in layout width (drop header.table_offset bytes) (omega arith) in
      (λ i. (if enough i then Err SectionTableCut else table_with known (same i)) >>= rest_of bytes)
      ∙ with_first wide

  -- the entries are wide enough
  wide_found : width ≤ header.entry_size
      → ((or_refused SectionTableCut (range_in header.table_offset width (length bytes)) >>= λ range.
      (or_refused SectionTableCut (range_in header.table_offset width (length bytes)) >>= λ again.
      (if nat_lt (length (bytes_at bytes range)) width then Err SectionTableCut
      else table_with known (section_header layout (bytes_at bytes range))))) >>= rest_of bytes)
      ≡ ((if nat_lt (length bytes) (header.table_offset + width) then Err SectionTableCut
      else (if nat_lt (length bytes) (header.table_offset + size) then Err SectionTableCut else Ok table)) >>= whole)
  wide_found wide =
      (elim (nat_lt (length bytes) (header.table_offset + width)) as (λ b.
      nat_lt (length bytes) (header.table_offset + width) ≡ b
      → ((or_refused SectionTableCut (if b then None else Some first_part) >>= λ range.
      (or_refused SectionTableCut (if b then None else Some first_part) >>= λ again.
      (if nat_lt (length (bytes_at bytes range)) width then Err SectionTableCut
      else table_with known (section_header layout (bytes_at bytes range))))) >>= rest_of bytes)
      ≡ ((if b then Err SectionTableCut
      else (if nat_lt (length bytes) (header.table_offset + size) then Err SectionTableCut else Ok table)) >>= whole)) [
        | true ↦ λ e. refl
        | false ↦
            λ e.
            first_found wide (let fits : header.table_offset + width ≤ length bytes = grind (arith, nat_tests) in fits)
      ]) refl

  -- the table, by the first entry and then by all of them
  table_found : ((first_range known >>= λ range. table_by known (bytes_at bytes range)) >>= rest_of bytes)
      ≡ (table_at layout header bytes >>= whole)
  table_found =
      elim (nat_eq header.table_offset 0) as (λ b.
      (((if b then Ok nowhere
      else (if nat_lt header.entry_size width then Err (SectionHeaderSize header.entry_size)
      else or_refused SectionTableCut (range_in header.table_offset width (length bytes)))) >>= λ range.
      ((if b then Ok nowhere
      else (if nat_lt header.entry_size width then Err (SectionHeaderSize header.entry_size)
      else or_refused SectionTableCut (range_in header.table_offset width (length bytes)))) >>= λ again.
      (if b then Ok (no_table known)
      else (if nat_lt (length (bytes_at bytes range)) width then Err SectionTableCut
      else table_with known (section_header layout (bytes_at bytes range)))))) >>= rest_of bytes)
      ≡ ((if b then Ok (record { headers = []; names_index = 0 })
      else (if nat_lt header.entry_size width then Err (SectionHeaderSize header.entry_size)
      else (if nat_lt (length bytes) (header.table_offset + width) then Err SectionTableCut
      else (if nat_lt (length bytes) (header.table_offset + size) then Err SectionTableCut
      else Ok table)))) >>= whole)) [
        | true ↦ without_table
        | false ↦ (elim (nat_lt header.entry_size width) as (λ b. nat_lt header.entry_size width ≡ b →
            (((if b then Err (SectionHeaderSize header.entry_size)
            else or_refused SectionTableCut (range_in header.table_offset width (length bytes))) >>= λ range.
            ((if b then Err (SectionHeaderSize header.entry_size)
            else or_refused SectionTableCut (range_in header.table_offset width (length bytes))) >>= λ again.
            (if nat_lt (length (bytes_at bytes range)) width then Err SectionTableCut
            else table_with known (section_header layout (bytes_at bytes range))))) >>= rest_of bytes)
            ≡ ((if b then Err (SectionHeaderSize header.entry_size)
            else (if nat_lt (length bytes) (header.table_offset + width) then Err SectionTableCut
            else (if nat_lt (length bytes) (header.table_offset + size) then Err SectionTableCut else Ok table)))
            >>= whole)) [
              | true ↦ λ e. refl
              | false ↦ λ e. wide_found (let wide : width ≤ header.entry_size = grind (arith, nat_tests) in wide)
            ]) refl
      ]

-- ---- the file

then_then : {A B C : Type 0} (r : Result A ElfError) (f : A → Result B ElfError) (g : B → Result C ElfError)
    → ((r >>= f) >>= g) ≡ (r >>= λ x. f x >>= g)
then_then (Ok x) f g = refl
then_then (Err e) f g = refl

abbrev parts_of : List ℕ → FileHeader → Result Listed ElfError
parts_of bytes file = first_range file >>= λ first. table_by file (bytes_at bytes first) >>= rest_of bytes

by_header : (bytes : List ℕ) (layout : Layout) (r : Result Header ElfError)
    → ((r >>= λ header. Ok (record { layout = layout; header = header; length = length bytes })) >>= parts_of bytes)
    ≡ ((r >>= λ header.
    table_at layout header bytes >>= λ table.
    names_at bytes table >>= λ names.
    Ok (record {
      bytes = bytes;
      layout = layout;
      kind = header.kind;
      machine = header.machine;
      headers = table.headers;
      names = names;
    }))
    >>= λ file. Ok (listed_of file))
by_header bytes layout (Err e) = refl
by_header bytes layout (Ok header) =
    sym (then_then (first_range (known bytes layout header))
    (λ range. table_by (known bytes layout header) (bytes_at bytes range)) (rest_of bytes))
    ∙ table_found bytes layout header
    ∙ sym (then_then (table_at layout header bytes)
    (λ table. names_at bytes table >>= λ names.
    Ok (record {
      bytes = bytes;
      layout = layout;
      kind = header.kind;
      machine = header.machine;
      headers = table.headers;
      names = names;
    }))
    (λ file. Ok (listed_of file)))

by_layout : (bytes : List ℕ) (r : Result Layout ElfError)
    → ((r >>= λ layout. header_at layout bytes >>= λ header.
    Ok (record { layout = layout; header = header; length = length bytes })) >>= parts_of bytes)
    ≡ ((r >>= λ layout. header_at layout bytes >>= λ header.
    table_at layout header bytes >>= λ table.
    names_at bytes table >>= λ names.
    Ok (record {
      bytes = bytes;
      layout = layout;
      kind = header.kind;
      machine = header.machine;
      headers = table.headers;
      names = names;
    }))
    >>= λ file. Ok (listed_of file))
by_layout bytes (Err e) = refl
by_layout bytes (Ok layout) = by_header bytes layout (header_at layout bytes)

-- what is known of it by its parts is what it is
pub sought_is_whole : (bytes : List ℕ) → listed bytes ≡ listed_at bytes
sought_is_whole bytes =
    (λ i. (layout_in bytes i >>= λ layout. header_in layout bytes i >>= λ header.
    Ok (record { layout = layout; header = header; length = length bytes })) >>= parts_of bytes)
    ∙ by_layout bytes (layout_at bytes)

-- ---- a section of it

-- a file has the bytes that it is read from
abbrev pub Keeps : List ℕ → Result File ElfError → Type 0
Keeps bytes (Ok file) = file.bytes ≡ bytes
Keeps bytes (Err e) = Unit {0}

kept_names : (bytes : List ℕ) (layout : Layout) (header : Header) (table : Table) (r : Result (List ℕ) ElfError)
    → Keeps bytes (r >>= λ names.
    Ok (record {
      bytes = bytes;
      layout = layout;
      kind = header.kind;
      machine = header.machine;
      headers = table.headers;
      names = names;
    }))
kept_names bytes layout header _ (Ok names) = refl
kept_names bytes layout header _ (Err e) = tt

kept_table : (bytes : List ℕ) (layout : Layout) (header : Header) (r : Result Table ElfError)
    → Keeps bytes (r >>= λ table. names_at bytes table >>= λ names.
    Ok (record {
      bytes = bytes;
      layout = layout;
      kind = header.kind;
      machine = header.machine;
      headers = table.headers;
      names = names;
    }))
kept_table bytes layout header (Ok table) = kept_names bytes layout header table (names_at bytes table)
kept_table bytes layout header (Err e) = tt

kept_header : (bytes : List ℕ) (layout : Layout) (r : Result Header ElfError)
    → Keeps bytes (r >>= λ header. table_at layout header bytes >>= λ table. names_at bytes table >>= λ names.
    Ok (record {
      bytes = bytes;
      layout = layout;
      kind = header.kind;
      machine = header.machine;
      headers = table.headers;
      names = names;
    }))
kept_header bytes layout (Ok header) = kept_table bytes layout header (table_at layout header bytes)
kept_header bytes layout (Err e) = tt

pub kept_layout : (bytes : List ℕ) (r : Result Layout ElfError)
    → Keeps bytes (r >>= λ layout. header_at layout bytes >>= λ header.
    table_at layout header bytes >>= λ table. names_at bytes table >>= λ names.
    Ok (record {
      bytes = bytes;
      layout = layout;
      kind = header.kind;
      machine = header.machine;
      headers = table.headers;
      names = names;
    }))
kept_layout bytes (Ok layout) = kept_header bytes layout (header_at layout bytes)
kept_layout bytes (Err e) = tt

found_in : (bytes : List ℕ) (found : Option SectionHeader)
    → bytes_in bytes found ≡ (range_of (length bytes) found >>= λ range. Ok (option_map (bytes_at bytes) range))
found_in bytes None = refl
found_in bytes (Some header) =
    ap (λ (r : Result (List ℕ) ElfError). r >>= λ b. Ok (Some b)) (sym (header_found bytes header))
    ∙ then_map (header_range (length bytes) header) (bytes_at bytes) (λ b. Some b)
    ∙ sym (then_map (header_range (length bytes) header) (λ range. Some range) (option_map (bytes_at bytes)))

by_file : (bytes name : List ℕ) (list : Listed) (r : Result File ElfError) → Keeps bytes r
    → (r >>= λ file. Ok (listed_of file)) ≡ Ok list
    → (r >>= λ file. section_at file name) ≡ (range_named list name >>= λ range. Ok (option_map (bytes_at bytes) range))
by_file bytes name list (Err e) kept is = absurd (cc)
by_file bytes name list (Ok file) kept is =
    let same : listed_of file ≡ list = cc in
    (λ i. bytes_in (kept i) (section_named file name))
    ∙ found_in bytes (section_named file name)
    ∙ (λ i. range_of (length (sym kept i)) (section_named file name) >>= λ range.
    Ok (option_map (bytes_at bytes) range))
    ∙ ap (λ (l : Listed). range_named l name >>= λ range. Ok (option_map (bytes_at bytes) range)) same

pub sought_section : (bytes name : List ℕ) (list : Listed) → listed bytes ≡ Ok list
    → section_in bytes name ≡ (range_named list name >>= λ range. Ok (option_map (bytes_at bytes) range))
sought_section bytes name list is =
    by_file bytes name list (file_at bytes) (kept_layout bytes (layout_at bytes)) (sym (sought_is_whole bytes) ∙ is)

-- ---- what the calls answer

pub by_range : (list : Listed) (name bytes : List ℕ) (r : Result (Option FileRange) ElfError)
    → r ≡ range_named list name
    → listed bytes ≡ Ok list → section_in bytes name ≡ read_at bytes r
by_range list name bytes r e is = sought_section bytes name list is ∙ ap (read_at bytes) (sym e)
