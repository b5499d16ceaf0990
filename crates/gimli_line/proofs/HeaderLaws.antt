-- Reading a header, production by production.
use Rattle.std.specs.Prelude.{◌≡◌, ◌∷◌, ◌⊎◌, if◌then◌else◌}
use Rattle.gimli_core.specs.Form.{
  Shape,
  fixed,
  three_bytes,
  word_offset,
  leb,
  signed_leb,
  leb_offset,
  block,
  counted,
  leb_counted,
  string,
  shapes,
  shape_production,
  form_production,
}
use Rattle.gimli_core.proofs.Readers.{readers}
use Rattle.gimli_line.proofs.Common
use Common.{lookup, nat_eq, ℕ, Bool, true, false, List, [], Option, Some, None, Ok, Err, refl, sym, ap, ◌∙◌, inl, inr}
use Common.{OrderAndLimit, Read, Production, choose, refuse, Reads, Value, Encoding, Format, Error, UnknownForm}
use Common.{reads_refuse, reads_both, reads_done, reads_if, operations_production, positive, TableEntry, HeaderOpening}
use Common.{Header, UnitEntry, FileEntryFormat, SpellsUnit, HasUnitFault}
use Common.{paths_production, file_production, named_file, files_production, format_production, formats_production}
use Common.{entry_production, entries_production, table_production, version_production, address_size_production}
use Common.{opening_production, line_encoding_production, parameters_production, table_of, directory_table, file_table}
use Common.{fields_production, header_production}
use Rattle.gimli_line.proofs.Closed.{ReadsOpen, reads_name, reads_open_both, reads_closed}

-- ---- what is read, in other words

-- a test under the field
pub read_choose : {A : Type 0} (b : Bool) (l m : Production A) (bytes : List ℕ)
    → (choose b l m).read bytes ≡ (if b then l.read bytes else m.read bytes)
read_choose true l m bytes = refl
read_choose false l m bytes = refl

pub reads_positive : (d : Error) → Reads (positive d)
unfolding positive
reads_positive d = search readers

-- ---- the values of forms

module _ (layout : OrderAndLimit) (format : Format) where
  reads_shape : (shape : Shape) → Reads (shape_production layout format shape)
  reads_shape (fixed size make) = search readers
  reads_shape (three_bytes make) = search readers
  reads_shape (word_offset make) = search readers
  reads_shape (leb make) = search readers
  reads_shape (signed_leb make) = search readers
  reads_shape (leb_offset make) = search readers
  reads_shape (block size) = search readers
  reads_shape (counted size) = search readers
  reads_shape leb_counted = search readers
  reads_shape string = search readers

  pub reads_form : (form : ℕ) → Reads (form_production layout format form)
  reads_form form = at_shape (lookup (nat_eq form) shapes)
    where
      at_shape : (found : Option Shape)
          → Reads {A = Value} (elim found
          [ Some shape ↦ shape_production layout format shape | None ↦ refuse (UnknownForm (record { 0 = form })) ])
      at_shape (Some shape) = reads_shape shape
      at_shape None = reads_refuse (UnknownForm (record { 0 = form }))

-- ---- tables up to version 4

pub reads_paths : Reads paths_production
reads_paths = reads_closed _ reads_name

pub reads_file : (path : List ℕ) → Reads (file_production path)
unfolding file_production
reads_file path = search readers

pub reads_named_file : ReadsOpen named_file
reads_named_file = reads_open_both _ _ reads_name reads_file

pub reads_files : Reads files_production
reads_files = reads_closed _ reads_named_file

-- ---- tables of version 5

pub reads_format : Reads format_production
unfolding format_production
reads_format = search readers

pub reads_formats : Reads formats_production
unfolding formats_production
reads_formats = search (readers, reads_format)

module _ (layout : OrderAndLimit) (format : Format) where
  pub reads_entry : (formats : List FileEntryFormat) → Reads (entry_production layout format formats)
  unfolding entry_production
  reads_entry [] = reads_done []
  reads_entry (f ∷ formats) =
      reads_both (reads_form layout format f.form.0) (λ value.
      reads_both (reads_entry formats) (λ values. reads_done _))

  pub reads_entries : (formats : List FileEntryFormat) → Reads (entries_production layout format formats)
  unfolding entries_production
  reads_entries formats = search (readers, reads_entry)

  pub reads_table : Reads (table_production layout format)
  unfolding table_production
  reads_table = search (readers, reads_formats, reads_entries)

-- ---- the parts of a header

pub reads_version : (is_big : Bool) → Reads (version_production is_big)
unfolding version_production
reads_version is_big = search readers

pub reads_size : (version handed : ℕ) → Reads (address_size_production version handed)
unfolding address_size_production
reads_size version handed = search readers

pub reads_opening : (layout : OrderAndLimit) (handed : ℕ) (format : Format)
    → Reads (opening_production layout handed format)
unfolding opening_production
reads_opening layout handed format = search (readers, reads_version, reads_size)

reads_operations : (version : ℕ) → Reads (operations_production version)
reads_operations version = search (readers, reads_positive)

pub reads_line_encoding : (version : ℕ) → Reads (line_encoding_production version)
unfolding line_encoding_production
reads_line_encoding version = search (readers, reads_positive, reads_operations) depth 8

pub reads_parameters : (encoding : Encoding) → Reads (parameters_production encoding)
unfolding parameters_production
reads_parameters encoding = search (readers, reads_line_encoding, reads_positive)

reads_items : {B : Type 0} (plain : Production (List B)) (view : TableEntry → B) (layout : OrderAndLimit)
    (encoding : Encoding)
    → Reads plain
    → Reads (table_of plain view layout encoding)
unfolding table_of
reads_items plain view layout encoding r =
    reads_if _ _ _ (reads_both r (λ items. reads_done _)) (reads_both (reads_table _ _) (λ table. reads_done _))

pub reads_directories : (layout : OrderAndLimit) (encoding : Encoding) → Reads (directory_table layout encoding)
reads_directories layout encoding = search (readers, reads_items, reads_paths)

pub reads_file_names : (layout : OrderAndLimit) (encoding : Encoding) → Reads (file_table layout encoding)
reads_file_names layout encoding = search (reads_items, reads_files)

pub reads_fields : (layout : OrderAndLimit) (unit_entry : UnitEntry) (unit : ℕ) (opening : HeaderOpening)
    (program : List ℕ)
    → Reads (fields_production layout unit_entry unit opening program)
unfolding fields_production
reads_fields layout unit_entry unit opening program =
    search (readers, reads_parameters, reads_directories, reads_file_names)

-- ---- the header

pub reads_header : (layout : OrderAndLimit) (unit_entry : UnitEntry) → Reads (header_production layout unit_entry)
unfolding header_production
reads_header layout unit_entry = search (readers, reads_opening, reads_fields) depth 8

-- ---- a unit, or a refusal

-- what was read
pub data Answer {A : Type 0} (r : Read A) : Type 0 where
  given_ok : (x : A) (rest : List ℕ) → r ≡ (Ok x, rest) → Answer r
  given_err : (e : Error) → r.0 ≡ Err e → Answer r

pub answer_of : {A : Type 0} (r : Read A) → Answer r
answer_of (Ok x, rest) = given_ok x rest refl
answer_of (Err e, rest) = given_err e refl

module _ (layout : OrderAndLimit) (unit_entry : UnitEntry) where
  -- a header that is read is that of the unit in front
  pub unit_found : (bytes : List ℕ) (h : Header) (rest : List ℕ)
      → (header_production layout unit_entry).read bytes ≡ (Ok h, rest)
      → SpellsUnit layout unit_entry bytes h
  unit_found bytes h rest e = let f = (reads_header _ _).found bytes h rest e in (f.0, rest, f.1, f.2)

  -- the same where the bytes after it aren't named
  pub unit_answered : (bytes : List ℕ) (h : Header) → ((header_production layout unit_entry).read bytes).0 ≡ Ok h
      → SpellsUnit layout unit_entry bytes h
  unit_answered bytes h is = at_rest _ refl is
    where
      at_rest : (r : Read Header) → (header_production layout unit_entry).read bytes ≡ r → r.0 ≡ Ok h
          → SpellsUnit layout unit_entry bytes h
      at_rest (Ok k, rest) same is =
          let whole : k
          ≡ h = cc in unit_found _ h _
          (same ∙ ap (λ x. let r : Read Header = (Ok x, rest) in r) whole)
      at_rest _ same is = absurd cc

  -- the header of a unit in front is read
  pub unit_read : (bytes : List ℕ) (h : Header) → SpellsUnit layout unit_entry bytes h
      → ((header_production layout unit_entry).read bytes).0 ≡ Ok h
  unit_read bytes h s = ap (λ xs. ((header_production layout unit_entry).read xs).0) s.2
      ∙ ap (λ r. r.0) ((reads_header _ _).only s.0 h s.1 s.3)

  -- a unit has one header
  pub one_header : (bytes : List ℕ) (h k : Header) → SpellsUnit layout unit_entry bytes h
      → SpellsUnit layout unit_entry bytes k → h ≡ k
  one_header bytes h k s t = let e = sym (unit_read _ h s) ∙ unit_read _ k t in cc

  -- and no refusal
  pub no_fault : (bytes : List ℕ) (h : Header) (e : Error) → SpellsUnit layout unit_entry bytes h
      → HasUnitFault layout unit_entry bytes e → ⊥
  no_fault bytes h e s f =
      let both = sym (unit_read _ h s) ∙ (reads_header _ _).refused bytes e f in cc

  -- what is no unit has one refusal
  pub one_fault : (bytes : List ℕ) (e d : Error) → HasUnitFault layout unit_entry bytes e
      → HasUnitFault layout unit_entry bytes d → e ≡ d
  one_fault bytes e d f g =
      let both = sym ((reads_header _ _).refused bytes e f)
      ∙ (reads_header _ _).refused bytes d g in
      cc

  -- one of the two is there
  pub unit_or_fault : (bytes : List ℕ)
      → ((h : Header) × SpellsUnit layout unit_entry bytes h) ⊎ ((e : Error) × HasUnitFault layout unit_entry bytes e)
  unit_or_fault bytes = elim (answer_of _) [
    | given_ok h rest is ↦ inl (h, unit_found _ h _ is)
    | given_err e is ↦ inr (e, (reads_header _ _).fault bytes e is)
  ]
