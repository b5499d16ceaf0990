-- What comes of a conversion that was done, and what the laws of conversions say of it.
use Rattle.std.specs.Prelude.{◌≡◌, if◌then◌else◌, ◌∷◌, ◌++◌}
use Rattle.gimli_write.proofs
use proofs.Common
use Common.{ℕ, Bool, true, false, List, [], refl, sym, ap, subst, ◌∙◌, Option, Some, None, ok_or, Result, Ok, Err}
use Common.{append-nil, Value, Error, AddressOverflow, Address, texts_in, Parameters, defined_files, past_at_end, Ins}
use Common.{after_address, Built, CanWrite, Sections, LineRow, ConvertError, Read, InvalidAddress}
use Common.{MissingLineEndSequence, UnsupportedLineInstruction, SourceRow, ConvertLineRow, ◌>>=◌, source_path}
use Common.{TablesAndTexts, version_of, with_path, directory_added, file_added, encoding_of, first_ids}
use Common.{tables_of_header, Reading, stops, offers, source_row, built_row, address_offered, row_offered}
use Common.{row_or_end_offered, source_row_offered, reading_at, end_reading, reading_with, tables_at, with_definition}
use Common.{reading_after, ReadsItems, Outcome, outcome_of, with_tables, ToConvert, IsConverted, MatchResult, arith}
use Common.{AllByRecursion, All-from_recursion, ReadRow, decoded_at, one_decoding, AddressesFit, HasFittingAddresses}
use Common.{items_rows, program_rows, OneByOne, Encoding, map, slice_get, unwrap_or, option_map, All, slice_get-map}
use Common.{slice_get_within}
use Common.{get_or_from_slice_get, KeepsTexts, with_text, StringTables, with_text-KeepsTexts, row, Events, File}
use Common.{LineText, Inline, InStrings, InLineStrings, IsWithin, bytes_in, FileAnswer, built_file}
use Rattle.gimli_write.specs
use specs.convert.Mapped
use Mapped.{AreFilesMapped, CanBeFaithful, NoneEndsUnderTombstone, AreSourceRows, IsReadAs, SetsConstant}
use Mapped.{IsFaithful, HasPaths, IsLastWithPaths, AreFilesReadAs, IsDirectoryPath}
use Mapped.{IsSourceKept, HasDetails}
use Common.{nat_le, BuiltFile, ReadFile, Handed, Header, IsOptionalText, IfSome, option_map_or, file_parts, with_parts}
use Rattle.gimli_write.specs.Prelude.{has_content}
use specs.convert.Preparation.{has_before_5}
use Rattle.gimli_line.specs.LineNumbers.{DW_LNCT_timestamp, DW_LNCT_size, DW_LNCT_MD5, DW_LNCT_LLVM_source}
use proofs.Outcomes.{definition_passed}
use proofs.MappedFiles.{
  AreDirectories,
  directories_prepared,
  directories_stay,
  AreFiles,
  files_next,
  files_defined,
  took,
  same_ok,
  is_prepared,
  all_added_keeps,
  IsReady,
  lists_at_keeps,
  file_ready,
  written_with_tables,
  prepared_ready,
  finished,
  files_mapped,
}
use Rattle.std.proofs.Math.Pow.{pow_mono}
use Rattle.gimli_build.specs.Rows.{initial_row}
use specs.RoundTrip.{AreBuiltRows}
use proofs.MappedRows.{follows_start, Rest, rest_mapped}
use Rattle.gimli_line.specs.run.EventsWithFiles.{FilesAtEnd}
use Rattle.gimli_build.specs.Version5Tables.{texts_after}
use specs.convert.DoneConversions.{UnitReadBack, UnitGives}
use proofs.BuiltAnswers.{events_same, rows_same}
use proofs.ConvertSteps.{kept_self}
use specs.declared.convert.rows.ConvertLineRow.TheVariants as offer

-- which contents of files a program keeps
abbrev pub flags_of : Built → Bool × Bool × Bool × Bool
flags_of p = (p.file_has_timestamp, p.file_has_size, p.file_has_md5, p.file_has_source)

-- a conversion answers the tables at the end, and keeps the kind of the program that it was begun with
pub record EndsAs (sections : Sections) (first : TablesAndTexts) (past : List Ins) (p : Built) (c : Outcome)
    : Type 0 where
  pub tables : TablesAndTexts
  pub there : tables_at sections first past ≡ Ok tables
  pub same : finished tables c.program ≡ c
  pub is_none : c.program.is_none ≡ p.is_none
  pub encoding : c.program.encoding ≡ p.encoding
  pub flags : flags_of c.program ≡ flags_of p

module _ (convert_address : ℕ → Option Address) (c : Outcome) where
  -- it is what comes of a reading
  abbrev Comes : Reading → Built → Type 0
  Comes reading p = outcome_of convert_address reading p ≡ Ok c

  -- it goes on with a rest, from a program of the same kind
  record GoesOn (rest : Reading) (p : Built) : Type 0 where
    next : Built
    is : Comes rest next
    is_none : next.is_none ≡ p.is_none
    encoding : next.encoding ≡ p.encoding
    flags : flags_of next ≡ flags_of p

  -- an item that was built within the builder's conditions
  built_goes : (b : Bool) (next p : Built) (rest : Reading)
      → ((if b then Ok next else Err UnsupportedLineInstruction) >>= λ n. outcome_of convert_address rest n) ≡ Ok c
      → next.is_none ≡ p.is_none → next.encoding ≡ p.encoding → flags_of next ≡ flags_of p → GoesOn rest p
  built_goes true next p rest is is_none encoding flags =
      record { next = next; is = is; is_none = is_none; encoding = encoding; flags = flags }
  built_goes false next p rest is is_none encoding flags = absurd cc

  item_goes : (o : ConvertLineRow) (tables : TablesAndTexts) (rest : Reading) (p : Built)
      → Comes (offers o tables rest) p → GoesOn rest p
  item_goes (offer.SetAddress a) tables rest p is = by _ is
    where
      by : (o : Option Address)
          → ((ok_or o InvalidAddress >>= λ m. Ok (after_address m (with_tables tables p))) >>= λ n.
          outcome_of convert_address rest n) ≡ Ok c → GoesOn rest p
      by None so = absurd cc
      by (Some m) so = built_goes true _ p _ so refl refl refl
  item_goes (offer.Row r) tables rest p is = built_goes _ _ p _ is refl refl refl
  item_goes (offer.EndSequence offset) tables rest p is = built_goes _ _ p _ is refl refl refl

  point_goes : (version : ℕ) (tables : TablesAndTexts) (r : SourceRow) (rest : Reading) (p : Built)
      → Comes (row_or_end_offered version tables r rest) p → GoesOn rest p
  point_goes version tables r rest p is = by _ is
    where
      built : (o : Result LineRow ConvertError) → Comes (row_offered o tables rest) p → GoesOn rest p
      built (Ok r) so = item_goes (offer.Row r) tables _ p so
      built (Err e) so = absurd cc

      by : (b : Bool) → Comes (if b then offers (offer.EndSequence r.address_offset) tables rest
          else row_offered (built_row version tables r) tables rest) p → GoesOn rest p
      by true so = item_goes (offer.EndSequence r.address_offset) tables _ p so
      by false so = built _ so

  offered_goes : (version : ℕ) (tables : TablesAndTexts) (r : SourceRow) (rest : Reading) (p : Built)
      → Comes (source_row_offered version tables r rest) p → GoesOn rest p
  offered_goes version tables r rest p is = by r.set_address is
    where
      by : (o : Option ℕ) → Comes (address_offered o tables (row_or_end_offered version tables r rest)) p
          → GoesOn rest p
      by None so = point_goes version tables r rest p so
      by (Some a) so =
          let first = item_goes (offer.SetAddress a) tables (row_or_end_offered version tables r rest) p so in
          let second = point_goes version tables r rest first.next first.is in
          record {
            next = second.next;
            is = second.is;
            is_none = second.is_none ∙ first.is_none;
            encoding = second.encoding ∙ first.encoding;
            flags = second.flags ∙ first.flags;
          }

  at_goes : (parameters : Parameters) (tables : TablesAndTexts) (past : List Ins) (i : Ins) (rest : Reading) (p : Built)
      → Comes (reading_at parameters tables past i rest) p → GoesOn rest p
  at_goes parameters tables past i rest p is = by _ _ is
    where
      by : (o m : Bool) → Comes (if o then stops (Read AddressOverflow)
          else (if m then source_row_offered parameters.encoding.version tables (source_row parameters past i) rest
          else rest)) p → GoesOn rest p
      by true m so = absurd cc
      by false true so = offered_goes _ _ (source_row parameters past i) _ p so
      by false false so = built_goes true p p _ so refl refl refl

  nothing_goes : (sections : Sections) (first : TablesAndTexts) (past : List Ins) (end : Option Error)
      (there : Result TablesAndTexts ConvertError) (p : Built) → tables_at sections first past ≡ there
      → Comes (reading_with there (end_reading end)) p → EndsAs sections first past p c
  nothing_goes sections first past end (Err e) p at is = absurd cc
  nothing_goes sections first past (Some e) (Ok tables) p at is = absurd cc
  nothing_goes sections first past None (Ok tables) p at is = by _ is
    where
      by : (b : Bool) → (if b then Err MissingLineEndSequence else Ok (finished tables p)) ≡ Ok c
          → EndsAs sections first past p c
      by true so = absurd cc
      by false so =
          let same : finished tables p ≡ c = cc in
          subst (λ c. EndsAs sections first past p c) same (record {
            tables = tables;
            there = at;
            same = refl;
            is_none = refl;
            encoding = refl;
            flags = refl;
          })

  pub outcome : (sections : Sections) (parameters : Parameters) (first : TablesAndTexts) (past list : List Ins)
      (end : Option Error) (p : Built)
      → outcome_of convert_address (reading_after sections parameters first past list end) p ≡ Ok c
      → EndsAs sections first (past_at_end past list) p c
  outcome sections parameters first past [] end p is =
      nothing_goes sections first past end (tables_at sections first past) p refl is
  outcome sections parameters first past (i ∷ list) end p is =
      by (λ p so. outcome sections parameters first (i ∷ past) list end p so) (tables_at sections first past) is
    where
      by : ((p : Built) → Comes (reading_after sections parameters first (i ∷ past) list end) p
          → EndsAs sections first (past_at_end (i ∷ past) list) p c) → (there : Result TablesAndTexts ConvertError)
          → Comes (reading_with there (λ tables. reading_at parameters tables past i
          (with_definition i (reading_after sections parameters first (i ∷ past) list end)))) p
          → EndsAs sections first (past_at_end (i ∷ past) list) p c
      by rest (Err e) so = absurd cc
      by rest (Ok tables) so =
          let others = reading_after sections parameters first (i ∷ past) list end in
          let on =
          at_goes parameters tables past i others p
          (sym (definition_passed convert_address parameters tables past i others p) ∙ so) in
          let after = rest on.next on.is in
          record {
            tables = after.tables;
            there = after.there;
            same = after.same;
            is_none = after.is_none ∙ on.is_none;
            encoding = after.encoding ∙ on.encoding;
            flags = after.flags ∙ on.flags;
          }

-- ---- directories have no files

no_file : (sections : Sections) (tables next : TablesAndTexts) (v : Value) → directory_added sections tables v ≡ Ok next
    → next.file_ids ≡ tables.file_ids
no_file sections tables next v is =
    let t = took (source_path (version_of tables) sections v) (λ path. Ok (with_path tables path)) is in
    sym (ap (λ (l : TablesAndTexts). l.file_ids) (same_ok (with_path tables t.0) t.2))

-- ---- what is kept of files

-- a program that is converted of a source with this header keeps these
abbrev pub flags_for : Header → Bool × Bool × Bool × Bool
flags_for h = (
  has_before_5 DW_LNCT_timestamp h,
  has_before_5 DW_LNCT_size h,
  has_content DW_LNCT_MD5 h.file_formats,
  has_content DW_LNCT_LLVM_source h.file_formats,
)

abbrev HasFlags : Header → TablesAndTexts → Type 0
HasFlags h tables = flags_of tables.program ≡ flags_for h

module _ (sections : Sections) (h : Header) (tables next : TablesAndTexts) where
  directory_flags : (v : Value) → directory_added sections tables v ≡ Ok next → HasFlags h tables → HasFlags h next
  directory_flags v is so =
      let t = took (source_path (version_of tables) sections v) (λ path. Ok (with_path tables path)) is in
      subst (HasFlags h) (same_ok (with_path tables t.0) t.2) so

  file_flags : (f : ReadFile) → file_added sections tables f ≡ Ok next → HasFlags h tables → HasFlags h next
  file_flags f is so =
      let t = took (file_parts (version_of tables) sections tables.directory_ids f)
      (λ parts. Ok (with_parts tables f parts)) is in
      subst (HasFlags h) (same_ok (with_parts tables f t.0) t.2) so

first_flags : (sections : Sections) (h : Header) (given : Handed) (line_strings : List (List ℕ))
    {tables : TablesAndTexts} → tables_of_header sections h given line_strings ≡ Ok tables → HasFlags h tables
first_flags sections h given line_strings is =
    let p = is_prepared sections h given line_strings is in
    all_added_keeps (HasFlags h) (file_added sections) (λ l n f a so. file_flags sections h l n f a so) h.files
    p.with_directories p.files (all_added_keeps (HasFlags h) (directory_added sections)
    (λ l n v a so. directory_flags sections h l n v a so) h.directories _ p.directories refl)

-- what is stored of a file is kept of the one of the source that it stands for
details_kept : (sections : Sections) (h : Header) (p : Built) (texts : StringTables) (f : BuiltFile) (last : ReadFile)
    → flags_of p ≡ flags_for h → f.1.timestamp ≡ last.timestamp → f.1.size ≡ last.size → f.1.md5 ≡ last.md5
    → IsOptionalText sections last.source (option_map (bytes_in texts) f.1.source)
    → HasDetails sections h p.encoding.version last (built_file p texts f)
details_kept sections h p texts f last flags timestamp size md5 source = by _ refl
  where
    sources : (v : Option Value) (o : Option LineText) → IsOptionalText sections v (option_map (bytes_in texts) o)
        → IsDirectoryPath sections v (option_map_or (bytes_in texts) o [])
    sources (Some v) (Some t) is = is
    sources None None is = refl
    sources (Some v) None is = absurd is
    sources None (Some t) is = absurd is

    kept : (b : Bool) → IsSourceKept b sections last.source
        (if b then Some (option_map_or (bytes_in texts) f.1.source []) else None)
    kept true = sources last.source f.1.source source
    kept false = refl

    by : (old : Bool) → nat_le p.encoding.version 4 ≡ old
        → HasDetails sections h p.encoding.version last (built_file p texts f)
    by true at = record {
      timestamp = rw (at) timestamp;
      size = rw (at) size;
      md5 = rw (at) refl;
      source = rw (at) refl;
    }
    by false at = record {
      timestamp = grind arith;
      size = grind arith;
      md5 = grind arith;
      source = rw (at, ap (λ (q : Bool × Bool × Bool × Bool). q.3) flags) (kept _);
    }

-- ---- a conversion that was done

-- its parts
pub record WasConverted (convert_address : ℕ → Option Address) (s : ToConvert) (line_strings : List (List ℕ))
    (c : Outcome)
    : Type 0 where
  pub reading : Reading
  pub first : TablesAndTexts
  pub ready : tables_of_header s.sections s.header s.given line_strings ≡ Ok first
  pub reads : ReadsItems s.layout s.sections s.header first s.header.program reading
  pub is : outcome_of convert_address reading first.program ≡ Ok c

pub was_converted : (convert_address : ℕ → Option Address) (s : ToConvert) (line_strings : List (List ℕ)) (c : Outcome)
    → IsConverted convert_address s line_strings (Ok c) → WasConverted convert_address s line_strings c
was_converted convert_address s line_strings c so = by _ refl so.1
  where
    by : (r : Result TablesAndTexts ConvertError) → tables_of_header s.sections s.header s.given line_strings ≡ r
        → MatchResult r (λ first. ReadsItems s.layout s.sections s.header first s.header.program so.0
        × (outcome_of convert_address so.0 first.program ≡ Ok c))
        (λ e. (let o : Result Outcome ConvertError = Ok c in o) ≡ Err e) → WasConverted convert_address s line_strings c
    by (Ok first) ready m = record { reading = so.0; first = first; ready = ready; reads = m.0; is = m.1 }
    by (Err e) ready m = absurd cc

module _ {convert_address : ℕ → Option Address} {s : ToConvert} {line_strings : List (List ℕ)} {c : Outcome}
    (w : WasConverted convert_address s line_strings c) where
  abbrev pub whole_past : List Ins
  whole_past = past_at_end [] w.reads.list

  -- how its reading ends
  pub read_to_end : outcome_of convert_address
      (reading_after s.sections s.header.parameters w.first [] w.reads.list w.reads.end) w.first.program ≡ Ok c
  read_to_end = cc

  comes : EndsAs s.sections w.first whole_past w.first.program c
  comes = outcome convert_address c s.sections s.header.parameters w.first [] w.reads.list w.reads.end _ read_to_end

  pub first_ready : (strings : List (List ℕ)) → IsReady strings (encoding_of s.header s.given) w.first
  first_ready strings = prepared_ready strings s.sections s.header s.given line_strings w.ready

  pub encoding_kept : c.program.encoding ≡ encoding_of s.header s.given
  encoding_kept = comes.encoding ∙ (first_ready []).encoding_is

  pub flags_kept : flags_of c.program ≡ flags_for s.header
  flags_kept = comes.flags ∙ first_flags s.sections s.header s.given line_strings w.ready

  -- the program can be written
  pub can_write : (strings : List (List ℕ)) → CanWrite c.program (texts_in strings c.line_strings)
  can_write strings =
      let encoding = encoding_of s.header s.given in
      let tables = comes.tables in
      let last : IsReady strings encoding tables =
      lists_at_keeps (IsReady strings encoding) s.sections w.first
      (λ l n d a so. file_ready strings encoding s.sections l n d a so) whole_past comes.there (first_ready strings) in
      subst (λ (c : Outcome). CanWrite c.program (texts_in strings c.line_strings)) comes.same
      (written_with_tables c.program tables
      (comes.is_none ∙ (first_ready strings).can.program) (last.encoding_is ∙ sym encoding_kept) last.can)

  -- the files
  files_are : AreFiles s.sections s.header w.first s.header.files
  files_are =
      let p = is_prepared s.sections s.header s.given line_strings w.ready in
      let version = s.header.parameters.encoding.version in
      let none : p.with_directories.file_ids ≡ first_ids version =
      all_added_keeps (λ l. l.file_ids ≡ first_ids version) (directory_added s.sections)
      (λ l n v a so. no_file s.sections l n v a ∙ so) s.header.directories _ p.directories refl in
      files_next s.sections s.header [] s.header.files {tables = p.with_directories} p.files
      (record { ids = []; ids_are = none ∙ sym (append-nil (first_ids version)); each = tt })

  directories_are : AreDirectories s.sections s.header w.first
  directories_are =
      let p = is_prepared s.sections s.header s.given line_strings w.ready in
      all_added_keeps (AreDirectories s.sections s.header) (file_added s.sections)
      (λ l n f a so. directories_stay s.sections s.header l f a so) s.header.files p.with_directories p.files
      (directories_prepared s.sections s.header s.given line_strings w.first p)

  pub files_same : (strings : List (List ℕ))
      → AreFilesMapped s.sections s.header (defined_files s.header.files whole_past) strings c
  files_same strings =
      subst (AreFilesMapped s.sections s.header (defined_files s.header.files whole_past) strings) comes.same
      (files_mapped strings c.program (lists_at_keeps (AreDirectories s.sections s.header) s.sections w.first
      (λ l n d a so. directories_stay s.sections s.header l d a so) whole_past comes.there directories_are)
      (files_defined whole_past comes.there files_are))

-- ---- the whole

module _ {convert_address : ℕ → Option Address} {s : ToConvert} {line_strings : List (List ℕ)} {c : Outcome}
    (w : WasConverted convert_address s line_strings c) (can : CanBeFaithful convert_address s) where
  read_once : w.reads.list ≡ (decoded_at s.layout s.header s.header.program).0
  read_once = ap (λ p. p.0) (one_decoding s.layout s.header _ _ _ w.reads.decoding)

  pub whole : Rest s.sections s.header.parameters w.first (encoding_of s.header s.given).address_size c [] w.reads.list
      w.reads.end 0 (0, 0) w.first.program
  whole =
      rest_mapped s.sections s.header.parameters w.first (encoding_of s.header s.given).address_size c convert_address
      can.itself (pow_mono (omega arith)) _ _ _ 0 _ _ (follows_start _)
      (subst (NoneEndsUnderTombstone s.header.parameters []) (sym read_once) can.no_end_under_tombstone) (read_to_end w)

  -- what was built is what was built after the start
  all_items : whole.items ≡ c.program.items
  all_items = sym (whole.built ∙ ap (λ l. l ++ whole.items) (first_ready w []).items)

  -- its rows are read as those of the source
  pub rows_there : OneByOne (IsReadAs s.header.parameters.encoding.version c.program.encoding.version c.file_ids)
      whole.rows (program_rows c.program)
  rows_there =
      let first = initial_row c.program.encoding.version c.program.line_encoding.default_is_stmt in
      subst (λ items. OneByOne
      (IsReadAs s.header.parameters.encoding.version c.program.encoding.version c.file_ids) whole.rows
      (items_rows c.program.encoding.version c.program.line_encoding 0 first items)) all_items (whole.mapped first)

  pub rows_given : Events s.layout s.header s.header.program (map row whole.rows)
  rows_given = record {
    list = w.reads.list;
    end = w.reads.end;
    decoding = w.reads.decoding;
    given = sym whole.events;
  }

  pub rows_mapped : AreSourceRows s c.file_ids (program_rows c.program)
  rows_mapped = record {
    rows = whole.rows;
    events = rows_given;
    same =
        subst (λ (version : ℕ). OneByOne (IsReadAs s.header.parameters.encoding.version version c.file_ids) whole.rows
        (program_rows c.program)) (ap (λ (e : Encoding). e.version) (encoding_kept w)) rows_there;
  }

  pub addresses_fit : HasFittingAddresses c.program
  addresses_fit =
      subst (λ e. AddressesFit e.address_size 0 (0, 0) c.program.items) (sym (encoding_kept w))
      (subst (AddressesFit (encoding_of s.header s.given).address_size 0 (0, 0)) all_items whole.fit)

  pub constants_set : All SetsConstant c.program.items
  constants_set = All-from_recursion _ _ (subst (AllByRecursion SetsConstant) all_items whole.constants)

-- ---- tables that gained a text

-- a text that is within a table has the same bytes in a longer one
bytes_longer : (strings : List (List ℕ)) {old new : List (List ℕ)} (t : LineText) → KeepsTexts old new
    → IsWithin (texts_in strings old) t → bytes_in (texts_in strings new) t ≡ bytes_in (texts_in strings old) t
bytes_longer strings (Inline bytes) keeps within = refl
bytes_longer strings (InStrings i) keeps within = refl
bytes_longer strings (InLineStrings i) keeps within = ap (λ o. unwrap_or o []) (keeps.text i within)

-- so has a source that may be there
sources_longer : (strings : List (List ℕ)) {old new : List (List ℕ)} (o : Option LineText) → KeepsTexts old new
    → IfSome o (IsWithin (texts_in strings old))
    → option_map (bytes_in (texts_in strings old)) o ≡ option_map (bytes_in (texts_in strings new)) o
sources_longer strings (Some t) keeps within = ap Some (sym (bytes_longer strings t keeps within))
sources_longer strings None keeps within = refl

keeps_after : (p : Built) (texts : StringTables) → KeepsTexts texts.line_strings (texts_after p texts).line_strings
keeps_after p texts = by _
  where
    by : (b : Bool) → KeepsTexts texts.line_strings (if b then with_text texts.line_strings [] else texts.line_strings)
    by true = with_text-KeepsTexts _ []
    by false = kept_self _

element : {A : Type 0} (P : A → Type 0) (xs : List A) (i : ℕ) {x : A} → All P xs → slice_get xs i ≡ Some x → P x
element P xs i {x} all is = subst P (get_or_from_slice_get _ i x x is) (all i x (slice_get_within xs i x is))

-- ---- the laws

module _ (convert_address : ℕ → Option Address) (s : ToConvert) (line_strings : List (List ℕ)) (c : Outcome)
    (so : IsConverted convert_address s line_strings (Ok c)) where
  done : WasConverted convert_address s line_strings c
  done = was_converted _ s _ c so

  pub conversion_written : (strings : List (List ℕ)) → CanWrite c.program (texts_in strings c.line_strings)
  conversion_written = can_write done

  pub conversion_encoded : c.program.encoding ≡ encoding_of s.header s.given
  conversion_encoded = encoding_kept done

  -- how a row of the source is read back
  abbrev pub IsRow : ReadRow → ReadRow → Type 0
  IsRow = IsReadAs s.header.parameters.encoding.version c.program.encoding.version c.file_ids

  module _ (can : CanBeFaithful convert_address s) where
    pub conversion_back : (rows back : List ReadRow) → Events s.layout s.header s.header.program (map row rows)
        → AreBuiltRows c.program back → OneByOne IsRow rows back
    conversion_back rows back events built =
        let same = rows_same _ rows (events_same (rows_given done can) events) in
        subst (OneByOne IsRow rows) (sym (built (addresses_fit done can)))
        (subst (λ (source : List ReadRow). OneByOne IsRow source (program_rows c.program)) same (rows_there done can))

    pub conversion_faithful : (strings : List (List ℕ)) → IsFaithful s strings c
    conversion_faithful strings =
        let reads = done.reads in
        record {
          rows = rows_mapped done can;
          source_files = defined_files s.header.files (past_at_end [] reads.list);
          at_end = record { list = reads.list; end = reads.end; decoding = reads.decoding; given = refl };
          files = files_same done strings;
          can_write = can_write done strings;
          constants = constants_set done can;
          addresses = addresses_fit done can;
        }

    -- the same of a unit that is read back
    pub unit_back : (rows : List ReadRow) → Events s.layout s.header s.header.program (map row rows)
        → (u : UnitReadBack c.program) → (found : List ReadRow) × UnitGives u found × OneByOne IsRow rows found
    unit_back rows events u = (
      program_rows c.program,
      u.back.rows (addresses_fit done can),
      conversion_back rows (program_rows c.program) events (λ fits. refl),
    )

  pub files_back : (strings : List (List ℕ)) {files : List File}
      → FilesAtEnd s.layout true s.header s.header.program files
      → (let texts = texts_in strings (texts_after c.program (texts_in strings c.line_strings)).line_strings in
      AreFilesReadAs s.sections s.header files c.program.encoding.version c.file_ids
      (map (bytes_in texts) c.program.directories)
      (map (built_file c.program texts) c.program.files))
  files_back strings {files} at_end =
      let reads = done.reads in
      let once =
      one_decoding s.layout s.header s.header.program reads.list reads.end reads.decoding
      ∙ sym (one_decoding s.layout s.header s.header.program at_end.list at_end.end at_end.decoding) in
      let same : defined_files s.header.files (past_at_end [] reads.list)
      ≡ files = ap (λ (p : List Ins × Option Error). defined_files s.header.files (past_at_end [] p.0)) once
      ∙ sym at_end.given in
      let mapped : AreFilesMapped s.sections s.header files strings c =
      subst (λ (files : List File). AreFilesMapped s.sections s.header files strings c) same
      (files_same done strings) in
      let can : CanWrite c.program (texts_in strings c.line_strings) = can_write done strings in
      let before = texts_in strings c.line_strings in
      let after = (texts_after c.program before).line_strings in
      let keeps : KeepsTexts c.line_strings after = keeps_after c.program before in
      record {
        each = λ n f at.
            let found = mapped.each n f at in
            let m = found.2 in
            let built = built_file c.program (texts_in strings after) in
            let answer : FileAnswer = built m.built in
            let path : bytes_in (texts_in strings after) m.built.0.0
            ≡ bytes_in (texts_in strings c.line_strings) m.built.0.0 =
            bytes_longer strings m.built.0.0 keeps
            (element (λ f. IsWithin (texts_in strings c.line_strings) f.0.0) c.program.files found.0 can.paths
            m.there) in
            let directory : bytes_in (texts_in strings after) m.directory
            ≡ bytes_in (texts_in strings c.line_strings) m.directory =
            bytes_longer strings m.directory keeps
            (element (IsWithin (texts_in strings c.line_strings)) c.program.directories m.built.0.1
            can.directories m.directory_there) in (
              found.0,
              found.1,
              (
                answer,
                slice_get-map built c.program.files found.0 ∙ ap (option_map built) m.there,
                record {
                  directory = bytes_in (texts_in strings after) m.directory;
                  directory_there =
                      slice_get-map (bytes_in (texts_in strings after)) c.program.directories m.built.0.1
                      ∙ ap (option_map (bytes_in (texts_in strings after))) m.directory_there;
                  has =
                      subst (λ (path : List ℕ). HasPaths s.sections s.header path
                      (bytes_in (texts_in strings after) m.directory) f) (sym path) (subst
                      (λ (d : List ℕ). HasPaths s.sections s.header
                      (bytes_in (texts_in strings c.line_strings) m.built.0.0) d f) (sym directory) m.has);
                  last = m.last;
                  is_last =
                      subst (λ (path : List ℕ). IsLastWithPaths s.sections s.header path
                      (bytes_in (texts_in strings after) m.directory) files m.last) (sym path) (subst
                      (λ (d : List ℕ). IsLastWithPaths s.sections s.header
                      (bytes_in (texts_in strings c.line_strings) m.built.0.0) d files m.last) (sym directory)
                      m.is_last);
                  details =
                      details_kept s.sections s.header c.program (texts_in strings after) m.built m.last
                      (flags_kept done) m.timestamp m.size m.md5 (subst
                      (λ (o : Option (List ℕ)). IsOptionalText s.sections m.last.source o)
                      (sources_longer strings m.built.1.source keeps
                      (element (λ (f : BuiltFile). IfSome f.1.source (IsWithin (texts_in strings c.line_strings)))
                      c.program.files found.0 can.sources m.there)) m.source);
                },
              ),
            );
      }
