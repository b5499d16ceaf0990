-- What it means that a converted program says what its source says, and what is asked of the source
-- for it.
use Rattle.std.specs.Prelude.{◌≡◌, ◌≢◌, ◌+◌, ◌≤◌, ◌&&◌, ◌||◌, if◌then◌else◌, ◌∷◌, ◌++◌}
use Rattle.gimli_write.specs
use specs.Prelude
use Prelude.{ℕ, Bool, true, false, not, nat_le, List, [], map, slice_get, Option, Some, None}
use Prelude.{option_map, has_content}
use Rattle.std.specs.Prelude.{replicate}
use Rattle.gimli_line.specs.LineNumbers.{
  DW_LNCT_timestamp,
  DW_LNCT_size,
  DW_LNCT_MD5,
  DW_LNCT_LLVM_source,
}
use Prelude.{All, Ok, Vec, Global, OrderAndLimit, Value, Address, StringTables, texts_in}
use Prelude.{ReadRow, File, Header, directory_of, entry_of, Parameters, Events, row, FilesAtEnd}
use Prelude.{Ins, is_end, makes_row, decoded_at, is_under_tombstone, Built, file_number}
use Prelude.{HasFittingAddresses, program_rows, LineText, bytes_in, CanWrite, Sections, IsText}
use Prelude.{IsOptionalText, OneByOne, BuiltItem}
use Rattle.gimli_bytes.specs.declared.address.Address.TheVariants.{Constant}
use Rattle.gimli_build.specs.Tables.{File as BuiltFile}
use Rattle.gimli_build.specs.declared.built.items.BuiltItem.TheVariants.{SetAddress}
use specs.RoundTrip.{FileAnswer}
use specs.convert.Outcome.{Outcome}
use specs.convert.Preparation.{encoding_of, has_before_5}
use specs.convert.Sources.{ToConvert}
use specs.convert.Conversion.{AnswersAs, outcome_with, SourceComesTo, ConvertsTo, IsWritable}

-- ---- what is asked

-- each address is mapped to itself
abbrev pub MapsToItself : (ℕ → Option Address) → Type 0
MapsToItself convert_address = (a : ℕ) → convert_address a ≡ Some (Constant a)

-- a point of the sequence that ends this past made a row that isn't under a tombstone
abbrev pub gave_row : Parameters → List Ins → Bool
gave_row parameters [] = false
gave_row parameters (i ∷ past) =
    if is_end i then false
    else ((makes_row i && not (is_under_tombstone parameters past)) || gave_row parameters past)

-- none of these instructions after a past ends a sequence under a tombstone that gave a row
abbrev pub NoneEndsUnderTombstone : Parameters → List Ins → List Ins → Type 0
NoneEndsUnderTombstone parameters past [] = Unit {0}
NoneEndsUnderTombstone parameters past (i ∷ list) =
    (is_end i ≡ true → is_under_tombstone parameters past ≡ true → gave_row parameters past ≡ false)
    × NoneEndsUnderTombstone parameters (i ∷ past) list

-- no sequence of a program that gave a row ends under a tombstone
abbrev pub NoSequenceEndsUnderTombstone : OrderAndLimit → Header → List ℕ → Type 0
NoSequenceEndsUnderTombstone layout h bytes =
    NoneEndsUnderTombstone h.parameters [] (decoded_at layout h bytes).0

-- what is asked of a source and of what is handed, so that a conversion is faithful
pub record CanBeFaithful (convert_address : ℕ → Option Address) (s : ToConvert) : Type 0 where
  pub itself : MapsToItself convert_address
  pub wide : s.header.parameters.encoding.address_size ≤ (encoding_of s.header s.given).address_size
  pub no_end_under_tombstone : NoSequenceEndsUnderTombstone s.layout s.header s.header.program

-- ---- rows and ends, as they are read back

-- the id of a file number, in a source of this version; up to version 4 none has number 0
pub record IsFileId (version : ℕ) (file_ids : List ℕ) (number id : ℕ) : Type 0 where
  pub from_one : version ≤ 4 → number ≢ 0
  pub there : slice_get file_ids number ≡ Some id

-- a row that is read back of a conversion in this version says what a row of the source in its
-- version says: an end has its address, and any other row all its registers, with the number that
-- its file has now
pub record IsReadAs (source_version version : ℕ) (file_ids : List ℕ) (source back : ReadRow)
    : Type 0 where
  pub address : back.address ≡ source.address
  pub ends : back.end_sequence ≡ source.end_sequence
  pub registers : source.end_sequence ≡ false → back ≡ record source { file = back.file }
  pub file : source.end_sequence ≡ false
      → (id : ℕ) × IsFileId source_version file_ids source.file id
      × (back.file ≡ file_number version id)

-- the version that a source is converted to
abbrev pub version_after : ToConvert → ℕ
version_after s = (encoding_of s.header s.given).version

-- the source gives rows and no fault, and rows that are read back say what these say, one by one:
-- an end has its address, and any other row all its registers, with the number that its file has
-- now
pub record AreSourceRows (s : ToConvert) (file_ids : List ℕ) (back : List ReadRow) : Type 0 where
  pub rows : List ReadRow
  pub events : Events s.layout s.header s.header.program (map row rows)
  pub same : OneByOne
      (IsReadAs s.header.parameters.encoding.version (version_after s) file_ids) rows back

-- ---- files

-- a directory of a source has this path; one that isn't there has the empty one
abbrev pub IsDirectoryPath : Sections → Option Value → List ℕ → Type 0
IsDirectoryPath sections (Some v) path = IsText sections v path
IsDirectoryPath sections None path = path ≡ []

-- a file of a source has this path, and its directory has this one
pub record HasPaths (sections : Sections) (h : Header) (path directory : List ℕ) (f : File)
    : Type 0 where
  pub own : IsText sections f.path_name path
  pub of_directory : IsDirectoryPath sections (directory_of h f.directory_index) directory

-- it is the last of these files that has these paths
pub record IsLastWithPaths (sections : Sections) (h : Header) (path directory : List ℕ)
    (files : List File) (f : File) : Type 0 where
  pub before : List File
  pub later : List File
  pub parts : files ≡ before ++ f ∷ later
  pub has : HasPaths sections h path directory f
  pub none_after : All (λ g. HasPaths sections h path directory g → ⊥) later

-- the file with this id has the paths of a file of the source, and what is known of the last one
-- that has them
pub record IsMappedFile (sections : Sections) (h : Header) (files : List File)
    (strings : List (List ℕ)) (c : Outcome) (f : File) (id : ℕ) : Type 0 where
  pub built : BuiltFile
  pub there : slice_get c.program.files id ≡ Some built
  pub directory : LineText
  pub directory_there : slice_get c.program.directories built.0.1 ≡ Some directory
  pub has : HasPaths sections h (bytes_in (texts_in strings c.line_strings) built.0.0)
      (bytes_in (texts_in strings c.line_strings) directory) f
  pub last : File
  pub is_last : IsLastWithPaths sections h (bytes_in (texts_in strings c.line_strings) built.0.0)
      (bytes_in (texts_in strings c.line_strings) directory) files last
  pub timestamp : built.1.timestamp ≡ last.timestamp
  pub size : built.1.size ≡ last.size
  pub md5 : built.1.md5 ≡ last.md5
  pub source : IsOptionalText sections last.source
      (option_map (bytes_in (texts_in strings c.line_strings)) built.1.source)

-- each file number of the source has an id, whose file is the one that it stands for; no other
-- number has one
pub record AreFilesMapped (sections : Sections) (h : Header) (files : List File)
    (strings : List (List ℕ)) (c : Outcome) : Type 0 where
  pub each : (n : ℕ) (f : File) → entry_of h.parameters.encoding.version None files n ≡ Some f
      → (id : ℕ) × IsFileId h.parameters.encoding.version c.file_ids n id
      × IsMappedFile sections h files strings c f id
  pub only : (n id : ℕ) → IsFileId h.parameters.encoding.version c.file_ids n id
      → (f : File) × (entry_of h.parameters.encoding.version None files n ≡ Some f)

-- ---- what is read back

-- a program of this version, converted from a source with this header, keeps this content of files:
-- timestamps and sizes stand in each header up to version 4, digests and sources in none of them;
-- from version 5 on each stands where the source has it
abbrev pub keeps_before_5 : ℕ → Header → ℕ → Bool
keeps_before_5 version h content = nat_le version 4 || has_before_5 content h

-- digests and sources: a program up to version 4 keeps none
abbrev pub keeps_from_5 : ℕ → Header → ℕ → Bool
keeps_from_5 version h content = not (nat_le version 4) && has_content content h.file_formats

-- the source of a file that is read back: where sources are kept, that of the file, and the empty
-- text where it has none
abbrev pub IsSourceKept : Bool → Sections → Option Value → Option (List ℕ) → Type 0
IsSourceKept true sections source (Some text) = IsDirectoryPath sections source text
IsSourceKept true sections source None = ⊥
IsSourceKept false sections source answer = answer ≡ None

-- a file that is read back in this version has what is known of a file of the source, where it is
-- kept
pub record HasDetails (sections : Sections) (h : Header) (version : ℕ) (f : File)
    (answer : FileAnswer) : Type 0 where
  pub timestamp : answer.timestamp
      ≡ (if keeps_before_5 version h DW_LNCT_timestamp then f.timestamp else 0)
  pub size : answer.size ≡ (if keeps_before_5 version h DW_LNCT_size then f.size else 0)
  pub md5 : answer.md5 ≡ (if keeps_from_5 version h DW_LNCT_MD5 then f.md5 else replicate 16 0)
  pub source : IsSourceKept (keeps_from_5 version h DW_LNCT_LLVM_source) sections f.source
      answer.source

-- a file that is read back in this version, beside these directories, has the paths of a file of
-- the source, and what is known of the last one that has them
pub record IsFileReadAs (sections : Sections) (h : Header) (files : List File) (version : ℕ)
    (directories : List (List ℕ)) (f : File) (answer : FileAnswer) : Type 0 where
  pub directory : List ℕ
  pub directory_there : slice_get directories answer.directory_index ≡ Some directory
  pub has : HasPaths sections h answer.path directory f
  pub last : File
  pub is_last : IsLastWithPaths sections h answer.path directory files last
  pub details : HasDetails sections h version last answer

-- each file number of the source has an id, and the file with this index that is read back is the
-- one that it stands for
pub record AreFilesReadAs (sections : Sections) (h : Header) (files : List File) (version : ℕ)
    (file_ids : List ℕ) (directories : List (List ℕ)) (answers : List FileAnswer) : Type 0 where
  pub each : (n : ℕ) (f : File) → entry_of h.parameters.encoding.version None files n ≡ Some f
      → (id : ℕ) × IsFileId h.parameters.encoding.version file_ids n id
      × ((answer : FileAnswer) × (slice_get answers id ≡ Some answer)
      × IsFileReadAs sections h files version directories f answer)

-- ---- what a caller knows

-- an address that is set is a number, and no symbol's
abbrev pub SetsConstant : BuiltItem → Type 0
SetsConstant (SetAddress a) = (n : ℕ) × (a ≡ Constant n)
SetsConstant item = Unit {0}

-- ---- all of it

-- a converted program says what its source says, beside these strings
pub record IsFaithful (s : ToConvert) (strings : List (List ℕ)) (c : Outcome) : Type 0 where
  -- its rows and ends are read as those of the source, one by one
  pub rows : AreSourceRows s c.file_ids (program_rows c.program)
  -- its files stand for those of the source, the ones that its program defines too
  pub source_files : List File
  pub at_end : FilesAtEnd s.layout true s.header s.header.program source_files
  pub files : AreFilesMapped s.sections s.header source_files strings c
  -- it can be written, and its addresses are numbers, fit and hide nothing
  pub can_write : CanWrite c.program (texts_in strings c.line_strings)
  pub constants : All SetsConstant c.program.items
  pub addresses : HasFittingAddresses c.program

-- a source is converted to this answer: by what this map of addresses answers, and, for each
-- function that gives what it may answer, as that function says; and then it says what the source
-- says, where what is asked for that holds. It can be written. The old line strings are those
-- before it
pub record ConvertsWell (map : ℕ → Option Address → Type 0) (s : ToConvert) (old : List (List ℕ))
    (answer : Built × Vec ℕ Global) (texts : StringTables) : Type 0 where
  pub answers : SourceComesTo map s old (Ok (outcome_with answer texts.line_strings))
  pub converts : ConvertsTo map s old answer texts.line_strings
  pub writable : IsWritable answer.0 texts.line_strings
  pub faithful : (g : ℕ → Option Address) → AnswersAs map g → CanBeFaithful g s
      → IsFaithful s texts.strings (outcome_with answer texts.line_strings)
