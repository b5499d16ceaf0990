-- What C sees of a file, and of a directory.
use Rattle.std.specs.Prelude.{◌≡◌, ◌≢◌, ◌<◌, ◌⊎◌, ◌+◌, ◌||◌, ℕ, true, List, [], Option, Some, None}
use Rattle.std.specs.Prelude.{length, nat_le}
use Rattle.std.specs.Prelude.{unwrap_or}
use Rattle.gimli_core.specs.Values.{Value}
use Rattle.gimli_core.specs.declared.attribute_value.AttributeValue.TheVariants.{
  String,
  DebugStrRef,
  DebugStrRefSup,
  DebugLineStrRef,
  DebugStrOffsetsIndex,
}
use Rattle.gimli_line.specs.LineNumbers.{DW_LNCT_timestamp, DW_LNCT_size, DW_LNCT_MD5}
use Rattle.gimli_line.specs.LineNumbers.{DW_LNCT_LLVM_source}
use Rattle.gimli_line.specs.header.File.{File}
use Rattle.gimli_line.specs.header.Header.{Header, directory_of, file_of, has_content}
use Rattle.gimli_line.specs.run.EventsWithFiles.{FilesAtEnd}
use Rattle.gimli_c.specs.declared.file.GimliText.{GimliText}
use Rattle.gimli_c.specs.declared.file.GimliFile.{GimliFile}
use Rattle.gimli_c.specs.declared.status.TheConstants.{NO_ROOM, NO_SUCH_DIRECTORY, NO_SUCH_FILE}
use Rattle.gimli_c.specs.declared.status.TheConstants.{OK}
use Rattle.gimli_c.specs.Location.{Location, layout_at, HasNoUnit, HasUnit}
use Rattle.gimli_c.specs.Seen.{flag}
use Rattle.gimli_c.specs.Written.{IsPut, MemoryAside}

-- a text of a kind, as C sees it
abbrev pub text_at : ℕ → ℕ → ℕ → GimliText
text_at kind first size = record { kind = kind; first = first; size = size }

-- a text: 1 in the section itself, 2 to 4 in another one, 5 by an index; 0 is none
abbrev pub text_seen : Value → GimliText
text_seen (String bytes) = text_at 1 0 (length bytes)
text_seen (DebugLineStrRef o) = text_at 2 o.0 0
text_seen (DebugStrRef o) = text_at 3 o.0 0
text_seen (DebugStrRefSup o) = text_at 4 o.0 0
text_seen (DebugStrOffsetsIndex i) = text_at 5 i.0 0
text_seen v = text_at 0 0 0

-- the same of a value that may be missing
abbrev pub optional_text_seen : Option Value → GimliText
optional_text_seen None = text_at 0 0 0
optional_text_seen (Some v) = text_seen v

-- a text that stands in the section itself
abbrev pub text_here : Option Value → Option (List ℕ)
text_here (Some (String bytes)) = Some bytes
text_here v = None

-- its bytes, none where it doesn't stand there
abbrev pub bytes_here : Option Value → List ℕ
bytes_here v = unwrap_or (text_here v) []

-- which details the files of a header have, each a bit of its own
abbrev pub details_of : Header → ℕ
details_of h =
    flag (nat_le h.parameters.encoding.version 4 || has_content DW_LNCT_timestamp h.file_formats) 1
    + flag (nat_le h.parameters.encoding.version 4 || has_content DW_LNCT_size h.file_formats) 2
    + flag (has_content DW_LNCT_MD5 h.file_formats) 4
    + flag (has_content DW_LNCT_LLVM_source h.file_formats) 8

-- a file of a header, as C sees it
abbrev pub file_seen_by_c : Header → File → GimliFile
file_seen_by_c h f = record {
  path = text_seen f.path_name;
  directory = optional_text_seen (directory_of h f.directory_index);
  source = optional_text_seen f.source;
  directory_number = f.directory_index;
  timestamp = f.timestamp;
  size = f.size;
  details = details_of h;
  md5 = f.md5;
}

-- the header of the unit at the location, with the files that its program has at its end
pub record HasFiles (p : Location) (complete : Header) : Type 0 where
  pub header : Header
  pub unit : HasUnit p header
  pub files : List File
  pub at_end : FilesAtEnd (layout_at p) true header header.program files
  pub complete_is : complete ≡ record header { files = files }

-- the file of an index of the unit at the location, and the bytes of its path and directory where
-- they stand there
pub record GivesFile (p : Location) (index : ℕ) (seen : GimliFile) (path directory : List ℕ)
    : Type 0 where
  pub header : Header
  pub unit : HasFiles p header
  pub file : File
  pub is_file : file_of header index ≡ Some file
  pub seen_is : seen ≡ file_seen_by_c header file
  pub path_is : path ≡ bytes_here (Some file.path_name)
  pub directory_is : directory ≡ bytes_here (directory_of header file.directory_index)

-- that file, and those bytes at the front of two arrays of the caller
abbrev pub WritesFile : Location → ℕ → GimliFile → List ℕ → List ℕ → List ℕ → List ℕ → Type 0
WritesFile p index seen path_old path_new directory_old directory_new =
    (path : List ℕ) × (directory : List ℕ) × GivesFile p index seen path directory
    × IsPut path path_old path_new × IsPut directory directory_old directory_new

-- that file, of which there are more bytes than one of the arrays has room for
abbrev pub NeedsFileRoom : Location → ℕ → GimliFile → List ℕ → List ℕ → Type 0
NeedsFileRoom p index seen path_old directory_old =
    (path : List ℕ) × (directory : List ℕ) × GivesFile p index seen path directory
    × ((length path_old < length path) ⊎ (length directory_old < length directory))

-- the unit at the location has no file of the index
pub record GivesNoFile (p : Location) (index : ℕ) : Type 0 where
  pub header : Header
  pub unit : HasFiles p header
  pub none : file_of header index ≡ None

-- why no file is told: the unit has none of the index, or can't be read
abbrev pub HasNoFileAt : Location → ℕ → ℕ → Type 0
HasNoFileAt p index status =
    ((status ≡ NO_SUCH_FILE) × GivesNoFile p index) ⊎ HasNoUnit p status

-- what a call does that tells a file and copies the bytes of its path and directory to arrays of
-- the caller, by its status
pub record CopiesFile (p : Location) (index status : ℕ) (seen_old seen_new : GimliFile)
    (path_old path_new directory_old directory_new : List ℕ) : Type 0 where
  pub found : status ≡ OK
      → WritesFile p index seen_new path_old path_new directory_old directory_new
  pub larger : status ≡ NO_ROOM → NeedsFileRoom p index seen_new path_old directory_old
  pub refused : status ≢ OK → status ≢ NO_ROOM → MemoryAside (HasNoFileAt p index) status
  pub kept : status ≢ OK → (path_new ≡ path_old) × (directory_new ≡ directory_old)
  pub no_file : status ≢ OK → status ≢ NO_ROOM → seen_new ≡ seen_old

-- the directory of an index of the unit at the location, and its bytes where they stand there
pub record GivesDirectory (p : Location) (index : ℕ) (seen : GimliText) (bytes : List ℕ)
    : Type 0 where
  pub header : Header
  pub unit : HasUnit p header
  pub directory : Value
  pub is_directory : directory_of header index ≡ Some directory
  pub seen_is : seen ≡ text_seen directory
  pub bytes_are : bytes ≡ bytes_here (Some directory)

-- that directory, and those bytes at the front of an array of the caller
abbrev pub WritesDirectoryText : Location → ℕ → GimliText → List ℕ → List ℕ → Type 0
WritesDirectoryText p index seen old new =
    (bytes : List ℕ) × GivesDirectory p index seen bytes × IsPut bytes old new

-- that directory, of which there are more bytes than the array has room for
abbrev pub NeedsTextRoom : Location → ℕ → GimliText → List ℕ → Type 0
NeedsTextRoom p index seen old =
    (bytes : List ℕ) × GivesDirectory p index seen bytes × (length old < length bytes)

-- the unit at the location has no directory of the index
pub record GivesNoDirectory (p : Location) (index : ℕ) : Type 0 where
  pub header : Header
  pub unit : HasUnit p header
  pub none : directory_of header index ≡ None

-- why no directory is told: the unit has none of the index, or can't be read
abbrev pub HasNoDirectoryAt : Location → ℕ → ℕ → Type 0
HasNoDirectoryAt p index status =
    ((status ≡ NO_SUCH_DIRECTORY) × GivesNoDirectory p index) ⊎ HasNoUnit p status

-- what a call does that tells a directory and copies its bytes to an array of the caller, by its
-- status
pub record CopiesDirectoryText (p : Location) (index status : ℕ) (seen_old seen_new : GimliText)
    (old new : List ℕ) : Type 0 where
  pub found : status ≡ OK → WritesDirectoryText p index seen_new old new
  pub larger : status ≡ NO_ROOM → NeedsTextRoom p index seen_new old
  pub refused : status ≢ OK → status ≢ NO_ROOM → MemoryAside (HasNoDirectoryAt p index) status
  pub kept : status ≢ OK → new ≡ old
  pub no_text : status ≢ OK → status ≢ NO_ROOM → seen_new ≡ seen_old
