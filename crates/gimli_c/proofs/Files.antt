-- The files of a unit, and the bytes of their texts.
use Rattle.std.proofs.Common.{◌≡◌, ℕ, zero, suc, Bool, true, false, List, [], ◌∷◌, ◌++◌, refl, ap, sym, subst, ◌∙◌}
use Rattle.std.proofs.Common.{append_assoc}
use Rattle.std.specs.Prelude.{Option, Some, nat_le, if◌then◌else◌, slice_get}
use Rattle.std.proofs.lemmas.List.{append-nil}
use Rattle.std.proofs.lemmas.Option.{none-some}
use Rattle.gimli_core.specs.Layout.{OrderAndLimit}
use Rattle.gimli_line.specs.header.File.{File}
use Rattle.gimli_line.specs.declared.run.instruction.LineInstruction.TheVariants.{Special, Copy, AdvancePc, AdvanceLine}
use Rattle.gimli_line.specs.declared.run.instruction.LineInstruction.TheVariants.{SetFile, SetColumn, NegateStatement}
use Rattle.gimli_line.specs.declared.run.instruction.LineInstruction.TheVariants.{SetBasicBlock, ConstAddPc, FixedAddPc}
use Rattle.gimli_line.specs.declared.run.instruction.LineInstruction.TheVariants.{SetPrologueEnd, SetEpilogueBegin}
use Rattle.gimli_line.specs.declared.run.instruction.LineInstruction.TheVariants.{
  SetIsa,
  UnknownStandard0,
  UnknownStandard1,
  UnknownStandardN,
  EndSequence,
}
use Rattle.gimli_line.specs.declared.run.instruction.LineInstruction.TheVariants.{SetAddress, DefineFile}
use Rattle.gimli_line.specs.declared.run.instruction.LineInstruction.TheVariants.{SetDiscriminator, UnknownExtended}
use Rattle.gimli_line.specs.header.Header.{Header, files_with, without_files, directory_of, file_of, from_one}
use Rattle.gimli_line.specs.run.Instruction.{Ins, files_after}
use Rattle.gimli_line.specs.run.InstructionGrammar.{decoded_at}
use Rattle.gimli_line.specs.run.Passing.{files_from}
use Rattle.gimli_line.specs.run.Rows.{files_at_end}
use Rattle.gimli_line.specs.run.Passing.{RunState}
use Rattle.gimli_line.specs.run.EventsWithFiles.{FilesAtEnd}
use Rattle.gimli_c.specs.Location.{Location, layout_at, HasUnit}
use Rattle.gimli_c.specs.FileSeen.{HasFiles, file_seen_by_c}
use Rattle.gimli_c.specs.inside.Run.{header_with}

-- a header that is another one but for its files
pub has_files : (p : Location) (layout : OrderAndLimit) (h complete : Header) (files : List File) → HasUnit p h
    → layout ≡ layout_at p
    → FilesAtEnd layout true h h.program files → without_files complete ≡ without_files h → complete.files ≡ files
    → HasFiles p complete
has_files p layout h complete files unit n at_end same are = record {
  header = h;
  unit = unit;
  files = files;
  at_end = subst (λ (m : OrderAndLimit). FilesAtEnd m true h h.program files) n at_end;
  complete_is =
      ap (λ (k : Header). record k { files = complete.files }) same
      ∙ ap (λ (fs : List File). record h { files = fs }) are;
}

-- ---- files that a program defines stand after the others

-- a list of files, with more after it
record HasFirst (files all : List File) : Type 0 where
  more : List File
  parts : all ≡ files ++ more

the_same : (files : List File) → HasFirst files files
the_same files = record { more = []; parts = sym (append-nil files) }

more_added : (appends : Bool) (f : File) (files : List File) → HasFirst files (files_with appends f files)
more_added true f files = record { more = f ∷ []; parts = refl }
more_added false f files = the_same files

more_files : (appends : Bool) (i : Ins) (files : List File) → HasFirst files (files_after appends i files)
more_files appends (DefineFile f) files = more_added appends f files
more_files appends (Special _) files = the_same files
more_files appends Copy files = the_same files
more_files appends (AdvancePc _) files = the_same files
more_files appends (AdvanceLine _) files = the_same files
more_files appends (SetFile _) files = the_same files
more_files appends (SetColumn _) files = the_same files
more_files appends NegateStatement files = the_same files
more_files appends SetBasicBlock files = the_same files
more_files appends ConstAddPc files = the_same files
more_files appends (FixedAddPc _) files = the_same files
more_files appends SetPrologueEnd files = the_same files
more_files appends SetEpilogueBegin files = the_same files
more_files appends (SetIsa _) files = the_same files
more_files appends (UnknownStandard0 _) files = the_same files
more_files appends (UnknownStandard1 _ _) files = the_same files
more_files appends (UnknownStandardN _ _) files = the_same files
more_files appends EndSequence files = the_same files
more_files appends (SetAddress _) files = the_same files
more_files appends (SetDiscriminator _) files = the_same files
more_files appends (UnknownExtended _ _) files = the_same files

more_from : (appends : Bool) (files : List File) (list : List Ins) → HasFirst files (files_from appends files list)
more_from appends files [] = the_same files
more_from appends files (i ∷ list) =
    let one = more_files appends i files in
    let rest = more_from appends (files_after appends i files) list in
    record {
      more = one.more ++ rest.more;
      parts = rest.parts ∙ ap (λ (fs : List File). fs ++ rest.more) one.parts ∙ append_assoc files one.more rest.more;
    }

more_at_end : (a : RunState) → HasFirst a.files (files_at_end a)
more_at_end a = more_from a.appends a.files (decoded_at a.unread.layout a.fixed a.unread.bytes).0

slice_get-front : {A : Type 0} (xs ys : List A) (k : ℕ) (x : A) → slice_get xs k ≡ Some x
    → slice_get (xs ++ ys) k ≡ Some x
slice_get-front [] ys k x is = absurd (none-some x is)
slice_get-front (y ∷ xs) ys zero x is = is
slice_get-front (y ∷ xs) ys (suc k) x is = slice_get-front xs ys k x is

entry_stays : (b : Bool) (first : Option File) (files more : List File) (index : ℕ) (f : File)
    → (if b then from_one first files index else slice_get files index) ≡ Some f
    → (if b then from_one first (files ++ more) index else slice_get (files ++ more) index) ≡ Some f
entry_stays true first files more zero f is = is
entry_stays true first files more (suc k) f is = slice_get-front files more k f is
entry_stays false first files more index f is = slice_get-front files more index f is

-- a header in a run, by the files of its point
header_is : (a : RunState) (h : Header) → without_files h ≡ a.fixed → h.files ≡ a.files → h ≡ header_with a a.files
header_is a h same are =
    ap (λ (k : Header). record k { files = h.files }) same ∙ ap (λ (fs : List File). header_with a fs) are

-- a file that is there has its index at the end too
pub file_stays : (a : RunState) (h : Header) (index : ℕ) (f : File) → without_files h ≡ a.fixed → h.files ≡ a.files
    → Some f ≡ file_of h index
    → file_of (header_with a a.files) index ≡ file_of (header_with a (files_at_end a)) index
file_stays a h index f same are is =
    let at : file_of (header_with a a.files) index
    ≡ Some f = ap (λ (k : Header). file_of k index) (sym (header_is a h same are))
    ∙ sym is in
    let m = more_at_end a in
    let stays : file_of (header_with a (a.files ++ m.more)) index
    ≡ Some f = entry_stays (nat_le a.fixed.parameters.encoding.version 4) a.fixed.comp_file a.files m.more index f at in
    at ∙ sym (ap (λ (fs : List File). file_of (header_with a fs) index) m.parts ∙ stays)

-- ---- a file that is looked up where it is known, and the header with all files

pub record IsLookedUp (start now : RunState) (h : Header) (index : ℕ) : Type 0 where
  pub header : h ≡ header_with now now.files
  pub fixed : now.fixed ≡ start.fixed
  pub file : file_of (header_with now now.files) index ≡ file_of (header_with now (files_at_end start)) index

pub looked_up : (start now : RunState) (h : Header) (index : ℕ) → without_files h ≡ now.fixed → h.files ≡ now.files
    → now.fixed ≡ start.fixed
    → file_of (header_with now now.files) index ≡ file_of (header_with now (files_at_end start)) index
    → IsLookedUp start now h index
looked_up start now h index same are fixed file = record {
  header = header_is now h same are;
  fixed = fixed;
  file = file;
}

abbrev pub complete : RunState → Header
complete start = header_with start (files_at_end start)

pub file_is : (start now : RunState) (h : Header) (index : ℕ) → IsLookedUp start now h index
    → file_of h index ≡ file_of (complete start) index
file_is start now h index l =
    ap (λ (k : Header). file_of k index) l.header ∙ l.file
    ∙ ap (λ (k : Header). file_of (record k { files = files_at_end start }) index) l.fixed

pub seen_is : (start now : RunState) (h : Header) (index : ℕ) (f : File) → IsLookedUp start now h index
    → file_seen_by_c h f ≡ file_seen_by_c (complete start) f
seen_is start now h index f l =
    ap (λ (k : Header). file_seen_by_c k f) l.header
    ∙ ap (λ (k : Header). file_seen_by_c (record k { files = files_at_end start }) f) l.fixed

pub directory_is : (start now : RunState) (h : Header) (index i : ℕ) → IsLookedUp start now h index
    → directory_of h i ≡ directory_of (complete start) i
directory_is start now h index i l =
    ap (λ (k : Header). directory_of k i) l.header
    ∙ ap (λ (k : Header). directory_of (record k { files = files_at_end start }) i) l.fixed

-- the header with all files, of a run from its start
pub has_complete : (p : Location) (layout : OrderAndLimit) (h : Header) (start : RunState) → HasUnit p h
    → layout ≡ layout_at p
    → FilesAtEnd layout true h h.program (files_at_end start) → start.fixed ≡ without_files h
    → HasFiles p (complete start)
has_complete p layout h start unit n at_end fixed =
    has_files p layout h (complete start) (files_at_end start) unit n at_end
    (ap (λ (k : Header). record k { files = [] }) fixed) refl

-- the header at the end of a run is the one with all files
pub header_whole : (start now : RunState) (h : Header) → without_files h ≡ now.fixed → h.files ≡ now.files
    → now.fixed ≡ start.fixed → now.files ≡ files_at_end start → h ≡ complete start
header_whole start now h same are fixed files =
    header_is now h same are
    ∙ ap (λ (fs : List File). header_with now fs) files
    ∙ ap (λ (k : Header). record k { files = files_at_end start }) fixed
