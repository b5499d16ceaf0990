-- The machine makes what is found by looking back.
use Rattle.std.specs.Prelude.{◌≡◌, ◌||◌, if◌then◌else◌, ◌∷◌, ◌++◌}
use Rattle.gimli_line.proofs.Common
use Common.{Bool, true, false, not, List, [], Option, None, refl, ap, ◌∙◌, list_any, Error, LineRow, Special, Copy}
use Common.{AdvancePc, AdvanceLine, SetFile, SetColumn, NegateStatement, SetBasicBlock, ConstAddPc, FixedAddPc}
use Common.{SetPrologueEnd, SetEpilogueBegin, SetIsa, UnknownStandard0, UnknownStandard1, UnknownStandardN, EndSequence}
use Common.{SetAddress, DefineFile, SetDiscriminator, UnknownExtended, Parameters, File, Ins, makes_row, files_after}
use Common.{pointer_at, is_under_tombstone, overflows, since_last_row, row, row_at, made_at, EventWithFiles, with_files}
use Common.{made_after, given_of, events_of, events_after, files_at, past_at_end, initial, reset_row, step_of}
use Common.{is_refused, made_step, next_registers, registers_after, made_from, run, files_from}
use Rattle.gimli_line.specs
use specs.run.Registers.{sequence, nearest, is_odd, negates_statement, sets_basic_block, sets_prologue_end}
use specs.run.Registers.{sets_epilogue_begin, discriminator_operand, file_at, column_at, isa_at, is_stmt_at, line_after}

-- the registers before a point
abbrev pub registers : Parameters → List Ins → LineRow
registers h past =
    let here = pointer_at h past in
    let marks = since_last_row h past in
    record {
      tombstone = is_under_tombstone h past;
      address = here.address;
      op_index = here.op_index;
      file = file_at past;
      line = line_after h (sequence past);
      column = column_at past;
      is_stmt = is_stmt_at h past;
      basic_block = list_any sets_basic_block marks;
      end_sequence = false;
      prologue_end = list_any sets_prologue_end marks;
      epilogue_begin = list_any sets_epilogue_begin marks;
      isa = isa_at past;
      discriminator = nearest discriminator_operand 0 marks;
    }

turned : (b d : Bool) → not (if b then not d else d) ≡ (if not b then not d else d)
turned true true = refl
turned true false = refl
turned false d = refl

-- an instruction that gives no event
pub goes_on : (h : Parameters) (past : List Ins) (i : Ins) → overflows h past i ≡ false → makes_row i ≡ false
    → step_of h i (registers h past) ≡ registers h (i ∷ past)
goes_on h past (Special o) fits quiet = absurd cc
goes_on h past Copy fits quiet = absurd cc
goes_on h past EndSequence fits quiet = absurd cc
goes_on h past (AdvancePc n) fits quiet = rw fits refl
goes_on h past (AdvanceLine v) fits quiet = refl
goes_on h past (SetFile n) fits quiet = refl
goes_on h past (SetColumn n) fits quiet = refl
goes_on h past NegateStatement fits quiet = ap (λ (b : Bool). record (registers h past) { is_stmt = b })
    (turned (is_odd negates_statement (sequence past)) h.line_encoding.default_is_stmt)
goes_on h past SetBasicBlock fits quiet = refl
goes_on h past ConstAddPc fits quiet = rw fits refl
goes_on h past (FixedAddPc n) fits quiet = rw fits refl
goes_on h past SetPrologueEnd fits quiet = refl
goes_on h past SetEpilogueBegin fits quiet = refl
goes_on h past (SetIsa n) fits quiet = refl
goes_on h past (UnknownStandard0 o) fits quiet = refl
goes_on h past (UnknownStandard1 o n) fits quiet = refl
goes_on h past (UnknownStandardN o r) fits quiet = refl
goes_on h past (SetAddress a) fits quiet = refl
goes_on h past (DefineFile f) fits quiet = refl
goes_on h past (SetDiscriminator n) fits quiet = refl
goes_on h past (UnknownExtended o r) fits quiet = refl

-- after a row
pub starts_anew : (h : Parameters) (past : List Ins) (i : Ins) → makes_row i ≡ true
    → reset_row h (step_of h i (registers h past)) ≡ registers h (i ∷ past)
starts_anew h past (Special o) loud = refl
starts_anew h past Copy loud = refl
starts_anew h past EndSequence loud = refl
starts_anew h past i loud = absurd cc

-- after an overflow
pub goes_past : (h : Parameters) (past : List Ins) (i : Ins) → overflows h past i ≡ true
    → reset_row h (step_of h i (registers h past)) ≡ registers h (i ∷ past)
goes_past h past (Special o) large = refl
goes_past h past (AdvancePc n) large = rw large refl
goes_past h past ConstAddPc large = rw large refl
goes_past h past (FixedAddPc n) large = rw large refl
goes_past h past i large = absurd cc

-- the row that the machine makes
pub row_is : (h : Parameters) (past : List Ins) (i : Ins) → makes_row i ≡ true
    → step_of h i (registers h past) ≡ row_at h past i
row_is h past (Special o) loud = refl
row_is h past Copy loud = refl
row_is h past EndSequence loud = refl
row_is h past i loud = absurd cc

-- what an instruction makes
makes : (h : Parameters) (past : List Ins) (i : Ins) (o m : Bool) → overflows h past i ≡ o → makes_row i ≡ m
    → made_step h i (registers h past) ≡ made_at h past i
makes h past i true m large loud = rw large refl
makes h past i false true fits loud = rw (fits, loud) (ap (λ (r : LineRow). row r ∷ []) (row_is h past i loud))
makes h past i false false fits quiet = rw (fits, quiet) refl

-- and the registers after it
goes_to : (h : Parameters) (i : Ins) (r : LineRow) (b : Bool) → (is_refused h i r || makes_row i) ≡ b
    → next_registers h i r ≡ (if b then reset_row h (step_of h i r) else step_of h i r)
goes_to h i r b is = ap (λ b. if b then reset_row h (step_of h i r) else step_of h i r) is

goes : (h : Parameters) (past : List Ins) (i : Ins) (o m : Bool) → overflows h past i ≡ o → makes_row i ≡ m
    → next_registers h i (registers h past) ≡ registers h (i ∷ past)
goes h past i true m large loud = goes_to h i (registers h past) true (rw large refl) ∙ goes_past h past i large
goes h past i false true fits loud =
    goes_to h i (registers h past) true (rw (fits, loud) refl) ∙ starts_anew h past i loud
goes h past i false false fits quiet =
    goes_to h i (registers h past) false (rw (fits, quiet) refl) ∙ goes_on h past i fits quiet

-- and the files
files_go : (a : Bool) (files : List File) (past : List Ins) (i : Ins)
    → files_after a i (files_at a files past) ≡ files_at a files (i ∷ past)
files_go true files past (DefineFile f) = refl
files_go false files past (DefineFile f) = refl
files_go a files past i = refl

files_come : (a : Bool) (files : List File) (past list : List Ins)
    → files_from a (files_at a files past) list ≡ files_at a files (past_at_end past list)
files_come a files past [] = refl
files_come a files past (i ∷ list) = rw (files_go a files past i) (files_come a files (i ∷ past) list)

pub files_from_start : (a : Bool) (files : List File) (list : List Ins)
    → files_from a files list ≡ files_at a files (past_at_end [] list)
files_from_start true files list = files_come true files [] list
files_from_start false files list = files_come false files [] list

-- from the registers of a point the machine makes what looking back says
made_are : (a : Bool) (h : Parameters) (files : List File) (past list : List Ins) (end : Option Error)
    → made_from a h (registers h past) (files_at a files past) list end ≡ made_after h (files_at a files) past list end
made_are a h files past [] end = refl
made_are a h files past (i ∷ list) end = rw (
  makes h past i (overflows h past i) (makes_row i) refl refl,
  goes h past i (overflows h past i) (makes_row i) refl refl,
  files_go a files past i,
)
    (ap (λ rest. with_files (files_at a files past) (made_at h past i) ++ rest)
    (made_are a h files (i ∷ past) list end))

-- from the start
pub made_start : (a : Bool) (h : Parameters) (files : List File) (list : List Ins) (end : Option Error)
    → made_from a h (initial h) files list end ≡ made_after h (files_at a files) [] list end
made_start true h files list end = made_are true h files [] list end
made_start false h files list end = made_are false h files [] list end

pub starts : (h : Parameters) (list : List Ins) → run h (initial h) list ≡ events_after h [] list None
starts h list = ap (λ (es : List EventWithFiles). events_of (given_of es)) (made_start false h [] list None)

-- the registers after a past are those that are found by looking back
looked_back : (h : Parameters) (past : List Ins) → registers_after h past ≡ registers h past
looked_back h [] = refl
looked_back h (i ∷ past) =
    ap (next_registers h i) (looked_back h past) ∙ goes h past i (overflows h past i) (makes_row i) refl refl

pub refused_after : (h : Parameters) (past : List Ins) (i : Ins)
    → is_refused h i (registers_after h past) ≡ overflows h past i
refused_after h past i = ap (is_refused h i) (looked_back h past)

pub tombstone_after : (h : Parameters) (past : List Ins)
    → (registers_after h past).tombstone ≡ is_under_tombstone h past
tombstone_after h past = ap (λ (r : LineRow). r.tombstone) (looked_back h past)

pub row_after : (h : Parameters) (past : List Ins) (i : Ins) → makes_row i ≡ true
    → step_of h i (registers_after h past) ≡ row_at h past i
row_after h past i loud = ap (step_of h i) (looked_back h past) ∙ row_is h past i loud
