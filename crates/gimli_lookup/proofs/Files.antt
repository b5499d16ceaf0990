-- Files that a program defines: the list of a header only grows, and grows where memory was missing for one more.
use Rattle.std.proofs.Common.{◌≡◌, ◌<◌, ◌≤◌, Bool, true, false, ◌||◌, if◌then◌else◌, List, [], ◌∷◌, ◌++◌, length, refl}
use Rattle.std.proofs.Common.{sym, ap, ◌∙◌, length-append, arith}
use Rattle.std.specs.Prelude.{Option, Some, None}
use Rattle.std.specs.List.{list_any}
use Rattle.gimli_core.specs.declared.error.Error.{Error}
use Rattle.gimli_line.specs.declared.run.instruction.LineInstruction.TheVariants.{DefineFile}
use Rattle.gimli_line.specs.declared.run.row.LineRow.{LineRow}
use Rattle.gimli_line.specs.header.File.{File}
use Rattle.gimli_line.specs.header.Header.{Header, without_files}
use Rattle.gimli_line.specs.header.Orders.{HeaderSource}
use Rattle.gimli_line.specs.header.Parameters.{Parameters}
use Rattle.gimli_line.specs.run.Events.{Event, fault, EventWithFiles, with_files, is_given, given_of}
use Rattle.gimli_line.specs.run.Machine.{made_step, next_registers, made_from}
use Rattle.gimli_line.specs.run.Instruction.{Ins, defines_file, files_after}
use Rattle.gimli_line.specs.run.InstructionGrammar.{decoded_at}
use Rattle.gimli_line.specs.run.Passing.{with_reset_row, files_from}
use Rattle.gimli_line.specs.run.Rows.{WantsMemory, events_left, files_at_end, live_events, whole_run}
use Rattle.gimli_line.specs.run.Passing.{RunState}
use Rattle.gimli_line.proofs.InstructionLaws.{is_decoded}
use Rattle.gimli_line.proofs.Runs.{bare_decoding, decodes_on, decoded_some}
use Rattle.gimli_lookup.specs.Run.{DefinesFile}

-- ---- a list of files only grows

one_keeps : (a : Bool) (i : Ins) (files : List File) → length files ≤ length (files_after a i files)
one_keeps true (DefineFile f) files = omega (arith, length-append files (f ∷ []))
one_keeps false (DefineFile f) files = omega arith
one_keeps a i files = omega arith

all_keep : (a : Bool) (files : List File) (list : List Ins) → length files ≤ length (files_from a files list)
all_keep a files [] = omega arith
all_keep a files (i ∷ list) = omega (arith, one_keeps a i files, all_keep a (files_after a i files) list)

one_grows : (i : Ins) (files : List File) → defines_file i ≡ true → length files < length (files_after true i files)
one_grows (DefineFile f) files defines = omega (arith, length-append files (f ∷ []))
one_grows i files defines = absurd cc

all_grow : (files : List File) (before : List Ins) (i : Ins) (rest : List Ins) → defines_file i ≡ true
    → length files < length (files_from true files (before ++ i ∷ rest))
all_grow files [] i rest defines =
    omega (arith, one_grows i files defines, all_keep true (files_after true i files) rest)
all_grow files (j ∷ before) i rest defines =
    omega (arith, one_keeps true j files, all_grow (files_after true j files) before i rest defines)

heads : (x y : EventWithFiles) (xs ys : List EventWithFiles) → x ∷ xs ≡ y ∷ ys → x ≡ y
heads x y xs ys is = cc

-- the first event that is given has no fewer files than stood before it
at_events : (files : List File) (here : List Event) (later : List EventWithFiles) (e : EventWithFiles)
    (rest : List EventWithFiles)
    → given_of (with_files files here ++ later) ≡ e ∷ rest
    → (given_of later ≡ e ∷ rest → length files ≤ length e.files) → length files ≤ length e.files
at_events files [] later e rest is otherwise = otherwise is
at_events files (x ∷ here) later e rest is otherwise =
    by (is_given x) (λ is. at_events files here later e rest is otherwise) is
  where
    by : (b : Bool) → (given_of (with_files files here ++ later) ≡ e ∷ rest → length files ≤ length e.files)
        → (if b then record { event = x; files = files } ∷ given_of (with_files files here ++ later)
        else given_of (with_files files here ++ later))
        ≡ e ∷ rest
        → length files ≤ length e.files
    by true next is =
        let first = heads (record { event = x; files = files }) e (given_of (with_files files here ++ later)) rest is in
        omega (arith, ap (λ (t : EventWithFiles). length t.files) first)
    by false next is = next is

at_first : (a : Bool) (h : Parameters) (r : LineRow) (files : List File) (list : List Ins) (end : Option Error)
    (e : EventWithFiles)
    (rest : List EventWithFiles)
    → given_of (made_from a h r files list end) ≡ e ∷ rest → length files ≤ length e.files
at_first a h r files [] None e rest is = absurd cc
at_first a h r files [] (Some d) e rest is =
    let first = heads (record { event = fault d; files = files }) e [] rest is in
    omega (arith, ap (λ (t : EventWithFiles). length t.files) first)
at_first a h r files (i ∷ list) end e rest is =
    at_events files (made_step h i r) (made_from a h (next_registers h i r) (files_after a i files) list end) e rest is
    (λ later. omega
    (arith, one_keeps a i files, at_first a h (next_registers h i r) (files_after a i files) list end e rest later))

pub row_keeps : (old : RunState) (e : EventWithFiles) (rest : List EventWithFiles) → events_left old ≡ e ∷ rest
    → length old.files ≤ length e.files
row_keeps old e rest is =
    let c = decoded_at old.unread.layout old.fixed old.unread.bytes in
    at_first old.appends old.fixed.parameters (with_reset_row old).row old.files c.0 c.1 e rest is

-- ---- a file for which memory was missing is in the list at the end

wanted : (old new : RunState) → old.appends ≡ true → WantsMemory live_events old new
    → length old.files < length (files_at_end old)
wanted old new appends w =
    let n = old.unread.layout in
    let h = old.fixed in
    let spelled = rw (w.passed.layout, w.passed.fixed) at w.spelled in
    let after = (decoded_at n h w.rest).0 in
    let here = decoded_some n h w.point.unread.bytes w.definition w.front w.rest w.parts spelled in
    let whole =
    decodes_on n h old.unread.bytes w.passed.list w.passed.front w.point.unread.bytes w.passed.parts
    w.passed.spelled in
    let list : (decoded_at n h old.unread.bytes).0 ≡ w.passed.list ++ w.definition ∷ after =
    ap (λ (c : List Ins × Option Error). c.0) whole ∙ ap (λ (c : List Ins × Option Error). w.passed.list ++ c.0) here in
    rw (appends, list) (all_grow old.files w.passed.list w.definition after w.defines)

-- ---- a program that defines no file

no_file : (a : Bool) (files : List File) (i : Ins) → defines_file i ≡ false → files_after a i files ≡ files
no_file a files (DefineFile f) none = absurd cc
no_file a files i none = refl

neither : (b c : Bool) → (b || c) ≡ false → (b ≡ false) × (c ≡ false)
neither true c e = absurd cc
neither false c e = (refl, e)

no_files : (a : Bool) (files : List File) (list : List Ins) → list_any defines_file list ≡ false
    → files_from a files list ≡ files
no_files a files [] none = refl
no_files a files (i ∷ list) none =
    let both = neither (defines_file i) (list_any defines_file list) none in
    ap (λ (fs : List File). files_from a fs list) (no_file a files i both.0) ∙ no_files a files list both.1

pub defines : (h : Header) (source : HeaderSource) (first old new : RunState) → first ≡ whole_run h source
    → files_at_end old ≡ files_at_end first → length first.files ≤ length old.files → new.appends ≡ old.appends
    → WantsMemory live_events (with_reset_row old) new
    → DefinesFile source.layout h
defines h source first old new start same few appends w =
    at_test (list_any defines_file (decoded_at source.layout (without_files h) h.program).0) refl
  where
    at_test : (b : Bool) → list_any defines_file (decoded_at source.layout (without_files h) h.program).0 ≡ b
        → DefinesFile source.layout h
    at_test true some = record {
      list = (decoded_at source.layout (without_files h) h.program).0;
      end = (decoded_at source.layout (without_files h) h.program).1;
      decoding =
          bare_decoding source.layout h h.program (decoded_at source.layout (without_files h) h.program).0
          (decoded_at source.layout (without_files h) h.program).1
          (is_decoded source.layout (without_files h) h.program);
      defines = some;
    }
    at_test false none =
        let all = no_files true h.files (decoded_at source.layout (without_files h) h.program).0 none in
        absurd (omega (
          arith,
          few,
          wanted (with_reset_row old) new (sym appends ∙ w.appends) w,
          ap (λ (fs : List File). length fs) same,
          ap (λ (s : RunState). length (files_at_end s)) start,
          ap (λ (fs : List File). length fs) all,
          ap (λ (s : RunState). length s.files) start,
        ))
