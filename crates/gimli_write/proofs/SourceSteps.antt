-- What one instruction of a source does to what is still to be read.
use Rattle.std.specs.Prelude.{◌≡◌, ◌≢◌, ◌<◌, ◌≤◌, ◌-◌, ◌&&◌, if◌then◌else◌, ◌∷◌, ◌++◌}
use Rattle.gimli_write.proofs.Common
use Common.{ℕ, Bool, true, false, inl, inr, not, List, [], length, refl, sym, ap, ◌∙◌, append_assoc, arith, Option}
use Common.{Some, None}
use Common.{Result, Ok, Err, OnOk, IfOk, IfErr, length-append, append-nil, OrderAndLimit, Error, AddressOverflow}
use Common.{Header, File, Parameters, EndSequence, DefineFile, SetAddress, Ins, ins_seen, is_end}
use Common.{makes_row, defines_file, files_after, SpellsInstruction, instruction_production, decoded_at, step_of}
use Common.{reset_row, is_refused, next_registers, Unread, is_decoded, one_decoding, instructions_bounded, Sections}
use Common.{ConvertError, Read, SourceStep, More, Made, TablesAndTexts, file_added, Reading, defines, with_definition}
use Common.{ends, stops, address_operand, source_row_offered, tables_after_definition, SourceRun, row_made, state_after}
use Common.{instruction_reading, reading_from, reading_upon, reading_left, step_reading, step_made, Shortens}
use Rattle.gimli_line.specs.run.Execution.{IsExecution}
use Rattle.gimli_line.specs.declared.run.row.LineRow.{LineRow}
use Rattle.gimli_line.specs.declared.run.instruction.LineInstruction.{LineInstruction}
use Rattle.gimli_line.specs.declared.header.file_entry.FileEntry.{FileEntry}
use Rattle.gimli_core.specs.Layout.{Seen}

-- ---- what a program is decoded into, by its front

module _ (layout : OrderAndLimit) (h : Header) (bytes : List ℕ) where
  pub decoded_none : bytes ≡ [] → decoded_at layout h bytes ≡ ([], None)
  decoded_none e =
      sym (one_decoding layout h _ _ _ (record { front = []; rest = bytes; parts = refl; spelled = refl; ended = e }))

  pub decoded_fault : (e : Error) → bytes ≢ [] → (instruction_production layout h).Fault bytes e
      → decoded_at layout h bytes ≡ ([], Some e)
  decoded_fault e some f =
      sym (one_decoding layout h _ _ _
      (record { front = []; rest = bytes; parts = refl; spelled = refl; ended = (some, f) }))

  pub decoded_some : (i : Ins) (front rest : List ℕ) → bytes ≡ front ++ rest → SpellsInstruction layout h front i
      → decoded_at layout h bytes ≡ (i ∷ (decoded_at layout h rest).0, (decoded_at layout h rest).1)
  decoded_some i front rest parts s =
      let c = is_decoded layout h _ in
      sym (one_decoding layout h _ _ _ (record {
        front = front ++ c.front;
        rest = c.rest;
        parts = grind (arith, append_assoc);
        spelled = (front, c.front, refl, s, c.spelled);
        ended = c.ended;
      }))

  -- an instruction has a byte
  pub is_shorter : (i : Ins) (front rest : List ℕ) → bytes ≡ front ++ rest → SpellsInstruction layout h front i
      → length rest < length bytes
  is_shorter i front rest parts s =
      let some : length (i ∷ []) ≤ length front =
      instructions_bounded layout h front (i ∷ []) None (record {
        front = front;
        rest = [];
        parts = sym (append-nil front);
        spelled = grind (arith, append-nil);
        ended = refl;
      }) in
      omega (arith, length-append front rest, ap length parts)

-- ---- readings

if_true : {A : Type 0} {b : Bool} {x : A} (y : A) → b ≡ true → (if b then x else y) ≡ x
if_true y e = grind arith

if_false : {A : Type 0} {b : Bool} (x : A) {y : A} → b ≡ false → (if b then x else y) ≡ y
if_false x e = grind arith

pub no_file : (sections : Sections) {tables : TablesAndTexts} (i : Ins) → defines_file i ≡ false
    → tables_after_definition sections tables i ≡ Ok tables
no_file sections (DefineFile f) e = absurd cc
no_file sections i e = refl

no_definition : (i : Ins) {rest : Reading} → defines_file i ≡ false → with_definition i rest ≡ rest
no_definition (DefineFile f) e = absurd cc
no_definition i e = refl

-- bytes that are unread count by their instructions alone
same_reading : (sections : Sections) (u v : Unread) (s : SourceRun) (there : Result TablesAndTexts ConvertError)
    (list : List Ins) (end : Option Error)
    → reading_from sections (record s { unread = u }) there list end
    ≡ reading_from sections (record s { unread = v }) there list end
same_reading sections u v s there [] end = refl
same_reading sections u v s (Err e) (i ∷ list) end = refl
same_reading sections u v s (Ok tables) (i ∷ list) end =
    ap (λ r. instruction_reading s tables i (with_definition i r))
    (same_reading sections u v (state_after i s) (tables_after_definition sections tables i) list end)

module _ (sections : Sections) (tables : TablesAndTexts) (s : SourceRun) where
  pub none_left : s.unread.bytes ≡ [] → reading_left sections s tables ≡ ends tables
  none_left e = grind (arith, decoded_none)

  pub at_fault : (e : Error) → s.unread.bytes ≢ []
      → (instruction_production s.unread.layout s.header).Fault s.unread.bytes e
      → reading_left sections s tables ≡ stops (Read e)
  at_fault e some f =
      ap (λ c. reading_from sections s (Ok tables) c.0 c.1)
      (decoded_fault s.unread.layout s.header s.unread.bytes e some f)

  module _ (u : Unread) (layout : u.layout ≡ s.unread.layout) (i : Ins) (front : List ℕ)
      (parts : s.unread.bytes ≡ front ++ u.bytes)
      (spelled : SpellsInstruction s.unread.layout s.header front i) where
    -- an instruction stands first
    pub first_is : reading_left sections s tables ≡ instruction_reading s tables i
        (with_definition i (reading_upon sections (record (state_after i s) { unread = u })
        (tables_after_definition sections tables i)))
    first_is =
        let there = tables_after_definition sections tables i in
        let c = decoded_at s.unread.layout s.header u.bytes in
        let rest : reading_from sections (state_after i s) there c.0 c.1
        ≡ reading_upon sections (record (state_after i s) { unread = u }) there =
        same_reading sections s.unread u (state_after i s) there c.0 c.1 ∙ ap
        (λ n. reading_from sections (record (state_after i s) { unread = u }) there (decoded_at n s.header u.bytes).0
        (decoded_at n s.header u.bytes).1) (sym layout) in
        ap (λ d. reading_from sections s (Ok tables) d.0 d.1)
        (decoded_some s.unread.layout s.header s.unread.bytes i _ _ parts spelled)
        ∙ ap (λ r. instruction_reading s tables i (with_definition i r)) rest

    abbrev next : SourceRun
    next = record (state_after i s) { unread = u }

    abbrev rest : Reading
    rest = with_definition i (reading_upon sections next (tables_after_definition sections tables i))

    abbrev quiet_or_row : Reading
    quiet_or_row =
        if makes_row i && not s.row.tombstone
        then source_row_offered s.header.parameters.encoding.version tables (row_made s i) rest else rest

    pub after_refusal : is_refused s.header.parameters i s.row ≡ true
        → reading_left sections s tables ≡ stops (Read AddressOverflow)
    after_refusal large = first_is ∙ if_true _ large

    module _ (fits : is_refused s.header.parameters i s.row ≡ false) (file : defines_file i ≡ false) where
      done : reading_left sections s tables ≡ quiet_or_row
      done = first_is ∙ if_false _ fits

      later : rest ≡ reading_left sections next tables
      later = no_definition i file ∙ ap (reading_upon sections next) (no_file _ i file)

      pub after_quiet : (makes_row i && not s.row.tombstone) ≡ false
          → reading_left sections s tables ≡ reading_left sections next tables
      after_quiet quiet = done ∙ if_false _ quiet ∙ later

      pub after_row : (makes_row i && not s.row.tombstone) ≡ true → reading_left sections s tables
          ≡ source_row_offered s.header.parameters.encoding.version tables (row_made s i)
          (reading_left sections next tables)
      after_row loud =
          done ∙ if_true _ loud
          ∙ ap (source_row_offered s.header.parameters.encoding.version tables (row_made s i)) later

  -- a file is defined
  pub after_file : (u : Unread) → u.layout ≡ s.unread.layout → (f : File) (front : List ℕ)
      → s.unread.bytes ≡ front ++ u.bytes → SpellsInstruction s.unread.layout s.header front (DefineFile f)
      → reading_left sections s tables
      ≡ defines (reading_upon sections (record s { unread = u }) (file_added sections tables f))
  after_file u layout f front parts spelled = first_is u layout (DefineFile f) front parts spelled

-- ---- the state of a run, by its parts

abbrev pub state : Header → LineRow → ℕ → Option ℕ → Unread → SourceRun
state h r b p u = record { header = h; row = r; base = b; pending = p; unread = u }

pub state_same : (h k : Header) (r s : LineRow) {b c : ℕ} {p q : Option ℕ} (u : Unread) → h ≡ k → r ≡ s → b ≡ c → p ≡ q
    → state h r b p u ≡ state k s c q u
state_same h k r s u header row base pending = grind arith

no_end : (i : Ins) → makes_row i ≡ false → is_end i ≡ false
no_end EndSequence e = absurd cc
no_end i e = refl

header_same : (i : Ins) (h : Header) {h2 : Header} → defines_file i ≡ false
    → h2 ≡ record h { files = files_after true i h.files }
    → h2 ≡ h
header_same i h file is = grind arith

-- a refusal of an instruction that defines no file
-- registers that are ready don't end a sequence
abbrev pub IsReady : LineRow → Type 0
IsReady r = r.end_sequence ≡ false

module _ (i : Ins) (old new : LineRow) (ready : IsReady old) where
  pub ready_at_refusal : (p : Parameters) → is_refused p i old ≡ true → new ≡ step_of p i old → IsReady new
  ready_at_refusal p over step = grind arith

  pub ready_when_quiet : (p : Parameters) → makes_row i ≡ false → new ≡ step_of p i old → IsReady new
  ready_when_quiet p quiet step = grind arith

-- after a row, whose registers are reset
reset_ready : (p : Parameters) (r : LineRow) (last : Bool) → r.end_sequence ≡ last → IsReady (reset_row p r)
reset_ready p r true is = rw is refl
reset_ready p r false is = rw is refl

pub ready_after_row : (p : Parameters) (new after : LineRow) → after ≡ reset_row p new → IsReady after
ready_after_row p new after reset = rw reset (reset_ready p new new.end_sequence refl)

-- ---- what is done of an instruction that sets no address and defines no file

module _ (i : Ins) (h h2 : Header) (r r2 : LineRow) (b : ℕ) (p : Option ℕ) (u : Unread)
    (address : address_operand i ≡ None) (file : defines_file i ≡ false)
    (fits : is_refused h.parameters i r ≡ false) (files : h2 ≡ record h { files = files_after true i h.files })
    (step : r2 ≡ step_of h.parameters i r) where
  pub header_kept : h2 ≡ h
  header_kept = header_same i h file files

  next_is : {made : Bool} → makes_row i ≡ made → next_registers h.parameters i r
      ≡ (if made then reset_row h.parameters (step_of h.parameters i r) else step_of h.parameters i r)
  next_is is = grind arith

  -- where it makes no row
  pub quiet_state : makes_row i ≡ false → state h2 r2 b p u ≡ state_after i (state h r b p u)
  quiet_state quiet = grind (arith, no_end)

  -- where it makes one
  pub row_state : makes_row i ≡ true → r.end_sequence ≡ false → {k : Header} → k ≡ h2 → {r3 : LineRow}
      → r3 ≡ reset_row k.parameters r2 → {last : Bool} → last ≡ r2.end_sequence → {n : ℕ} → n ≡ (if last then 0 else b)
      → state h2 r3 n None u ≡ state_after i (state h r b p u)
  row_state loud ready lent reset ended counts = grind (arith, next_is)

  pub made_is : {R Endian Offset : Type 0} {given : SourceStep R Endian Offset} {offset : ℕ}
      → given ≡ (if r2.tombstone then More else Made (record { set_address = p; address_offset = offset; row = r2 }))
      → makes_row i ≡ true → offset ≡ r2.address - b → given ≡ step_made (state h r b p u) i
  made_is is loud counts = grind arith

-- ---- what is done of a set address

module _ (a : ℕ) (old new : LineRow) (h h2 : Header) where
  pub address_done : (r : Result Bool Error) → IsExecution true (SetAddress a) old h (r, new, h2)
      → (new ≡ step_of h.parameters (SetAddress a) old) × (h2 ≡ h)
  address_done r (inl same) = (ap (λ t. t.1) same, ap (λ t. t.2) same)
  address_done r (inr lacks) = absurd cc

  pub address_ready : IsReady old → new ≡ step_of h.parameters (SetAddress a) old → IsReady new
  address_ready ready step = grind arith

pub address_state : (a : ℕ) (h h2 : Header) (r : LineRow) {r2 : LineRow} (b : ℕ) (p : Option ℕ) (u : Unread) → h2 ≡ h
    → r2 ≡ step_of h.parameters (SetAddress a) r
    → state h2 r2 a (Some a) u ≡ state_after (SetAddress a) (state h r b p u)
address_state a h h2 r b p u header step = grind arith

-- ---- what is read from a step on

abbrev pub with_unread : SourceRun → Unread → SourceRun
with_unread s u = record s { unread = u }

-- a spelling by the header that was lent
pub spelled_as : (layout : OrderAndLimit) {h k : Header} (front : List ℕ) {i j : Ins} → k ≡ h → i ≡ j
    → SpellsInstruction layout k front i → SpellsInstruction layout h front j
spelled_as layout front same is s = grind arith

module _ {R Endian Offset : Type 0} (s old new : SourceRun) (i : Ins) where
  pub executed_shortens : (r : Result (SourceStep R Endian Offset) ConvertError) → IfOk r (λ step. step ≡ step_made s i)
      → length new.unread.bytes < length old.unread.bytes → IfOk r (λ step. Shortens step old new)
  executed_shortens (Ok step) made lt = grind arith
  executed_shortens (Err e) made lt = tt

module _ {R Offset : Type 0} (Endian : Type 0) (seen : R → Seen) (number : Offset → ℕ) (s : SourceRun) (u : Unread)
    (layout : u.layout ≡ s.unread.layout)
    (i : Ins) (front : List ℕ) (parts : s.unread.bytes ≡ front ++ u.bytes)
    (spelled : SpellsInstruction s.unread.layout s.header front i) where
  made_reading : is_refused s.header.parameters i s.row ≡ false → defines_file i ≡ false
      → (sections : Sections) (tables : TablesAndTexts) → reading_left sections s tables
      ≡ step_reading {Endian = Endian} seen number sections tables (step_made (with_unread s u) i)
      (state_after i (with_unread s u))
  made_reading fits file sections tables = by _ refl
    where
      by : (b : Bool) → (makes_row i && not s.row.tombstone) ≡ b → reading_left sections s tables
          ≡ step_reading {Endian = Endian} seen number sections tables (step_made (with_unread s u) i)
          (state_after i (with_unread s u))
      by true e =
          after_row sections tables s u layout i front parts spelled fits file e ∙ ap
          (λ c. step_reading {Endian = Endian} seen number sections tables
          (if c then Made (row_made (with_unread s u) i) else More) (state_after i (with_unread s u))) (sym e)
      by false e =
          after_quiet sections tables s u layout i front parts spelled fits file e ∙ ap
          (λ c. step_reading {Endian = Endian} seen number sections tables
          (if c then Made (row_made (with_unread s u) i) else More) (state_after i (with_unread s u))) (sym e)

  pub executed_reading : (t : SourceRun) (r : Result (SourceStep R Endian Offset) ConvertError) → defines_file i ≡ false
      → OnOk r (is_refused s.header.parameters i s.row ≡ false)
      → OnOk r (t ≡ state_after i (with_unread s u)) → IfOk r (λ step. step ≡ step_made (with_unread s u) i)
      → IfOk r (λ step. (sections : Sections) (tables : TablesAndTexts)
      → reading_left sections s tables ≡ step_reading seen number sections tables step t)
  executed_reading t (Ok step) file fits next made = grind (arith, made_reading)
  executed_reading t (Err e) file fits next made = tt

  pub executed_refusal : (r : Result (SourceStep R Endian Offset) ConvertError)
      → IfErr r (λ e. (e ≡ Read AddressOverflow) × (is_refused s.header.parameters i s.row ≡ true))
      → IfErr r (λ e. (sections : Sections) (tables : TablesAndTexts) → reading_left sections s tables ≡ stops e)
  executed_refusal (Ok step) over = tt
  executed_refusal (Err e) over =
      λ sections tables. after_refusal sections tables s u layout i front parts spelled over.1 ∙ ap stops cc

-- an instruction that isn't a definition defines no file
pub other_kind : {R Offset Endian : Type 0} (seen : R → Seen) (number : Offset → ℕ)
    (x : LineInstruction R Offset Endian)
    → ((f : FileEntry R Offset Endian) → x ≢ DefineFile f) → defines_file (ins_seen seen number x) ≡ false
other_kind seen number (DefineFile f) other = absurd (other f refl)
other_kind seen number x other = refl
