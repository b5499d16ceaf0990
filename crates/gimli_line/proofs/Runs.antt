-- What one instruction does to the events that are still to come.
use Rattle.std.specs.Prelude.{◌≡◌, ◌≢◌, ◌<◌, ◌∷◌, ◌++◌}
use Rattle.gimli_line.proofs
use proofs.Common
use Common.{ℕ, Bool, true, false, List, [], length, Option, Some, None, refl, sym, ap, ◌∙◌, append_assoc, arith, inl}
use Common.{inr, filter, length-append, append-nil, OrderAndLimit, Each, Error, AddressOverflow, LineRow}
use Common.{DefineFile, Parameters, HeaderSource, Header, without_files, files_after, Ins, makes_row, defines_file}
use Common.{File, decoded_at, Event, row, EventWithFiles, is_given, step_of, reset_row, is_refused, made_step}
use Common.{next_registers, Unread, RunState, PassesOver, with_reset_row, registers_from, files_from, live_made}
use Common.{live_events, made_left, events_left, files_at_end, WantsMemory, FaultComes, FaultIs, given_row}
use Rattle.gimli_line.specs
use specs.run.InstructionGrammar.{unknown_production, standard_production, extended_operands, extended_production}
use specs.run.InstructionGrammar.{instruction_production, SpellsInstruction, Decodes, decoded_upto}
use proofs.RunLists.{run_of_one, runs_joined}
use proofs.InstructionLaws.{is_decoded, one_decoding, takes_bytes}

-- ---- what a program is decoded into, by its front

module _ (layout : OrderAndLimit) (h : Header) (bytes : List ℕ) where
  pub decoded_none : bytes ≡ [] → decoded_at layout h bytes ≡ ([], None)
  unfolding decoded_upto
  decoded_none e = rw e refl

  pub decoded_fault : (e : Error) → bytes ≢ [] → (instruction_production layout h).Fault bytes e
      → decoded_at layout h bytes ≡ ([], Some e)
  decoded_fault e some f =
      sym (one_decoding layout h bytes [] _
      (record { front = []; rest = bytes; parts = refl; spelled = refl; ended = (some, f) }))

  pub decoded_some : (i : Ins) (front rest : List ℕ) → bytes ≡ front ++ rest → SpellsInstruction layout h front i
      → decoded_at layout h bytes ≡ (i ∷ (decoded_at layout h rest).0, (decoded_at layout h rest).1)
  decoded_some i front rest parts s =
      let c = is_decoded layout h rest in
      sym (one_decoding layout h bytes _ (decoded_at layout h rest).1 (record {
        front = front ++ c.front;
        rest = c.rest;
        parts = grind (arith, append_assoc);
        spelled = grind arith;
        ended = c.ended;
      }))

pub decodes_on : (n : OrderAndLimit) (h : Header) (bytes : List ℕ) (list : List Ins) (front rest : List ℕ)
    → bytes ≡ front ++ rest
    → Each (SpellsInstruction n h) front list
    → decoded_at n h bytes ≡ (list ++ (decoded_at n h rest).0, (decoded_at n h rest).1)
decodes_on n h bytes [] front rest parts s = grind arith
decodes_on n h bytes (i ∷ list) front rest parts s =
    let whole : bytes ≡ s.0 ++ (s.1 ++ rest) = grind (arith, append_assoc) in
    decoded_some n h bytes i s.0 (s.1 ++ rest) whole s.3
    ∙ ap (λ (c : List Ins × Option Error). (i ∷ c.0, c.1)) (decodes_on n h (s.1 ++ rest) list s.1 rest refl s.4)

-- the files of a header mean nothing to its program
module _ (layout : OrderAndLimit) (h : Header) (bytes : List ℕ) where
  pub bare_decoding : (list : List Ins) (end : Option Error) → Decodes layout (without_files h) bytes list end
      → Decodes layout h bytes list end
  unfolding unknown_production standard_production extended_operands extended_production
  bare_decoding list end c = record {
    front = c.front;
    rest = c.rest;
    parts = c.parts;
    spelled = c.spelled;
    ended = c.ended;
  }

  bare_spelled : (i : Ins) → SpellsInstruction layout h bytes i → SpellsInstruction layout (without_files h) bytes i
  unfolding unknown_production standard_production extended_operands extended_production
  bare_spelled i s = s

  bare_fault : (e : Error) → (instruction_production layout h).Fault bytes e
      → (instruction_production layout (without_files h)).Fault bytes e
  unfolding unknown_production standard_production extended_operands extended_production
  bare_fault e f = f

-- ---- instructions that make a row or are refused

-- such an instruction defines no file
pub no_file_at_row : (a : Bool) (i : Ins) (files : List File) → makes_row i ≡ true → files_after a i files ≡ files
no_file_at_row a (DefineFile f) files made = absurd cc
no_file_at_row a i files made = refl

pub no_file_at_refusal : (a : Bool) (h : Parameters) (i : Ins) (r : LineRow) (files : List File)
    → is_refused h i r ≡ true → files_after a i files ≡ files
no_file_at_refusal a h (DefineFile f) r files large = absurd cc
no_file_at_refusal a h i r files large = refl

-- ---- a state of an iterator, whose program has the header h

abbrev pub state : Bool → Header → HeaderSource → LineRow → Unread → RunState
state a h c r s = record { fixed = without_files h; files = h.files; appends = a; source = c; row = r; unread = s }

abbrev pub events : Event → Header → EventWithFiles
events e h = record { event = e; files = h.files }

pub source_same : (s t : Unread) → s.bytes ≡ t.bytes → s.layout ≡ t.layout → s ≡ t
source_same s t b n =
    grind arith

-- where no bytes are left
pub none_made : (a : RunState) → a.unread.bytes ≡ [] → live_made a ≡ []
none_made a e = rw (decoded_none a.unread.layout a.fixed a.unread.bytes e) refl

pub none_to_make : (a : RunState) → a.unread.bytes ≡ [] → made_left a ≡ []
none_to_make a e = simp none_made

pub none_to_come : (a : RunState) → a.unread.bytes ≡ [] → events_left a ≡ []
none_to_come a e = simp none_to_make

pub end_here : (a : RunState) → a.unread.bytes ≡ [] → files_at_end a ≡ a.files
end_here a e = rw (decoded_none a.unread.layout a.fixed a.unread.bytes e) refl

-- k is the header that was lent, s2 what was left of the instructions
module _ (a : Bool) (h k : Header) (same : k ≡ h) (c c2 : HeaderSource) (r : LineRow) (s s2 : Unread) where
  pub after_fault : (e : Error) → s.bytes ≢ [] → s2.bytes ≡ [] → (instruction_production s.layout k).Fault s.bytes e
      → (r2 : LineRow)
      → FaultComes live_made (state a h c r s) (state a h c2 r2 s2) e
  after_fault e some empty f r2 =
      let last = decoded_fault s.layout (without_files h) s.bytes e some (bare_fault _ h _ e (rw same at f)) in (
        rw (last, none_to_make (state a h c2 r2 s2) empty) refl,
        rw (last, end_here (state a h c2 r2 s2) empty) refl,
        λ _. empty,
      )

  module _ (layout : s2.layout ≡ s.layout) (i : Ins) (front : List ℕ) (parts : s.bytes ≡ front ++ s2.bytes)
      (spelled : SpellsInstruction s.layout k front i) where
    first_decoded : decoded_at s.layout (without_files h) s.bytes
        ≡ (
          i ∷ (decoded_at s.layout (without_files h) s2.bytes).0,
          (decoded_at s.layout (without_files h) s2.bytes).1,
        )
    first_decoded = decoded_some s.layout (without_files h) s.bytes i front s2.bytes parts
        (bare_spelled _ h _ i (rw same at spelled))

    pub is_shorter : length s2.bytes < length s.bytes
    is_shorter = omega (arith, takes_bytes s.layout k front i spelled, length-append front s2.bytes, ap length parts)

    -- one instruction is passed over
    pub passes_one : (h2 : Header) (r2 : LineRow) (events : List Event)
        → h2 ≡ record h { files = files_after a i h.files }
        → filter is_given (made_step h.parameters i r) ≡ events
        → r2 ≡ next_registers h.parameters i r → PassesOver (state a h c r s) (state a h2 c2 r2 s2) events
    passes_one h2 r2 events after given next = record {
      list = i ∷ [];
      front = front;
      parts = parts;
      spelled = (front, [], sym (append-nil front), bare_spelled _ h _ i (rw same at spelled), refl);
      layout = layout;
      fixed = ap without_files after;
      appends = refl;
      given = run_of_one h.parameters i r ∙ given;
      registers = next;
      files = ap (λ (k : Header). k.files) after;
    }

    module _ (h2 : Header) (r2 : LineRow) (after : h2 ≡ record h { files = files_after a i h.files })
        (fits : is_refused h.parameters i r ≡ false) where
      pub passes_quiet : makes_row i ≡ false → r2 ≡ step_of h.parameters i r
          → PassesOver (state a h c r s) (state a h2 c2 r2 s2) []
      passes_quiet made row_is = passes_one h2 r2 [] after (rw (fits, made) refl) (rw (fits, made) row_is)

      pub passes_made : makes_row i ≡ true → r2 ≡ step_of h.parameters i r
          → PassesOver (state a h c r s) (with_reset_row (state a h2 c2 r2 s2)) (given_row r2)
      passes_made made row_is =
          let parameters : h2.parameters ≡ h.parameters = ap (λ (k : Header). k.parameters) after in
          let given : filter is_given (made_step h.parameters i r)
          ≡ given_row r2 = rw (fits, made) (ap given_row (sym row_is)) in
          passes_one h2 (reset_row h2.parameters r2) (given_row r2) after given
          (rw (fits, made, parameters, row_is) refl)

    module _ (h2 : Header) (r2 : LineRow) where
      pub after_quiet : h2 ≡ record h { files = files_after a i h.files } → is_refused h.parameters i r ≡ false
          → makes_row i ≡ false
          → r2 ≡ step_of h.parameters i r
          → live_made (state a h c r s) ≡ live_made (state a h2 c2 r2 s2)
      after_quiet after fits made row_is = rw (first_decoded, after, row_is, layout, fits, made) refl

      pub after_made : h2 ≡ record h { files = files_after a i h.files } → is_refused h.parameters i r ≡ false
          → makes_row i ≡ true
          → r2 ≡ step_of h.parameters i r
          → live_made (state a h c r s) ≡ events (row r2) h2 ∷ made_left (state a h2 c2 r2 s2)
      after_made after fits made row_is =
          let files : files_after a i h.files ≡ h.files = no_file_at_row a i h.files made in
          rw (first_decoded, after, row_is, layout, fits, made, files) refl

      pub after_overflow : h2 ≡ h → is_refused h.parameters i r ≡ true → r2 ≡ step_of h.parameters i r
          → FaultComes live_made (state a h c r s) (state a h2 c2 r2 s2) AddressOverflow
      after_overflow kept large row_is =
          let files : files_after a i h.files ≡ h.files = no_file_at_refusal a h.parameters i r h.files large in
          let after = (decoded_at s.layout (without_files h) s2.bytes).0 in
          let at_end : files_at_end (state a h c r s) ≡ files_from a h.files after =
          ap (λ (c : List Ins × Option Error). files_from a h.files c.0) first_decoded
          ∙ ap (λ (fs : List File). files_from a fs after) files in (
            rw (first_decoded, kept, row_is, layout, large, files) refl,
            rw (kept, layout) (sym at_end),
            λ other. absurd (other refl),
          )

-- ---- passing over several instructions

-- where nothing was taken
pub passes_none : (a b : RunState) → b ≡ a → PassesOver a b []
passes_none a b same = grind arith

each_joined : (n : OrderAndLimit) (h : Header) (front after : List ℕ) (list more : List Ins)
    → Each (SpellsInstruction n h) front list
    → Each (SpellsInstruction n h) after more
    → Each (SpellsInstruction n h) (front ++ after) (list ++ more)
each_joined n h front after [] more s t = rw s t
each_joined n h front after (i ∷ list) more s t = (
  s.0,
  s.1 ++ after,
  ap (λ xs. xs ++ after) s.2 ∙ append_assoc s.0 s.1 after,
  s.3,
  each_joined n h s.1 after list more s.4 t,
)

registers_joined : (h : Parameters) (r : LineRow) (list more : List Ins)
    → registers_from h r (list ++ more) ≡ registers_from h (registers_from h r list) more
registers_joined h r [] more = refl
registers_joined h r (i ∷ list) more = registers_joined h (next_registers h i r) list more

files_joined : (a : Bool) (files : List File) (list more : List Ins)
    → files_from a files (list ++ more) ≡ files_from a (files_from a files list) more
files_joined a files [] more = refl
files_joined a files (i ∷ list) more = files_joined a _ list more

pub passes_both : (a b c : RunState) (es fs : List Event) → PassesOver a b es → PassesOver b c fs
    → PassesOver a c (es ++ fs)
passes_both a b c es fs p q = record {
  list = p.list ++ q.list;
  front = p.front ++ q.front;
  parts = grind (arith, append_assoc);
  spelled =
      grind (arith, each_joined);
  layout = q.layout ∙ p.layout;
  fixed = q.fixed ∙ p.fixed;
  appends = q.appends ∙ p.appends;
  given =
      grind (arith, runs_joined);
  registers = grind (arith, registers_joined);
  files = grind (arith, files_joined);
}

-- the files at the end are the same after what was passed over
pub same_end : (a b : RunState) (es : List Event) → PassesOver a b es → files_at_end b ≡ files_at_end a
same_end a b es p =
    let after = (decoded_at a.unread.layout a.fixed b.unread.bytes).0 in
    let there : files_at_end b
    ≡ files_from a.appends _ after = cc in
    there ∙ sym (files_joined a.appends a.files p.list after)
    ∙ ap (λ c. files_from a.appends a.files c.0)
    (sym (decodes_on a.unread.layout a.fixed a.unread.bytes p.list p.front b.unread.bytes p.parts p.spelled))

-- ---- refusals

-- memory is missing for the file that an instruction defines
pub wants : (a : Bool) (h k : Header) → k ≡ h
    → (c c2 : HeaderSource) (r : LineRow) (s : Unread) (i : Ins) (front rest : List ℕ)
    → s.bytes ≡ front ++ rest
    → SpellsInstruction s.layout k front i → defines_file i ≡ true → (h2 : Header) (r2 : LineRow) (s2 : Unread)
    → s2.bytes ≡ [] → h2 ≡ h → a ≡ true
    → WantsMemory live_made (state a h c r s) (state a h2 c2 r2 s2)
wants a h k same c c2 r s i front rest parts spelled defines h2 r2 s2 empty kept appends = record {
  point = state a h c r s;
  passed = grind (arith);
  kept = refl;
  definition = i;
  front = front;
  rest = rest;
  parts = parts;
  spelled = bare_spelled _ h _ i (rw same at spelled);
  defines = defines;
  appends = appends;
  files = grind arith;
  none = simp none_to_make;
  empty = empty;
}

-- a refusal after instructions of which nothing came
pub wants_after : (live : RunState → List EventWithFiles) (a b c : RunState) → live a ≡ live b → PassesOver a b []
    → WantsMemory live b c
    → WantsMemory live a c
wants_after live a b c kept passed m = record {
  point = m.point;
  passed = passes_both a b m.point [] [] passed m.passed;
  kept = kept ∙ m.kept;
  definition = m.definition;
  front = m.front;
  rest = m.rest;
  parts = m.parts;
  spelled = m.spelled;
  defines = m.defines;
  appends = m.appends;
  files = m.files;
  none = m.none;
  empty = m.empty;
}

pub refused_after : (live : RunState → List EventWithFiles) (a b c : RunState) (e : Error) → live a ≡ live b
    → PassesOver a b [] → FaultIs live b c e
    → FaultIs live a c e
refused_after live a b c e events passed (inl m) = inl (m.0, wants_after live a b c events passed m.1)
refused_after live a b c e events passed (inr f) = inr (events ∙ f.0, f.1 ∙ same_end a b [] passed, f.2)

-- where no bytes are left nothing is refused
pub never_refused : (a b : RunState) (e : Error) → a.unread.bytes ≡ [] → FaultIs live_events a b e → ⊥
never_refused a b e empty (inl m) =
    grind (arith, length-append, takes_bytes)
never_refused a b e empty (inr f) = grind (arith, none_made)
