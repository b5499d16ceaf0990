-- The instructions of items define no file; and what a run is refused for that defines none.
use Rattle.std.specs.Prelude.{◌≡◌, ◌∷◌, ◌++◌, if◌then◌else◌, ◌-ℤ◌, ◌*◌, ◌+◌, ◌-◌}
use Rattle.gimli_build.proofs.Common
use Common.{ℕ, Bool, true, false, not, List, [], refl, sym, ap, ◌∙◌, append_assoc, nat_eq, nat_le, inl, inr, true≢false}
use Common.{All, None, ℤ, pos, append-nil, All-nil, All-cons, All-head, All-tail, All-append, OrderAndLimit, Each}
use Common.{LineEncoding, Header, without_files, Parameters, ReadRow, Special, Copy, AdvancePc, AdvanceLine, ConstAddPc}
use Common.{EndSequence, ReadAddress, Ins, defines_file, makes_row, SpellsInstruction, Decodes, files_after, is_refused}
use Common.{step_of, next_registers, made_from, LineRow, BuiltItem, SetAddress, Row, End, operations, address_value}
use Common.{when, marks, changes, is_special_advance, line_opcode, line_part, constant_advance, row_maker}
use Common.{operation_part, row_instructions, end_instructions, next_previous, item_instructions, items_instructions}
use Rattle.gimli_core.specs.declared.error.Error.{Error}
use Rattle.gimli_core.specs.declared.error.Error.TheVariants.{AddressOverflow}
use Rattle.gimli_line.specs.header.File.{File}
use Rattle.gimli_line.specs.header.Orders.{HeaderSource}
use Rattle.gimli_line.specs.run.InstructionGrammar.{decoded_at, unknown_production, standard_production}
use Rattle.gimli_line.specs.run.InstructionGrammar.{extended_operands, extended_production}
use Rattle.gimli_line.specs.run.Events.{Event, row, fault, EventWithFiles, with_files, given_of, events_of}
use Rattle.gimli_line.specs.run.Passing.{RunState}
use Rattle.gimli_line.specs.run.Passing.{with_reset_row, PassesOver}
use Rattle.gimli_line.specs.run.Rows.{live_events, WantsMemory, FaultIs}
use Rattle.gimli_line.proofs.InstructionLaws.{is_decoded, one_decoding}
use Rattle.gimli_build.proofs.spellings.ItemSpellings.{each_append}
use Rattle.gimli_build.specs.Runs.{DefinesNoFile, program_started}

-- ---- the instructions of items

abbrev NoFile : Ins → Type 0
NoFile i = defines_file i ≡ false

none_when : (due : Bool) (i : Ins) → NoFile i → All NoFile (when due i)
none_when true i none = All-cons NoFile i [] none (All-nil _)
none_when false i none = All-nil _

four_when : (a b c d : Bool) (i j k l : Ins) → NoFile i → NoFile j → NoFile k → NoFile l
    → All NoFile (when a i ++ when b j ++ when c k ++ when d l)
four_when a b c d i j k l p q r s = All-append NoFile _ _ (All-append NoFile _ _
    (All-append NoFile _ _ (none_when a i p) (none_when b j q)) (none_when c k r)) (none_when d l s)

marks_none : (r : LineRow) → All NoFile (marks r)
marks_none r = four_when _ _ _ _ _ _ _ _ refl refl refl refl

changes_none : (version : ℕ) (previous r : LineRow) → All NoFile (changes version previous r)
changes_none version previous r = four_when _ _ _ _ _ _ _ _ refl refl refl refl

line_none : (e : LineEncoding) (d : ℤ) → All NoFile (line_part e d)
line_none e d = by (is_special_advance e d)
  where
    by : (b : Bool) → All NoFile (if b then [] else AdvanceLine d ∷ [])
    by true = All-nil NoFile
    by false = All-cons NoFile _ [] refl (All-nil _)

maker_none : (e : LineEncoding) (s : ℕ) → NoFile (row_maker e s)
maker_none e s = by (nat_eq _ _)
  where
    by : (b : Bool) → NoFile (if b then Copy else Special s)
    by true = refl
    by false = refl

operation_none : (e : LineEncoding) (s n : ℕ) → All NoFile (operation_part e s n)
operation_none e s n = by (nat_le (s + n * e.line_range) 255) (nat_le (s + (n - constant_advance e) * e.line_range) 255)
    (row_maker e (s + n * e.line_range)) (row_maker e (s + (n - constant_advance e) * e.line_range)) (row_maker e s)
    (maker_none e (s + n * e.line_range)) (maker_none e (s + (n - constant_advance e) * e.line_range)) (maker_none e s)
  where
    by : (b c : Bool) (i j k : Ins) → NoFile i → NoFile j → NoFile k
        → All NoFile (if b then i ∷ [] else (if c then ConstAddPc ∷ j ∷ [] else AdvancePc n ∷ k ∷ []))
    by true c i j k p q r = All-cons NoFile i [] p (All-nil _)
    by false true i j k p q r = All-cons NoFile ConstAddPc (j ∷ []) refl (All-cons NoFile j [] q (All-nil _))
    by false false i j k p q r = All-cons NoFile (AdvancePc n) (k ∷ []) refl (All-cons NoFile k [] r (All-nil _))

row_none : (version : ℕ) (e : LineEncoding) (previous r : LineRow) → All NoFile (row_instructions version e previous r)
row_none version e previous r =
    let d = pos r.line -ℤ pos previous.line in
    let n = operations e previous.address_offset previous.op_index r.address_offset r.op_index in
    let s = line_opcode e d in
    All-append NoFile _ _
    (All-append NoFile _ _
    (All-append NoFile _ _ (marks_none r) (changes_none _ previous r)) (line_none e d)) (operation_none e s n)

end_none : (e : LineEncoding) (previous : LineRow) (offset op_index : ℕ)
    → All NoFile (end_instructions e previous offset op_index)
end_none e previous offset op_index =
    let n = operations e previous.address_offset previous.op_index offset op_index in
    All-append NoFile (when (not (nat_eq n 0)) (AdvancePc n)) (EndSequence ∷ [])
    (none_when _ _ refl) (All-cons NoFile EndSequence [] refl (All-nil _))

item_none : (version : ℕ) (e : LineEncoding) (previous : LineRow) (item : BuiltItem)
    → All NoFile (item_instructions version e previous item)
item_none version e previous (SetAddress a) = All-cons NoFile (ReadAddress (address_value a)) [] refl (All-nil _)
item_none version e previous (Row r) = row_none version e previous r
item_none version e previous (End offset op_index) = end_none e previous offset op_index

pub items-none : (version : ℕ) (e : LineEncoding) (previous : LineRow) (items : List BuiltItem)
    → All (λ i. defines_file i ≡ false) (items_instructions version e previous items)
items-none version e previous [] = All-nil NoFile
items-none version e previous (item ∷ items) =
    let next = next_previous version e.default_is_stmt previous item in
    All-append NoFile (item_instructions version e previous item) (items_instructions version e next items)
    (item_none version e previous item) (items-none version e next items)

-- ---- what is left of a program

module _ (layout : OrderAndLimit) (h : Header) where
  -- what stands after whole instructions of a program is the rest of it
  pub rest_decoded : (bytes front rest : List ℕ) (list passed : List Ins) → Decodes layout h bytes list None
      → bytes ≡ front ++ rest → Each (SpellsInstruction layout h) front passed
      → (more : List Ins) × (list ≡ passed ++ more) × Decodes layout h rest more None
  rest_decoded bytes front rest list passed all parts spelled =
      let more = (decoded_at layout h rest).0 in
      let end = (decoded_at layout h rest).1 in
      let own = is_decoded _ _ _ in
      let joined : Decodes layout h bytes (passed ++ more) end = record {
        front = front ++ own.front;
        rest = own.rest;
        parts = parts ∙ ap (λ xs. front ++ xs) own.parts ∙ sym (append_assoc front own.front own.rest);
        spelled = each_append layout h _ _ _ _ spelled own.spelled;
        ended = own.ended;
      } in
      let same = one_decoding _ _ _ _ _ all ∙ sym (one_decoding _ _ _ _ _ joined) in
      let ended = sym (ap (λ p. p.1) same) in
      (more, ap (λ p. p.0) same, rw ended at own)

last_none : (passed more : List Ins) → All NoFile (passed ++ more) → All NoFile more
last_none [] more all = all
last_none (i ∷ passed) more all = last_none passed more (All-tail NoFile i _ all)

-- a run that has gone on still defines no file
pub goes-none : (a b : RunState) (events : List Event) → DefinesNoFile a → PassesOver a b events → DefinesNoFile b
goes-none a b events none p =
    let rest = rest_decoded _ _ _ _ _ _ _ none.decoding p.parts p.spelled in
    let all = rw rest.1 at none.none in
    record { list = rest.0; decoding = rw (p.layout, p.fixed) rest.2; none = last_none _ _ all }

-- ---- refusals

no_memory : (a b : RunState) → DefinesNoFile a → WantsMemory live_events a b → ⊥
no_memory a b none wants =
    let position = goes-none _ _ _ none wants.passed in
    let rest = rest_decoded wants.point.unread.layout wants.point.fixed wants.point.unread.bytes wants.front wants.rest
    position.list (wants.definition ∷ []) position.decoding wants.parts
    (wants.front, [], sym (append-nil _), wants.spelled, refl) in
    let all = rw rest.1 at position.none in
    true≢false (sym wants.defines ∙ All-head NoFile wants.definition rest.0 all)

-- the only fault of whole instructions
only_overflow : (appends : Bool) (parameters : Parameters) (r : ReadRow) (files seen : List File) (list : List Ins)
    (rest : List EventWithFiles) (e : Error)
    → given_of (made_from appends parameters r files list None) ≡ record { event = fault e; files = seen } ∷ rest
    → e ≡ AddressOverflow
only_overflow appends parameters r files seen [] rest e is = absurd cc
only_overflow appends parameters r files seen (i ∷ list) rest e is = by (is_refused parameters i r) (makes_row i)
    (only_overflow appends parameters (next_registers parameters i r) (files_after appends i files) seen list rest e) is
  where
    later : List EventWithFiles
    later = made_from appends parameters (next_registers parameters i r) (files_after appends i files) list None

    Next : Type 0
    Next = given_of later ≡ record { event = fault e; files = seen } ∷ rest → e ≡ AddressOverflow

    row_or_next : (b : Bool) → Next
        → (if b then record { event = row (step_of parameters i r); files = files } ∷ given_of later
        else given_of later)
        ≡ record { event = fault e; files = seen } ∷ rest
        → e ≡ AddressOverflow
    row_or_next true next is = let first = ap events_of is in absurd cc
    row_or_next false next is = next is

    by : (refused made : Bool) → Next
        → given_of (with_files files
        (if refused then fault AddressOverflow ∷ [] else (if made then row (step_of parameters i r) ∷ [] else []))
        ++ later)
        ≡ record { event = fault e; files = seen } ∷ rest
        → e ≡ AddressOverflow
    by true made next is = let first = ap events_of is in cc
    by false true next is = row_or_next (not (step_of parameters i r).tombstone) next is
    by false false next is = next is

pub refused-none : (a b : RunState) (e : Error) → DefinesNoFile a → FaultIs live_events (with_reset_row a) b e
    → e ≡ AddressOverflow
refused-none a b e none (inl memory) =
    absurd (no_memory _ b (record { list = none.list; decoding = none.decoding; none = none.none }) memory.1)
refused-none a b e none (inr next) =
    let same = one_decoding _ _ _ _ _ none.decoding in
    let whole =
    ap (λ p. given_of (made_from a.appends a.fixed.parameters (with_reset_row a).row a.files p.0 p.1)) same in
    only_overflow a.appends a.fixed.parameters (with_reset_row a).row a.files _ none.list _ e (whole ∙ next.0)

-- ---- a program from its start

-- files have no part in how instructions are spelled
bare_spelled : (layout : OrderAndLimit) (h : Header) (bytes : List ℕ) (i : Ins) → SpellsInstruction layout h bytes i
    → SpellsInstruction layout (without_files h) bytes i
unfolding unknown_production standard_production extended_operands extended_production
bare_spelled layout h bytes i s = s

bare_each : (layout : OrderAndLimit) (h : Header) (front : List ℕ) (list : List Ins)
    → Each (SpellsInstruction layout h) front list
    → Each (SpellsInstruction layout (without_files h)) front list
bare_each layout h front [] s = s
bare_each layout h front (i ∷ list) s =
    (s.0, s.1, s.2, bare_spelled _ h _ _ s.3, bare_each layout h s.1 list s.4)

pub starts-none : (source : HeaderSource) (h : Header) (appends : Bool) (list : List Ins)
    → Decodes source.layout h h.program list None
    → All (λ i. defines_file i ≡ false) list → DefinesNoFile (program_started appends h source)
starts-none source h appends list d none = record {
  list = list;
  decoding = record {
    front = d.front;
    rest = d.rest;
    parts = d.parts;
    spelled = bare_each _ h _ _ d.spelled;
    ended = d.ended;
  };
  none = none;
}
