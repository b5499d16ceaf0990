-- The units of a section keep one list of sequences each, and an address has one answer among them.
use Rattle.std.proofs.Common.{◌≡◌, ◌+◌, ℕ, true, List, [], ◌∷◌, ◌++◌, map, drop, refl, sym, ap, subst, ◌∙◌}
use Rattle.std.proofs.Common.{inl, inr}
use Rattle.std.specs.Prelude.{Option, Some, None, All}
use Rattle.std.specs.List.{flat_map}
use Rattle.std.specs.Option.{option_map, option_or}
use Rattle.std.proofs.lemmas.List.{map-append, append-nil}
use Rattle.std.proofs.lemmas.List.Elements.{All-head, All-tail}
use Rattle.gimli_core.specs.Layout.{OrderAndLimit}
use Rattle.gimli_core.specs.declared.error.Error.{Error}
use Rattle.gimli_line.specs.declared.run.row.LineRow.{LineRow}
use Rattle.gimli_line.specs.header.File.{File}
use Rattle.gimli_line.specs.header.Header.{Header, UnitEntry}
use Rattle.gimli_line.specs.header.HeaderGrammar.{SpellsUnit, HasUnitFault}
use Rattle.gimli_line.specs.run.Events.{Event, row, fault}
use Rattle.gimli_line.specs.run.EventsWithFiles.{EventWithFiles}
use Rattle.gimli_line.specs.run.Instruction.{Ins}
use Rattle.gimli_line.specs.run.EventsWithFiles.{Makes, program_made}
use Rattle.gimli_line.specs.run.Sequences.{events_of}
use Rattle.gimli_line.specs.run.Unread.{Unread}
use Rattle.gimli_line.specs.Units.{AreUnitsOnce}
use Rattle.gimli_lookup.specs.FirstPair.{first_pair_of}
use Rattle.gimli_lookup.specs.Section.{KeptUnit, found_at, found_from}
use Rattle.gimli_lookup.specs.SectionUnits.{IsUnitOf, IsRun, IsRefused, AreUnitsOf}
use Rattle.gimli_lookup.specs.UnitRun.{AreBeforeFault, IsKept, standing_parts}
use Rattle.gimli_lookup.proofs.FirstPairs.{of_unit}
use Rattle.gimli_lookup.proofs.OneAnswer.{AreAlwaysDecodedOnce, same_cut}

-- ---- one list of rows before the first fault

-- no row comes first
abbrev StartsWithNoRow : List Event → Type 0
StartsWithNoRow [] = Unit {0}
StartsWithNoRow (row r ∷ events) = ⊥
StartsWithNoRow (fault e ∷ events) = Unit {0}

same_front : (a b : List LineRow) (s t : List Event) → StartsWithNoRow s → StartsWithNoRow t
    → map row a ++ s ≡ map row b ++ t → a ≡ b
same_front [] [] s t left right is = refl
same_front [] (y ∷ b) s t left right is = absurd (subst StartsWithNoRow is left)
same_front (x ∷ a) [] s t left right is = absurd (subst StartsWithNoRow (sym is) right)
same_front (x ∷ a) (y ∷ b) s t left right is =
    let rest : map row a ++ s ≡ map row b ++ t = cc in
    let both : a ≡ b = same_front a b s t left right rest in
    cc

-- the events of what a program makes are rows and then none
record AreRowsThen (layout : OrderAndLimit) (h : Header) (rows : List LineRow) : Type 0 where
  events : List EventWithFiles
  made : Makes layout true h h.program events
  rest : List Event
  no_row : StartsWithNoRow rest
  parts : events_of events ≡ map row rows ++ rest

are_then : (layout : OrderAndLimit) (h : Header) (rows : List LineRow) (e : Option Error) (files : List File)
    → AreBeforeFault layout h rows e files
    → AreRowsThen layout h rows
are_then layout h rows None files before = record {
  events = before.events;
  made = before.made;
  rest = [];
  no_row = tt;
  parts = before.rows_are ∙ sym (append-nil (map row rows));
}
are_then layout h rows (Some e) files before =
    let last : EventWithFiles = record { event = fault e; files = files } in
    record {
      events = before.front ++ last ∷ before.rest;
      made = before.made;
      rest = fault e ∷ events_of before.rest;
      no_row = tt;
      parts =
          map-append (λ (t : EventWithFiles). t.event) before.front (last ∷ before.rest)
          ∙ ap (λ (es : List Event). es ++ fault e ∷ events_of before.rest) before.rows_are;
    }

same_made : AreAlwaysDecodedOnce → (layout : OrderAndLimit) (h : Header) (a b : List EventWithFiles)
    → Makes layout true h h.program a
    → Makes layout true h h.program b → a ≡ b
same_made once layout h a b x y =
    let same = once layout h h.program x.list y.list x.end y.end x.decoding y.decoding in
    x.made
    ∙ ap (λ (list : List Ins). program_made true h list x.end) same.0
    ∙ ap (λ (end : Option Error). program_made true h y.list end) same.1
    ∙ sym y.made

same_parts : AreAlwaysDecodedOnce
    → (layout : OrderAndLimit) (lowest : ℕ) (h k c : Header) (e d : Option Error) (s t : List (List LineRow))
    → IsKept layout lowest h k e s → IsKept layout lowest h c d t → s ≡ t
same_parts once layout lowest h k c e d s t x y =
    let a = are_then layout h x.rows e k.files x.before in
    let b = are_then layout h y.rows d c.files y.before in
    let events = same_made once layout h a.events b.events a.made b.made in
    let rows : x.rows
    ≡ y.rows = same_front x.rows y.rows a.rest b.rest a.no_row b.no_row
    (sym a.parts ∙ ap events_of events ∙ b.parts) in
    let sequences : x.sequences
    ≡ y.sequences = same_cut x.sequences y.sequences x.cut.unended y.cut.unended x.cut.each y.cut.each x.cut.no_end
    y.cut.no_end
    (sym x.cut.joined ∙ rows ∙ y.cut.joined) in
    x.parts_are ∙ ap (flat_map (standing_parts lowest)) sequences ∙ sym y.parts_are

-- ---- one list of sequences of a unit

abbrev pub AreNeverBoth : Type 0
AreNeverBoth =
    (layout : OrderAndLimit) (entry : UnitEntry) (bytes : List ℕ) (h : Header) (e : Error)
    → SpellsUnit layout entry bytes h
    → HasUnitFault layout entry bytes e → ⊥

abbrev pub IsOneHeader : Type 0
IsOneHeader =
    (layout : OrderAndLimit) (entry : UnitEntry) (bytes : List ℕ) (h k : Header) → SpellsUnit layout entry bytes h
    → SpellsUnit layout entry bytes k → h ≡ k

module _ (once : AreAlwaysDecodedOnce) (never : AreNeverBoth) (one : IsOneHeader) (section : Unread) (entry : UnitEntry)
    (lowest : ℕ) where
  not_both : (u w : KeptUnit) → u.unit.offset ≡ w.unit.offset → IsRefused section entry u → IsRun section entry lowest w
      → ⊥
  not_both u w same refused run =
      never section.layout entry (drop w.unit.offset section.bytes) run.read refused.error run.unit
      (subst (λ (o : ℕ). HasUnitFault section.layout entry (drop o section.bytes) refused.error) same refused.refusal)

  same_unit : (u w : KeptUnit) → u.unit.offset ≡ w.unit.offset → IsUnitOf section entry lowest u
      → IsUnitOf section entry lowest w → u.sequences ≡ w.sequences
  same_unit u w same (inl x) (inl y) = x.no_sequences ∙ sym y.no_sequences
  same_unit u w same (inl x) (inr y) = absurd (not_both u w same x y)
  same_unit u w same (inr x) (inl y) = absurd (not_both w u (sym same) y x)
  same_unit u w same (inr x) (inr y) =
      let here : SpellsUnit section.layout entry (drop w.unit.offset section.bytes) x.read =
      subst (λ (o : ℕ). SpellsUnit section.layout entry (drop o section.bytes) x.read) same x.unit in
      let header : x.read
      ≡ y.read = one section.layout entry (drop w.unit.offset section.bytes) x.read y.read here y.unit in
      same_parts once section.layout lowest y.read x.header.meaning y.header.meaning u.unit.fault w.unit.fault
      u.sequences w.sequences
      (subst (λ (h : Header). IsKept section.layout lowest h x.header.meaning u.unit.fault u.sequences) header x.kept)
      y.kept

  same_units : (units others : List KeptUnit)
      → map (λ (u : KeptUnit). u.unit.offset) units ≡ map (λ (u : KeptUnit). u.unit.offset) others
      → All (IsUnitOf section entry lowest) units → All (IsUnitOf section entry lowest) others
      → map (λ (u : KeptUnit). u.sequences) units ≡ map (λ (u : KeptUnit). u.sequences) others
  same_units [] [] same x y = refl
  same_units [] (w ∷ others) same x y = absurd cc
  same_units (u ∷ units) [] same x y = absurd cc
  same_units (u ∷ units) (w ∷ others) same x y =
      let first : u.unit.offset ≡ w.unit.offset = cc in
      let rest : map (λ (u : KeptUnit). u.unit.offset) units ≡ map (λ (u : KeptUnit). u.unit.offset) others = cc in
      let here : u.sequences ≡ w.sequences =
      same_unit u w first (All-head (IsUnitOf section entry lowest) u units x)
      (All-head (IsUnitOf section entry lowest) w others y) in
      let later =
      same_units units others rest (All-tail (IsUnitOf section entry lowest) u units x)
      (All-tail (IsUnitOf section entry lowest) w others y) in
      ap (λ (s : List (List LineRow)). s ∷ map (λ (u : KeptUnit). u.sequences) units) here
      ∙ ap (λ (s : List (List (List LineRow))). w.sequences ∷ s) later

-- ---- one answer at an address

-- what is found hangs on the sequences of units alone
same_from : (a first : ℕ) (units others : List KeptUnit)
    → map (λ (u : KeptUnit). u.sequences) units ≡ map (λ (u : KeptUnit). u.sequences) others
    → found_from a first units ≡ found_from a first others
same_from a first [] [] same = refl
same_from a first [] (v ∷ others) same = absurd cc
same_from a first (u ∷ units) [] same = absurd cc
same_from a first (u ∷ units) (v ∷ others) same =
    let here : u.sequences ≡ v.sequences = cc in
    let rest : map (λ (u : KeptUnit). u.sequences) units ≡ map (λ (u : KeptUnit). u.sequences) others = cc in
    ap (λ (s : List (List LineRow)). option_or (option_map (of_unit first) (first_pair_of a s))
    (found_from a (first + 1) units)) here
    ∙ ap (option_or (option_map (of_unit first) (first_pair_of a v.sequences)))
    (same_from a (first + 1) units others rest)

pub one_answer : AreAlwaysDecodedOnce → AreNeverBoth → IsOneHeader
    → ((layout : OrderAndLimit) (offset : ℕ) (bytes : List ℕ) → AreUnitsOnce layout offset bytes)
    → (section : Unread) (entry : UnitEntry) (lowest a : ℕ) (units others : List KeptUnit)
    → AreUnitsOf section entry lowest units → AreUnitsOf section entry lowest others
    → found_at a units ≡ found_at a others
one_answer once never one list section entry lowest a units others are too =
    same_from a 0 units others
    (same_units once never one section entry lowest units others
    (list section.layout 0 section.bytes (map (λ (u : KeptUnit). u.unit.offset) units)
    (map (λ (u : KeptUnit). u.unit.offset) others) are.offsets too.offsets)
    are.each too.each)
