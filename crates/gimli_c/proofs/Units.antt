-- Where the next unit begins, and what is said of a unit.
use Rattle.std.proofs.Common.{◌≡◌, ℕ, ◌+◌, ◌<◌, ◌≤◌, ◌^◌, Bool, true, List, [], ◌∷◌, ◌++◌, length, drop, Ok, Err, refl}
use Rattle.std.proofs.Common.{sym, ap, subst, ◌∙◌, inl, inr, arith}
use Rattle.std.specs.Prelude.{Result}
use Rattle.std.proofs.lemmas.Bool.{cases_lt}
use Rattle.std.proofs.lemmas.List.{append-nil, drop_all, length-append, length-drop}
use Rattle.gimli_core.specs.Layout.{OrderAndLimit, layout_of}
use Rattle.gimli_core.specs.Numbers.{word_size}
use Rattle.gimli_core.specs.Production.{unit_length}
use Rattle.gimli_core.specs.Reading.{Read, eof}
use Rattle.gimli_core.specs.declared.error.Error.{Error}
use Rattle.gimli_line.specs.Units.{after_unit, any_unit, offset_after}
use Rattle.gimli_line.specs.header.File.{File}
use Rattle.gimli_line.specs.header.Header.{Header, UnitEntry}
use Rattle.gimli_line.specs.header.HeaderGrammar.{header_production, SpellsUnit}
use Rattle.gimli_line.specs.run.Events.{Event, Events}
use Rattle.gimli_line.specs.run.EventsWithFiles.{FilesAtEnd}
use Rattle.gimli_line.proofs.UnitLaws.{reads_any_unit, unit_follows}
use Rattle.gimli_c.specs.declared.unit.GimliUnit.{GimliUnit}
use Rattle.gimli_c.specs.Location.{Location, layout_at, unit_entry_at, HasUnit}
use Rattle.gimli_c.specs.Run.{rows_of, fault_of}
use Rattle.gimli_c.specs.Status.{fault_status}
use Rattle.gimli_c.specs.Unit.{unit_seen, GivesUnit, IsNext, TellsNext}
use Rattle.gimli_c.specs.inside.Unit.{IsReadUnit}
use Rattle.gimli_c.proofs.Runs.{rows_at_most}

-- ---- the next unit

-- no bytes begin with no unit
none_empty : (layout : OrderAndLimit) → ((any_unit layout).read []).0 ≡ Err (eof [])
unfolding any_unit unit_length
none_empty layout = refl

-- after a unit, or at the end where none was taken, the next one begins
pub next_is : (layout : OrderAndLimit) (section : List ℕ) (offset next : ℕ) (after : List ℕ)
    → after ≡ after_unit ((any_unit layout).read (drop offset section)) → next + length after ≡ length section
    → IsNext layout section offset next
next_is layout section offset next after is ends = at_answer ((any_unit layout).read (drop offset section)) refl is
  where
    at_answer : (r : Read (List ℕ)) → (any_unit layout).read (drop offset section) ≡ r → after ≡ after_unit r
        → IsNext layout section offset next
    at_answer (Ok content, rest) read left =
        let f = (reads_any_unit layout).found (drop offset section) content rest read in
        let within : offset < length section = elim (cases_lt offset (length section)) [
          | inl lt ↦ lt
          | inr le ↦
              let wrong : (let r : Result (List ℕ) Error = Err (eof []) in r) ≡ Ok content =
              sym (none_empty layout)
              ∙ ap (λ (xs : List ℕ). ((any_unit layout).read xs).0) (sym (drop_all offset section le))
              ∙ ap (λ (r : Read (List ℕ)). r.0) read in
              absurd cc
        ] in
        inl (record {
          unit = f.0;
          content = content;
          rest = rest;
          parts = f.1;
          spelled = f.2;
          follow =
              omega
              (arith, ends, within, ap length left, ap length f.1, length-append f.0 rest, length-drop offset section);
        })
    at_answer (Err e, rest) read left =
        inr (
          (e, (reads_any_unit layout).fault (drop offset section) e (ap (λ (r : Read (List ℕ)). r.0) read)),
          omega (arith, ends, ap length left),
        )

-- the same by other names of the section and of its order
pub same_next : (section other : List ℕ) (is_big other_big : Bool) (offset next : ℕ) → other ≡ section
    → other_big ≡ is_big
    → IsNext (layout_of other_big (2 ^ 64)) other offset next → IsNext (layout_of is_big (2 ^ 64)) section offset next
same_next section other is_big other_big offset next s b is =
    subst (λ (x : List ℕ). IsNext (layout_of is_big (2 ^ 64)) x offset next) s
    (subst (λ (x : Bool). IsNext (layout_of x (2 ^ 64)) other offset next) b is)

-- a unit with a header is a unit, whatever its content is
unit_any : (layout : OrderAndLimit) (unit_entry : UnitEntry) (unit : List ℕ) (h : Header)
    → (header_production layout unit_entry).Spells unit h
    → (content : List ℕ) × (any_unit layout).Spells unit content
unfolding any_unit header_production
unit_any layout unit_entry unit h s =
    let i = s.5 in
    let o = i.5 in
    let f = o.5 in
    let after : i.2 ≡ [] = o.3 ∙ ap (λ (xs : List ℕ). xs ++ o.2) o.4.0 ∙ f.3 ∙ ap (λ (xs : List ℕ). xs ++ f.2) f.4.0
    ∙ f.5.0 in
    let inside : s.2 ≡ i.1 = i.3 ∙ ap (λ (xs : List ℕ). i.1 ++ xs) after ∙ append-nil i.1 in
    let whole : unit ≡ s.1 ++ i.1 = s.3 ∙ ap (λ (xs : List ℕ). s.1 ++ xs) inside in
    (i.1, (s.0, s.1, i.1, whole, s.4, (i.4.0, refl)))

-- its size is that of its length and as many bytes as that says: another unit may follow it
unit_size : (layout : OrderAndLimit) (unit_entry : UnitEntry) (offset : ℕ) (unit : List ℕ) (h : Header)
    → (header_production layout unit_entry).Spells unit h
    → offset + length unit ≡ offset_after offset h
unfolding any_unit unit_length
unit_size layout unit_entry offset unit h s =
    let any = unit_any layout unit_entry unit h s in
    let one : List ℕ = 1 ∷ [] in
    unit_follows layout unit_entry offset (offset + length unit) (unit ++ one) [] h (unit, one, refl, s) (
      refl,
      inl (record {
        unit = unit;
        content = any.0;
        rest = one;
        parts = refl;
        spelled = any.1;
        follow = (
          refl,
          inr
              (record { some = λ none. absurd cc; error = eof one; fault = inl (inl (inl (omega arith, refl))) }, refl),
        );
      }),
    )

-- what follows a unit with a header stands after its bytes
pub next_follows : (layout : OrderAndLimit) (unit_entry : UnitEntry) (section : List ℕ) (offset next : ℕ) (h : Header)
    → SpellsUnit layout unit_entry (drop offset section) h → IsNext layout section offset next
    → next ≡ offset_after offset h
next_follows layout unit_entry section offset next h u (inl b) =
    let any = unit_any layout unit_entry u.0 h u.3 in
    let read : (any_unit layout).read (drop offset section) ≡ (Ok any.0, u.1) = ap ((any_unit layout).read) u.2
    ∙ (reads_any_unit layout).only u.0 any.0 u.1 any.1 in
    let again : (any_unit layout).read (drop offset section)
    ≡ (Ok b.content, b.rest) = ap ((any_unit layout).read) b.parts
    ∙ (reads_any_unit layout).only b.unit b.content b.rest b.spelled in
    let same : u.1 ≡ b.rest = ap (λ (r : Read (List ℕ)). r.1) (sym read ∙ again) in
    omega (
      arith,
      b.follow,
      unit_size layout unit_entry offset u.0 h u.3,
      ap length same,
      ap length u.2,
      ap length b.parts,
      length-append u.0 u.1,
      length-append b.unit b.rest,
    )
next_follows layout unit_entry section offset next h u (inr none) =
    let any = unit_any layout unit_entry u.0 h u.3 in
    let read : (any_unit layout).read (drop offset section) ≡ (Ok any.0, u.1) = ap ((any_unit layout).read) u.2
    ∙ (reads_any_unit layout).only u.0 any.0 u.1 any.1 in
    let refused = (reads_any_unit layout).refused (drop offset section) none.0.0 none.0.1 in
    let wrong : (let r : Result (List ℕ) Error = Ok any.0 in r)
    ≡ Err none.0.0 = sym (ap (λ (r : Read (List ℕ)). r.0) read)
    ∙ refused in
    absurd cc

-- ---- a unit

-- a unit whose numbers are these is the one that is seen
pub unit_is : (next : ℕ) (h : Header) (events : List Event) (files : List File)
    (unit directories file_count rows version address_size offset_size fault : ℕ)
    → unit ≡ h.unit_length → directories ≡ length h.directories → file_count ≡ length files
    → rows ≡ length (rows_of events)
    → version ≡ h.parameters.encoding.version → address_size ≡ h.parameters.encoding.address_size
    → offset_size ≡ word_size h.parameters.encoding.format
    → fault ≡ fault_status (fault_of events)
    → (let u : GimliUnit = record {
      length = unit;
      next = next;
      directories = directories;
      files = file_count;
      rows = rows;
      version = version;
      address_size = address_size;
      offset_size = offset_size;
      fault = fault;
    } in
    u)
    ≡ unit_seen next h events files
unit_is next h events files unit directories file_count rows version address_size offset_size fault a c d e f g i j =
    rw (a, c, d, e, f, g, i, j) refl

-- what is read of the unit at a location
pub unit_given : (p : Location) (next : ℕ) (h : Header) (layout : OrderAndLimit) (unit : GimliUnit) → HasUnit p h
    → layout ≡ layout_at p → TellsNext p next
    → IsReadUnit next h layout unit → GivesUnit p unit
unit_given p next h layout unit has is tells read = record {
  header = h;
  events = read.events;
  has_events = record {
    unit = has;
    given = subst (λ (n : OrderAndLimit). Events n h h.program read.events) is read.given;
  };
  files = read.files;
  at_end = subst (λ (n : OrderAndLimit). FilesAtEnd n true h h.program read.files) is read.at_end;
  seen =
      read.seen
      ∙ ap (λ (n : ℕ). unit_seen n h read.events read.files)
      (next_follows (layout_at p) (unit_entry_at p) p.section p.offset next h has.1 tells);
}

-- it has no more rows than bytes
pub few_rows_of_unit : (p : Location) (unit : GimliUnit) → GivesUnit p unit → unit.rows ≤ unit.length
few_rows_of_unit p unit g =
    omega (
      arith,
      ap (λ (u : GimliUnit). u.rows) g.seen,
      ap (λ (u : GimliUnit). u.length) g.seen,
      rows_at_most p g.header g.header g.events g.has_events g.has_events.unit,
    )
