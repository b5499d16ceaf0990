-- The units of a section, kept one after the other.
use Rattle.std.proofs.Common.{◌≡◌, ℕ, ◌-◌, ◌≤◌, List, [], ◌∷◌, ◌++◌, length, map, take, drop, refl, sym, ap, subst, ◌∙◌}
use Rattle.std.proofs.Common.{append_assoc, inl, inr, arith}
use Rattle.std.specs.Prelude.{Result, Ok, Err, IfOk, IfErr, All}
use Rattle.std.proofs.lemmas.List.{append-nil, map-append, take-append-le, drop-append-le, take_all, length-append}
use Rattle.std.proofs.lemmas.List.{length-drop}
use Rattle.std.proofs.lemmas.List.Elements.{All-push, All-nil}
use Rattle.std.proofs.Math.Seq.{drop-append_seam}
use Rattle.gimli_core.specs.Layout.{OrderAndLimit}
use Rattle.gimli_core.specs.declared.error.Error.{Error}
use Rattle.gimli_line.specs.declared.run.row.LineRow.{LineRow}
use Rattle.gimli_line.specs.header.Header.{SeenHeader, UnitEntry}
use Rattle.gimli_line.specs.run.Unread.{Unread}
use Rattle.gimli_line.specs.Units.{SpellsUnitAt, HasUnitFaultAt}
use Rattle.gimli_line.specs.Units.{UnitWalk}
use Rattle.gimli_lookup.specs.Section.{ListedUnit, KeptUnit, with_sequences, AreAdjacent}
use Rattle.gimli_lookup.specs.inside.Section.{IsOutcome, IsAdded}
use Rattle.gimli_lookup.specs.SectionUnits.{IsUnitOf}
use Rattle.gimli_lookup.specs.UnitRun.{IsKept}
use Rattle.gimli_lookup.proofs.Sections.{up_to_end}

adjacent_more : (from : ℕ) (units : List ListedUnit) (end : ℕ) (u : ListedUnit) (new : ℕ) → AreAdjacent from units end
    → u.first ≡ end → u.first ≤ u.end
    → u.end ≡ new
    → AreAdjacent from (units ++ u ∷ []) new
adjacent_more from [] end u new are first order ends = (first ∙ sym are, order, ends)
adjacent_more from (v ∷ units) end u new are first order ends =
    (are.0, are.1, adjacent_more v.end units end u new are.2 first order ends)

-- sequences of later units change nothing
earlier_same : (sequences more : List (List LineRow)) (from : ℕ) (units : List ListedUnit)
    → AreAdjacent from units (length sequences)
    → map (with_sequences (sequences ++ more)) units ≡ map (with_sequences sequences) units
earlier_same sequences more from [] are = refl
earlier_same sequences more from (u ∷ units) are =
    let within : u.end ≤ length sequences = up_to_end u.end units (length sequences) are.2 in
    let size = u.end - u.first in
    let same : take size (drop u.first (sequences ++ more)) ≡ take size (drop u.first sequences) =
    ap (take size) (drop-append-le u.first sequences more (omega (arith, within, are.1)))
    ∙ take-append-le size (drop u.first sequences) more (omega (arith, within, are.1, length-drop u.first sequences)) in
    ap
    (λ (part : List (List LineRow)). (let k : KeptUnit = record { unit = u; sequences = part } in k)
    ∷ map (with_sequences (sequences ++ more)) units)
    same
    ∙ ap (λ (ks : List KeptUnit). with_sequences sequences u ∷ ks) (earlier_same sequences more u.end units are.2)

-- those of the unit that is added
last_part : (sequences more : List (List LineRow)) (u : ListedUnit) → u.first ≡ length sequences
    → u.end ≡ length (sequences ++ more)
    → take (u.end - u.first) (drop u.first (sequences ++ more)) ≡ more
last_part sequences more u first end =
    let size : length more ≤ u.end - u.first = omega (arith, first, end, length-append sequences more) in
    ap (λ (n : ℕ). take (u.end - u.first) (drop n (sequences ++ more))) first
    ∙ ap (take (u.end - u.first)) (drop-append_seam sequences more)
    ∙ take_all (u.end - u.first) more size

added_unit : (sequences more new : List (List LineRow)) (units : List ListedUnit) (u : ListedUnit)
    → AreAdjacent 0 units (length sequences)
    → new ≡ sequences ++ more
    → u.first ≡ length sequences → u.end ≡ length new
    → map (with_sequences new) (units ++ u ∷ [])
    ≡ map (with_sequences sequences) units ++ record { unit = u; sequences = more } ∷ []
added_unit sequences more new units u are is first end =
    ap (λ (s : List (List LineRow)). map (with_sequences s) (units ++ u ∷ [])) is
    ∙ map-append (with_sequences (sequences ++ more)) units (u ∷ [])
    ∙ ap (λ (ks : List KeptUnit). ks ++ with_sequences (sequences ++ more) u ∷ [])
    (earlier_same sequences more 0 units are)
    ∙ ap (λ (part : List (List LineRow)).
    map (with_sequences sequences) units ++ (let k : KeptUnit = record { unit = u; sequences = part } in k) ∷ [])
    (last_part sequences more u first (end ∙ ap (λ (s : List (List LineRow)). length s) is))

pub is_unit_of : {R Offset Endian : Type 0} (section : Unread) (entry : UnitEntry) (lowest : ℕ)
    (program : Result (SeenHeader R Offset Endian) Error)
    (u : ListedUnit) (o : ℕ)
    (sequences : List (List LineRow)) → u.offset ≡ o → IfOk program (SpellsUnitAt section o entry)
    → IfErr program (HasUnitFaultAt section o entry)
    → IfOk program (λ p. p.layout ≡ section.layout) → IsOutcome lowest program u sequences
    → IsUnitOf section entry lowest (record { unit = u; sequences = sequences })
is_unit_of section entry lowest (Err e) u o sequences offset unit fault layout outcome = inl (record {
  error = e;
  no_header = outcome.0;
  is_fault = outcome.1;
  refusal = subst (λ (n : ℕ). HasUnitFaultAt section n entry e) (sym offset) fault;
  no_sequences = outcome.2;
})
is_unit_of section entry lowest (Ok program) u o sequences offset unit fault layout outcome = inr (record {
  read = program.meaning;
  unit = subst (λ (n : ℕ). SpellsUnitAt section n entry program) (sym offset) unit;
  header = outcome.0;
  is_header = outcome.1;
  layout = outcome.2 ∙ layout;
  kept =
      subst (λ (n : OrderAndLimit). IsKept n lowest program.meaning outcome.0.meaning u.fault sequences) layout
      outcome.3;
})

-- ---- the walk

-- the units so far are kept, and those that are still to come follow them
pub record AreKept (section : Unread) (entry : UnitEntry) (lowest : ℕ) (offsets : List ℕ) (units : List ListedUnit)
    (sequences : List (List LineRow))
    (walk : UnitWalk) : Type 0 where
  pub adjacent : AreAdjacent 0 units (length sequences)
  pub each : All (IsUnitOf section entry lowest) (map (with_sequences sequences) units)
  pub to_come : offsets ≡ map (λ (u : ListedUnit). u.offset) units ++ walk.offsets
  pub same_section : walk.section ≡ section
  pub same_entry : walk.entry ≡ entry

pub none_kept : (lowest : ℕ) (walk : UnitWalk) → AreKept walk.section walk.entry lowest walk.offsets [] [] walk
none_kept lowest walk = record {
  adjacent = refl;
  each = All-nil (IsUnitOf walk.section walk.entry lowest);
  to_come = refl;
  same_section = refl;
  same_entry = refl;
}

-- what a walk says of the unit that it gives
pub record IsGiven {R Offset Endian : Type 0} (old new : UnitWalk) (o : ℕ)
    (program : Result (SeenHeader R Offset Endian) Error) : Type 0 where
  pub next : old.offsets ≡ o ∷ new.offsets
  pub same_section : new.section ≡ old.section
  pub same_entry : new.entry ≡ old.entry
  pub unit : IfOk program (SpellsUnitAt old.section o old.entry)
  pub refusal : IfErr program (HasUnitFaultAt old.section o old.entry)
  pub layout : IfOk program (λ p. p.layout ≡ old.section.layout)

pub one_kept : {R Offset Endian : Type 0} (section : Unread) (entry : UnitEntry) (lowest : ℕ) (offsets : List ℕ)
    (units : List ListedUnit)
    (sequences new : List (List LineRow)) (walk after : UnitWalk)
    (o : ℕ) (program : Result (SeenHeader R Offset Endian) Error) (u : ListedUnit)
    → AreKept section entry lowest offsets units sequences walk
    → IsGiven walk after o program → u.offset ≡ o
    → IsAdded lowest program u sequences new → AreKept section entry lowest offsets (units ++ u ∷ []) new after
one_kept section entry lowest offsets units sequences new walk after o program u kept given offset added =
    let order : u.first
    ≤ u.end = omega (
      arith,
      added.first,
      added.end,
      ap (λ (s : List (List LineRow)). length s) added.added,
      length-append sequences added.sequences,
    ) in
    let here : IsUnitOf walk.section walk.entry lowest (record { unit = u; sequences = added.sequences }) =
    is_unit_of walk.section walk.entry lowest program u o added.sequences offset given.unit given.refusal given.layout
    added.outcome in
    let there : IsUnitOf section entry lowest (record { unit = u; sequences = added.sequences }) =
    subst (λ (s : Unread). IsUnitOf s entry lowest (record { unit = u; sequences = added.sequences })) kept.same_section
    (subst (λ (e : UnitEntry). IsUnitOf walk.section e lowest (record { unit = u; sequences = added.sequences }))
    kept.same_entry here) in
    record {
      adjacent = adjacent_more 0 units (length sequences) u (length new) kept.adjacent added.first order added.end;
      each =
          subst (All (IsUnitOf section entry lowest))
          (sym (added_unit sequences added.sequences new units u kept.adjacent added.added added.first added.end))
          (All-push (IsUnitOf section entry lowest) (map (with_sequences sequences) units)
          (record { unit = u; sequences = added.sequences }) kept.each there);
      to_come = kept.to_come
          ∙ ap (λ (os : List ℕ). map (λ (u : ListedUnit). u.offset) units ++ os)
          (given.next ∙ ap (λ (n : ℕ). n ∷ after.offsets) (sym offset))
          ∙ sym (append_assoc (map (λ (u : ListedUnit). u.offset) units) (u.offset ∷ []) after.offsets)
          ∙ ap (λ (os : List ℕ). os ++ after.offsets) (sym (map-append (λ (u : ListedUnit). u.offset) units (u ∷ [])));
      same_section = given.same_section ∙ kept.same_section;
      same_entry = given.same_entry ∙ kept.same_entry;
    }

-- at the end the offsets are those of all units
pub all_kept : (sequences : List (List LineRow)) (units : List ListedUnit) (offsets : List ℕ)
    → offsets ≡ map (λ (u : ListedUnit). u.offset) units ++ []
    → offsets ≡ map (λ (u : KeptUnit). u.unit.offset) (map (with_sequences sequences) units)
all_kept sequences units offsets is = is ∙ append-nil (map (λ (u : ListedUnit). u.offset) units) ∙ same_offsets units
  where
    same_offsets : (us : List ListedUnit)
        → map (λ (u : ListedUnit). u.offset) us
        ≡ map (λ (u : KeptUnit). u.unit.offset) (map (with_sequences sequences) us)
    same_offsets [] = refl
    same_offsets (u ∷ us) = ap (λ (os : List ℕ). u.offset ∷ os) (same_offsets us)
