-- The units of a section: each is read, they have one list of offsets, and a walk gives it.
use Rattle.std.specs.Prelude.{◌≡◌, ◌≢◌, ◌+◌, ◌-◌, ◌<◌, ◌≤◌, ◌∷◌, ◌++◌, ◌⊎◌}
use Rattle.gimli_line.proofs.Common
use Common.{ℕ, zero, suc, List, [], length, take, drop, Ok, Err, refl, sym, ap, subst, ◌∙◌, arith, append_assoc, inl}
use Common.{inr, cases_lt, append-nil, drop_all, drop_at, take-append-drop, length-append, length-drop, OrderAndLimit}
use Common.{initial_length_size, Reads, Read, Error, Header, UnitEntry}
use Rattle.gimli_core.specs.Production.{unit_length}
use Rattle.gimli_line.specs.header.HeaderGrammar.{header_production, opening_production, fields_production}
use Rattle.gimli_line.specs.header.HeaderGrammar.{parameters_production}
use Common.{SpellsUnit}
use Rattle.gimli_line.specs.Units.{offset_after, any_unit, after_unit, offsets_upto, offsets_at, BeginsWithUnit}
use Rattle.gimli_line.specs.Units.{BeginsWithNoUnit, AreUnits}
use Rattle.gimli_core.proofs.Readers.{readers}

module _ (layout : OrderAndLimit) where
  pub reads_any_unit : Reads (any_unit layout)
  unfolding any_unit
  reads_any_unit = search readers

  -- a unit has bytes
  unit_some : (unit content : List ℕ) → (any_unit layout).Spells unit content → 0 < length unit
  unfolding any_unit unit_length
  unit_some unit content s = grind (arith, length-append)

  -- what comes after the bytes that were read is an end of them, and is shorter
  after_end : (bytes : List ℕ) (r : Read (List ℕ)) → (any_unit layout).read bytes ≡ r
      → (front : List ℕ) × (bytes ≡ front ++ after_unit r)
  after_end bytes (Ok content, rest) is = let f = reads_any_unit.found bytes content rest is in (f.0, f.1)
  after_end bytes (Err e, rest) is = (bytes, sym (append-nil _))

  after_less : (bytes : List ℕ) (r : Read (List ℕ)) → bytes ≢ [] → (any_unit layout).read bytes ≡ r
      → length (after_unit r) < length bytes
  after_less [] r some is = absurd (some refl)
  after_less (b ∷ bytes) (Ok content, rest) some is =
      let f = reads_any_unit.found (b ∷ bytes) content rest is in
      omega (arith, unit_some f.0 content f.2, length-append f.0 rest, ap length f.1)
  after_less (b ∷ bytes) (Err e, rest) some is = omega arith

  after_fault : (e : Error) (r : Read (List ℕ)) → r.0 ≡ Err e → after_unit r ≡ []
  after_fault e (Ok content, rest) is = absurd cc
  after_fault e _ is = refl

  module _ (end : ℕ) where
    upto_none : (more : ℕ) → offsets_upto layout end more [] ≡ []
    unfolding offsets_upto
    upto_none zero = refl
    upto_none (suc more) = refl

    upto_some : (more : ℕ) (bytes : List ℕ) → bytes ≢ []
        → offsets_upto layout end (suc more) bytes
        ≡ (end - length bytes) ∷ offsets_upto layout end more (after_unit ((any_unit layout).read bytes))
    unfolding offsets_upto
    upto_some more [] some = absurd (some refl)
    upto_some more (b ∷ bytes) some = refl

    -- a greater bound changes nothing
    enough : (more less : ℕ) (bytes : List ℕ) → length bytes ≤ more → length bytes ≤ less
        → offsets_upto layout end more bytes ≡ offsets_upto layout end less bytes
    enough more less [] le lower = upto_none _ ∙ sym (upto_none _)
    enough zero less (b ∷ bytes) le lower = absurd (omega arith)
    enough (suc more) zero (b ∷ bytes) le lower = absurd (omega arith)
    enough (suc more) (suc less) (b ∷ bytes) le lower =
        let some : b ∷ bytes ≢ [] = λ none. absurd cc in
        let fewer = after_less _ _ some refl in
        upto_some _ _ some ∙ ap (λ os. (end - length (b ∷ bytes)) ∷ os)
        (enough more less (after_unit ((any_unit layout).read (b ∷ bytes))) (omega arith) (omega arith))
        ∙ sym (upto_some _ _ some)

    pub offsets_none : (bytes : List ℕ) → bytes ≡ [] → offsets_at layout end bytes ≡ []
    offsets_none bytes none = rw none (upto_none 0)

    offsets_some : (bytes : List ℕ) → bytes ≢ []
        → offsets_at layout end bytes
        ≡ (end - length bytes) ∷ offsets_at layout end (after_unit ((any_unit layout).read bytes))
    offsets_some [] some = absurd (some refl)
    offsets_some (b ∷ bytes) some =
        let after = after_unit ((any_unit layout).read (b ∷ bytes)) in
        let fewer = after_less _ _ some refl in
        upto_some _ _ some ∙ ap (λ os. (end - length (b ∷ bytes)) ∷ os)
        (enough _ _ _ (omega arith) (omega arith))

  -- the offsets that are found are those of the units
  upto_units : (end more offset : ℕ) (bytes : List ℕ) → length bytes ≤ more → offset + length bytes ≡ end
      → AreUnits layout offset bytes (offsets_upto layout end more bytes)
  upto_units end more offset [] le ends =
      subst (λ os. AreUnits layout offset [] os) (sym (upto_none _ _)) refl
  upto_units end zero offset (b ∷ bytes) le ends = absurd (omega arith)
  upto_units end (suc more) offset (b ∷ bytes) le ends =
      let some : b ∷ bytes ≢ [] = λ none. absurd cc in
      subst (λ os. AreUnits layout offset (b ∷ bytes) os) (sym (upto_some _ _ _ some))
      (omega arith, at_answer some (λ next rest. upto_units _ _ _ _) _ refl)
    where
      at_answer : b ∷ bytes ≢ []
          → ((next : ℕ) (rest : List ℕ) → length rest ≤ more → next + length rest ≡ end
          → AreUnits layout next rest (offsets_upto layout end more rest))
          → (r : Read (List ℕ)) → (any_unit layout).read (b ∷ bytes) ≡ r
          → BeginsWithUnit layout (b ∷ bytes) (λ size rest.
          AreUnits layout (offset + size) rest (offsets_upto layout end more (after_unit r)))
          ⊎ (BeginsWithNoUnit layout (b ∷ bytes) × (offsets_upto layout end more (after_unit r) ≡ []))
      at_answer some others (Ok content, rest) is =
          let f = reads_any_unit.found (b ∷ bytes) content rest is in
          let long = unit_some _ _ f.2 in
          inl (record {
            unit = f.0;
            content = content;
            rest = rest;
            parts = f.1;
            spelled = f.2;
            follow = others (offset + length f.0) rest (omega (arith, length-append f.0 rest, ap length f.1))
                (omega (arith, length-append f.0 rest, ap length f.1));
          })
      at_answer some others (Err e, rest) is = inr (
        record { some = some; error = e; fault = reads_any_unit.fault (b ∷ bytes) e (rw is refl) },
        upto_none _ _,
      )

  -- and there are no others
  only_units : (offsets : List ℕ) (end more offset : ℕ) (bytes : List ℕ) → length bytes ≤ more
      → offset + length bytes ≡ end
      → AreUnits layout offset bytes offsets → offsets ≡ offsets_upto layout end more bytes
  only_units [] end more offset bytes le ends s = sym (rw s (upto_none _ _))
  only_units (o ∷ offsets) end more offset [] le ends s = elim s.1 [
    | inl u ↦
        absurd (omega (arith, unit_some u.unit u.content u.spelled, length-append u.unit u.rest, ap length u.parts))
    | inr r ↦ absurd (r.0.some refl)
  ]
  only_units (o ∷ offsets) end zero offset (b ∷ bytes) le ends s = absurd (omega arith)
  only_units (o ∷ offsets) end (suc more) offset (b ∷ bytes) le ends s =
      let some : b ∷ bytes ≢ [] = λ none. absurd cc in
      let first : o ≡ end - length (b ∷ bytes) = omega (arith) in
      let others : offsets ≡ offsets_upto layout end more (after_unit ((any_unit layout).read (b ∷ bytes))) = elim s.1 [
        | inl u ↦
            let long = unit_some u.unit u.content u.spelled in
            let read : (any_unit layout).read (b ∷ bytes) ≡ (Ok u.content, u.rest) = ap ((any_unit layout).read) u.parts
            ∙ reads_any_unit.only u.unit u.content u.rest u.spelled in
            rw read (only_units offsets end more (offset + length u.unit) u.rest
            (omega (arith, length-append u.unit u.rest, ap length u.parts))
            (omega (arith, length-append u.unit u.rest, ap length u.parts)) u.follow)
        | inr r ↦
            rw (
              after_fault r.0.error ((any_unit layout).read (b ∷ bytes))
                  (reads_any_unit.refused (b ∷ bytes) r.0.error r.0.fault),
              upto_none end more,
            )
            r.1
      ] in
      ap (λ n. n ∷ offsets) first ∙ ap (λ os. (end - length (b ∷ bytes)) ∷ os) others
      ∙ sym (upto_some end more (b ∷ bytes) some)

  pub are_units : (section : List ℕ) → AreUnits layout 0 section (offsets_at layout (length section) section)
  are_units section = grind (arith, upto_units)

  -- bytes have one list of offsets of units
  pub one_list : (offset : ℕ) (bytes offsets others : List ℕ) → AreUnits layout offset bytes offsets
      → AreUnits layout offset bytes others
      → offsets ≡ others
  one_list offset bytes offsets others s t =
      let end = offset + length bytes in
      only_units offsets end (length bytes) offset bytes (omega arith) refl s
      ∙ sym (only_units _ _ _ _ _ (omega arith) refl t)

  pub some_list : (offset : ℕ) (bytes : List ℕ) → (offsets : List ℕ) × AreUnits layout offset bytes offsets
  some_list offset bytes = (
    offsets_upto layout (offset + length bytes) (length bytes) bytes,
    upto_units _ _ _ _ (omega arith) refl,
  )

  -- ---- a unit with a header

  -- a unit has the bytes of its length, and as many as that says
  unit_size : (unit_entry : UnitEntry) (unit : List ℕ) (h : Header)
      → (header_production layout unit_entry).Spells unit h
      → (content : List ℕ) × (any_unit layout).Spells unit content
      × (length unit ≡ initial_length_size h.parameters.encoding.format + h.unit_length)
  unfolding any_unit unit_length header_production opening_production fields_production parameters_production
  unit_size unit_entry unit h s = grind (arith, append-nil, length-append)

  pub unit_ends : (unit_entry : UnitEntry) (offset : ℕ) (bytes : List ℕ) (h : Header)
      → SpellsUnit layout unit_entry bytes h
      → offset_after offset h ≤ offset + length bytes
  unit_ends unit_entry offset bytes h u =
      let p = unit_size _ _ h u.3 in omega (arith, p.2, length-append u.0 u.1, ap length u.2)

  pub unit_follows : (unit_entry : UnitEntry) (offset next : ℕ) (bytes offsets : List ℕ) (h : Header)
      → SpellsUnit layout unit_entry bytes h
      → AreUnits layout offset bytes (offset ∷ next ∷ offsets) → next ≡ offset_after offset h
  unit_follows unit_entry offset next bytes offsets h u s = elim s.1 [
    | inl b ↦
        let p = unit_size _ _ h u.3 in
        let read : (any_unit layout).read bytes ≡ (Ok p.0, u.1) = ap ((any_unit layout).read) u.2
        ∙ reads_any_unit.only u.0 p.0 u.1 p.1 in
        let again : (any_unit layout).read bytes ≡ (Ok b.content, b.rest) = ap ((any_unit layout).read) b.parts
        ∙ reads_any_unit.only b.unit b.content b.rest b.spelled in
        let same : u.1 ≡ b.rest = ap (λ r. r.1) (sym read ∙ again) in
        omega (
          arith,
          ap length same,
          ap length u.2,
          ap length b.parts,
          length-append u.0 u.1,
          length-append b.unit b.rest,
        )
    | inr r ↦ absurd cc
  ]

  -- ---- a walk through the units of a section

  -- what is left after a unit is an end of the section
  pub rest_is_end : (section : List ℕ) (offset : ℕ) (after : List ℕ)
      → after ≡ after_unit ((any_unit layout).read (drop offset section))
      → (front : List ℕ) × (section ≡ front ++ after)
  rest_is_end section offset after is =
      let a = after_end (drop offset section) ((any_unit layout).read (drop offset section)) refl in (
        take offset section ++ a.0,
        sym (take-append-drop offset section) ∙ ap (λ (xs : List ℕ). take offset section ++ xs) (rw is a.1)
            ∙ sym (append_assoc (take offset section) a.0 after),
      )

  -- the first offset is that of the unit in front; the others are those from the offset after it on
  pub offsets_step : (section : List ℕ) (offset next : ℕ) (after : List ℕ) → drop offset section ≢ []
      → after ≡ after_unit ((any_unit layout).read (drop offset section)) → next + length after ≡ length section
      → offsets_at layout (length section) (drop offset section)
      ≡ offset ∷ offsets_at layout (length section) (drop next section)
  offsets_step section offset next after some is ends =
      let e = rest_is_end section offset after is in
      let rest : drop next section ≡ after = ap (drop next) e.1
      ∙ drop_at e.0 after next (omega (arith, length-append e.0 after, ap length e.1)) in
      let within : offset
      < length section = elim (cases_lt offset (length section))
      [ inl lt ↦ lt | inr le ↦ absurd (some (drop_all offset section le)) ] in
      let first : length section - length (drop offset section) ≡ offset = omega (arith, length-drop offset section) in
      offsets_some (length section) (drop offset section) some
      ∙ ap
      (λ (n : ℕ). n ∷ offsets_at layout (length section) (after_unit ((any_unit layout).read (drop offset section))))
      first ∙ ap (λ (xs : List ℕ). offset ∷ offsets_at layout (length section) xs) (sym is ∙ sym rest)
