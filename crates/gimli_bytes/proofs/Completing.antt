-- What calls of a section with relocations leave, once a linker has completed it.
use Rattle.std.specs.Prelude.{◌≡◌, ◌+◌, ◌%◌, ◌<◌, ◌^◌, ◌++◌, if◌then◌else◌}
use Rattle.gimli_bytes.proofs
use proofs.Common
use Common.{arith, ℕ, ℤ, pos, Bool, true, false, List, length, take, refl, ap, sym, ◌∙◌, Ok, Err, OnOk, OnErr, w64}
use Common.{subst, Result, nat_lt, cast_unsigned, cast_signed, list_any, mod-lt, of_z-to_z, take_at, result_map}
use Common.{SectionId, put_over, udata, Placement, unplaced, Begins, Appends, Overwrites, overwrite_of, patch}
use Common.{Relocatable, Address, Constant, Symbol, Error, InvalidRange, OffsetOutOfBounds, LengthOutOfBounds}
use Common.{RelocationTarget, OfSymbol, OfSection}
use Rattle.gimli_bytes.specs
use specs.Relocations.{
  Bytes,
  AddressOf,
  OffsetInto,
  ReferenceTo,
  BytesAt,
  OffsetAt,
  place_of,
  applied,
  after_call,
  are_inside,
  with_place,
  with_relocation,
  relocation_at,
  number_in_place,
  placed_address,
  placed_offset,
  placed_reference,
  touches,
}
use proofs.PieceLemmas.{length-put_over, take-before}
use proofs.RelocationLemmas.{pow_positive}
use proofs.Relocating.{AreInside, inside-from, inside-to, low_sum}
use proofs.CallsRelocated.{Puts, puts_place, puts_place_at, puts_lowest, more_same, number_same, over_same}

-- ---- either answer

pub either : {X : Type 0} (r : Result X Error) {P Q R : Type 0} → OnOk r P → OnErr r Q → (P → R) → (Q → R) → R
either (Ok x) p q f g = f p
either (Err e) p q f g = g q

pub on_ok : {X : Type 0} (r : Result X Error) {P Q : Type 0} → (P → Q) → OnOk r P → OnOk r Q
on_ok (Ok x) f p = f p
on_ok (Err e) f p = tt

pub on_err : {X : Type 0} (r : Result X Error) {P Q : Type 0} → (P → Q) → OnErr r P → OnErr r Q
on_err (Ok x) f p = tt
on_err (Err e) f p = f p

-- ---- whatever the places

same_ok : {A : Type 0} (x y : A) → (let r : Result A Error = Ok x in r) ≡ Ok y → x ≡ y
same_ok x y h = cc

-- what a call that appends leaves
pub record Grows (v w : Relocatable) : Type 0 where
  pub begins : Begins v.bytes w.bytes
  pub big_is : w.is_big ≡ v.is_big
  pub stays : are_inside v ≡ true → are_inside w ≡ true

begins_more : (old word : List ℕ) → Begins old (old ++ word)
begins_more old word = grind (arith, take_at)

lowest_fits : (n size : ℕ) → n % 256 ^ size < 256 ^ size
lowest_fits n size = mod-lt n (pow_positive _)

puts : (p : Placement) (v w : Relocatable) (target : RelocationTarget) (z : ℤ) (size : ℕ) → AreInside v
    → with_place v target z size ≡ Ok w
    → Puts p v w size (place_of p target (cast_unsigned w64 z % 256 ^ size) % 256 ^ size)
puts p v w target z size inside called = puts_place p v w _ z _ _ inside called (puts_lowest p v target z size)
    (lowest_fits (place_of p target (cast_unsigned w64 z % 256 ^ size)) size)

pub grows_bytes : (v w : Relocatable) (x : List ℕ) → after_call v (Bytes x) ≡ Ok w → Grows v w
grows_bytes v w x called =
    let u : Relocatable = record v { bytes = v.bytes ++ x } in
    subst (Grows v) (same_ok u w called) (record {
      begins = begins_more v.bytes x;
      big_is = refl;
      stays = λ is. inside-to _ _ (more_same unplaced v u x (inside-from _ _ is) refl).inside;
    })

grows_number : (v w : Relocatable) (n size : ℕ) → after_call v (AddressOf (Constant n) size) ≡ Ok w → Grows v w
grows_number v w n size called = by (udata v.is_big n size) called
  where
    by : (r : Result (List ℕ) Error)
        → result_map (λ word. let u : Relocatable = record v { bytes = v.bytes ++ word } in u) r ≡ Ok w → Grows v w
    by (Ok word) e = grows_bytes v w _ e
    by (Err d) e = cc

grows_place : (v w : Relocatable) (target : RelocationTarget) (z : ℤ) (size : ℕ) → with_place v target z size ≡ Ok w
    → Grows v w
grows_place v w target z size called = record {
  begins = (by (udata v.is_big (number_in_place v.addends z size) size) called).0;
  big_is = (by (udata v.is_big (number_in_place v.addends z size) size) called).1;
  stays = λ is. inside-to (length w.bytes) w.relocations
      (puts unplaced v w target z size (inside-from (length v.bytes) v.relocations is) called).inside;
}
  where
    Is : Relocatable → Type 0
    Is u = Begins v.bytes u.bytes × (u.is_big ≡ v.is_big)

    by : (r : Result (List ℕ) Error)
        → result_map (λ word. with_relocation v (relocation_at v (length v.bytes) target z size) (v.bytes ++ word)) r
        ≡ Ok w
        → Is w
    by (Ok word) e = subst Is (same_ok _ w e) (begins_more v.bytes word, refl)
    by (Err d) e = cc

pub grows_address : (v w : Relocatable) (a : Address) (size : ℕ) → after_call v (AddressOf a size) ≡ Ok w → Grows v w
grows_address v w (Constant n) size called = grows_number v w n size called
grows_address v w (Symbol symbol addend) size called = grows_place v w (OfSymbol symbol) addend size called

pub grows_offset : (v w : Relocatable) (section : SectionId) (n size : ℕ)
    → after_call v (OffsetInto section n size) ≡ Ok w → Grows v w
grows_offset v w section n size called = grows_place v w (OfSection section) (cast_signed w64 n) size called

pub grows_reference : (v w : Relocatable) (symbol size : ℕ) → after_call v (ReferenceTo symbol size) ≡ Ok w → Grows v w
grows_reference v w symbol size called = grows_place v w (OfSymbol symbol) (pos 0) size called

-- ---- completed

pub completed_bytes : (p : Placement) (v w : Relocatable) (x : List ℕ) → are_inside v ≡ true
    → after_call v (Bytes x) ≡ Ok w
    → Appends (Ok x) (applied p v) (applied p w)
completed_bytes p v w x is called = grind (arith, more_same, inside-from)

mapped : (r : Result (List ℕ) Error) (old new : List ℕ) → result_map (λ word. old ++ word) r ≡ Ok new
    → Appends r old new
mapped (Ok word) old new e = sym (same_ok _ _ e)
mapped (Err d) old new e = cc

put_there : (p : Placement) (v w : Relocatable) (size n : ℕ) → Puts p v w size n
    → Appends (udata v.is_big n size) (applied p v) (applied p w)
put_there p v w size n so = grind arith

pub completed_address : (p : Placement) (v w : Relocatable) (a : Address) (size : ℕ) → are_inside v ≡ true
    → after_call v (AddressOf a size) ≡ Ok w
    → Appends (placed_address p v.is_big a size) (applied p v) (applied p w)
completed_address p v w (Constant n) size is called = mapped (udata v.is_big n size) (applied p v) (applied p w)
    (number_same p v w n size (inside-from (length v.bytes) v.relocations is) called).same
completed_address p v w (Symbol symbol addend) size is called =
    let low = low_sum (p.symbol symbol) (cast_unsigned w64 addend) (256 ^ size) in
    put_there p v w size ((p.symbol symbol + cast_unsigned w64 addend) % 256 ^ size)
    (rw low at (puts p v w (OfSymbol symbol) addend size (inside-from (length v.bytes) v.relocations is) called))

pub completed_offset : (p : Placement) (v w : Relocatable) (section : SectionId) (n size : ℕ) → n < 2 ^ 64
    → are_inside v ≡ true
    → after_call v (OffsetInto section n size) ≡ Ok w
    → Appends (placed_offset p v.is_big section n size) (applied p v) (applied p w)
completed_offset p v w section n size small is called =
    let bits : cast_unsigned w64 (cast_signed w64 n) ≡ n = of_z-to_z w64 n small in
    let so = puts p v w (OfSection section) (cast_signed w64 n) size (inside-from (length v.bytes) v.relocations is)
    called in
    put_there p v w size (p.section section (n % 256 ^ size) % 256 ^ size) (rw bits at so)

pub completed_reference : (p : Placement) (v w : Relocatable) (symbol size : ℕ) → are_inside v ≡ true
    → after_call v (ReferenceTo symbol size) ≡ Ok w
    → Appends (placed_reference p v.is_big symbol size) (applied p v) (applied p w)
completed_reference p v w symbol size is called =
    let none : p.symbol symbol + 0 ≡ p.symbol symbol = omega arith in
    let low = low_sum (p.symbol symbol) 0 (256 ^ size) ∙ ap (λ k. k % 256 ^ size) none in
    let so = puts p v w (OfSymbol symbol) (pos 0) size (inside-from (length v.bytes) v.relocations is) called in
    put_there p v w size (p.symbol symbol % 256 ^ size) (rw low at so)

-- ---- bytes over others

pub record Stays (v w : Relocatable) (at : ℕ) : Type 0 where
  pub len : length w.bytes ≡ length v.bytes
  pub before : take at w.bytes ≡ take at v.bytes
  pub big_is : w.is_big ≡ v.is_big

pub stays_inside : (v w : Relocatable) (x : List ℕ) (at : ℕ) → after_call v (BytesAt at x) ≡ Ok w → are_inside v ≡ true
    → are_inside w ≡ true
stays_inside v w x at called is = inside-to _ _ (over_same unplaced v w at x (inside-from _ _ is) called).inside

pub completed_over : (p : Placement) (v w : Relocatable) (x : List ℕ) (at : ℕ) → are_inside v ≡ true
    → after_call v (BytesAt at x) ≡ Ok w
    → Overwrites at (Ok x) (applied p v) (applied p w)
completed_over p v w x at is called = grind (arith, over_same, inside-from)

puts_at : (p : Placement) (v w : Relocatable) (at : ℕ) (section : SectionId) (n size : ℕ) → n < 2 ^ 64
    → are_inside v ≡ true
    → after_call v (OffsetAt at section n size) ≡ Ok w
    → (patch (placed_offset p v.is_big section n size) (applied p v) at ≡ Ok (applied p w)) × AreInside w
    × (w.is_big ≡ v.is_big)
puts_at p v w at section n size small is called =
    let bits : cast_unsigned w64 (cast_signed w64 n) ≡ n = of_z-to_z w64 n small in
    let sum = p.section section (cast_unsigned w64 (cast_signed w64 n) % 256 ^ size) % 256 ^ size in
    let so = puts_place_at p v w at (OfSection section) (cast_signed w64 n) size sum (inside-from _ _ is) called
    (puts_lowest p v (OfSection section) (cast_signed w64 n) size)
    (lowest_fits (p.section section (cast_unsigned w64 (cast_signed w64 n) % 256 ^ size)) size) in
    rw bits at so

pub stays_inside_at : (v w : Relocatable) (at : ℕ) (section : SectionId) (n size : ℕ) → n < 2 ^ 64
    → after_call v (OffsetAt at section n size) ≡ Ok w
    → are_inside v ≡ true → are_inside w ≡ true
stays_inside_at v w at section n size small called is =
    inside-to _ _ (puts_at unplaced v w at section n size small is called).1

pub completed_offset_at : (p : Placement) (v w : Relocatable) (at : ℕ) (section : SectionId) (n size : ℕ) → n < 2 ^ 64
    → are_inside v ≡ true
    → after_call v (OffsetAt at section n size) ≡ Ok w
    → Overwrites at (placed_offset p v.is_big section n size) (applied p v) (applied p w)
completed_offset_at p v w at section n size small is called = grind (arith, puts_at)

-- what an overwrite leaves
pub over_stays : (v w : Relocatable) (x : List ℕ) (at : ℕ) → after_call v (BytesAt at x) ≡ Ok w → Stays v w at
over_stays v w x at called = free (list_any (touches at (length x)) v.relocations) called
  where
    put : (new : List ℕ) → overwrite_of v.bytes at x ≡ Ok new
        → (length new ≡ length v.bytes) × (take at new ≡ take at v.bytes)
    put new e = by (nat_lt (length v.bytes) at) (nat_lt (length v.bytes) (at + length x)) refl refl e
      where
        by : (a b : Bool) → nat_lt (length v.bytes) at ≡ a → nat_lt (length v.bytes) (at + length x) ≡ b
            → (let r : Result (List ℕ) Error = if a then Err OffsetOutOfBounds
            else (if b then Err LengthOutOfBounds else Ok (put_over v.bytes at x)) in
            r)
            ≡ Ok new
            → (length new ≡ length v.bytes) × (take at new ≡ take at v.bytes)
        by true b e f h = cc
        by false true e f h = cc
        by false false e f h = grind (arith, length-put_over, take-before)

    over : (r : Result (List ℕ) Error) → overwrite_of v.bytes at x ≡ r
        → result_map (λ new. let u : Relocatable = record v { bytes = new } in u) r ≡ Ok w → Stays v w at
    over (Ok new) is e =
        let parts = put new is in
        subst (λ u. Stays v u at) (let u : Relocatable = record v { bytes = new } in same_ok u w e)
        (record { len = parts.0; before = parts.1; big_is = refl })
    over (Err d) is e = cc

    free : (b : Bool)
        → result_map (λ new. let u : Relocatable = record v { bytes = new } in u)
        (if b then Err InvalidRange else overwrite_of v.bytes at x)
        ≡ Ok w
        → Stays v w at
    free true e = cc
    free false e = over (overwrite_of v.bytes at x) refl e
