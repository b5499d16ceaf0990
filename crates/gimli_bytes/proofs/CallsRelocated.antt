-- What calls leave, once the relocations are applied.
use Rattle.std.specs.Prelude.{◌≡◌, ◌⊎◌, ◌+◌, ◌*◌, ◌%◌, ◌^◌, ◌<◌, ◌≤◌, if◌then◌else◌, ◌∷◌, ◌++◌, ◌||◌, ◌+ℤ◌}
use Rattle.gimli_bytes.proofs
use proofs.Common
use Common.{arith, inl, inr, ℕ, ℤ, pos, negsuc, Bool, true, false, List, [], length, refl, ap, sym, ◌∙◌, subst, Ok, Err}
use Common.{length-append, w64, All, Result, nat_eq, FitsSigned, cast_unsigned, cast_signed, mod-eq_of_lt, ints}
use Common.{of_z-to_z, cases_lt, list_any, All-head, All-tail, number_bytes, value_of, result_map, SectionId, put_over}
use Common.{udata, overwrite_of, patch, Relocatable, Placement, Constant, Symbol, Error, InvalidRange, Relocation}
use Common.{RelocationTarget, OfSymbol, OfSection}
use Rattle.gimli_bytes.specs
use specs.Relocations.{
  Call,
  Bytes,
  AddressOf,
  OffsetInto,
  ReferenceTo,
  BytesAt,
  OffsetAt,
  place_of,
  relocated,
  all_relocated,
  applied,
  touches,
  number_in_place,
  addend_in_list,
  with_place,
  with_place_at,
  relocation_at,
  with_relocation,
  result_then,
  after_call,
  after_calls,
  plainly_after,
  plainly_after_calls,
  CallFits,
  CallsFit,
}
use proofs.PieceLemmas.{patched-inside, length-put_over}
use proofs.RelocationLemmas.{length-number, number-mod}
use proofs.Relocating.{AreInside, IsApart, apart-from, addend_is, low_sum, sum_low, word_at, relocated-end}
use proofs.Relocating.{relocated-put, all-more, length-all, all-over, all-last, inside_more, inside_last}

same_ok : {A : Type 0} (x y : A) → (let r : Result A Error = Ok x in r) ≡ Ok y → x ≡ y
same_ok x y h = cc

-- ---- numbers of a size

abbrev pub is_size : ℕ → Bool
is_size size = nat_eq size 1 || nat_eq size 2 || nat_eq size 3 || nat_eq size 4 || nat_eq size 8

pub size_short : (size : ℕ) → is_size size ≡ true → size ≤ 8
size_short size is = by (cases_lt 8 size)
  where
    by : (8 < size) ⊎ (size ≤ 8) → size ≤ 8
    by (inl long) = grind (arith)
    by (inr short) = short

-- what is known of a size where a number of it is written
pub record Sized (is_big : Bool) (m size : ℕ) (word : List ℕ) : Type 0 where
  pub short : size ≤ 8
  pub small : m < 256 ^ size
  pub word_is : word ≡ number_bytes is_big size m
  pub other : (n : ℕ) → n < 256 ^ size → udata is_big n size ≡ Ok (number_bytes is_big size n)

udata_parts : (is_big : Bool) (m size : ℕ) (word : List ℕ) → udata is_big m size ≡ Ok word → Sized is_big m size word
udata_parts is_big m size word h = grind arith

-- ---- places

-- a linker puts this number where a place with this addend stands
abbrev pub PutsNumber : Placement → Relocatable → RelocationTarget → ℤ → ℕ → ℕ → Type 0
PutsNumber p v target z size n = size ≤ 8 → number_in_place v.addends z size < 256 ^ size
    → number_bytes v.is_big size
    (place_of p target ((cast_unsigned w64 (addend_in_list v.addends z) + value_of v.is_big
    (number_bytes v.is_big size (number_in_place v.addends z size))) % 256 ^ size))
    ≡ number_bytes v.is_big size n

pub puts_sum : (p : Placement) (v : Relocatable) (target : RelocationTarget) (z : ℤ)
    (size n : ℕ)
    → (size ≤ 8 → place_of p target (cast_unsigned w64 z % 256 ^ size) % 256 ^ size ≡ n)
    → PutsNumber p v target z size n
puts_sum p v target z size n is = λ short small.
    ap (λ k. number_bytes v.is_big size (place_of p target k)) (addend_is _ _ z _ small) ∙ number-mod _ _ _
    ∙ ap (number_bytes v.is_big size) (is short)

pub puts_lowest : (p : Placement) (v : Relocatable) (target : RelocationTarget) (z : ℤ) (size : ℕ)
    → PutsNumber p v target z size
    (place_of p target (cast_unsigned w64 z % 256 ^ size) % 256 ^ size)
puts_lowest p v target z size = puts_sum p v target z size _ (λ short. refl)

-- what a call leaves that writes this number once the relocations are applied
pub record Puts (p : Placement) (v w : Relocatable) (size n : ℕ) : Type 0 where
  pub wanted : udata v.is_big n size ≡ Ok (number_bytes v.is_big size n)
  pub bytes_are : applied p w ≡ applied p v ++ number_bytes v.is_big size n
  pub inside : AreInside w
  pub big_is : w.is_big ≡ v.is_big

pub puts_place : (p : Placement) (v w : Relocatable) (target : RelocationTarget) (z : ℤ)
    (size n : ℕ) → AreInside v → with_place v target z size ≡ Ok w
    → PutsNumber p v target z size n → n < 256 ^ size → Puts p v w size n
puts_place p v w target z size n inside called sum fits =
    by (udata v.is_big (number_in_place v.addends z size) size) refl called
  where
    r : Relocation
    r = relocation_at v (length v.bytes) target z size

    by : (u : Result (List ℕ) Error) → udata v.is_big (number_in_place v.addends z size) size ≡ u
        → result_map (λ word. with_relocation v r (v.bytes ++ word)) u ≡ Ok w → Puts p v w size n
    by (Ok word) is e =
        let sized = udata_parts _ _ _ _ is in
        let long : length word ≡ size = ap length sized.word_is
        ∙ length-number v.is_big size (number_in_place v.addends z size) in
        let old = all_relocated p v.is_big v.bytes v.relocations in
        let here : length v.bytes ≡ length old = sym (length-all p v.is_big _ _ inside) in
        let number : word_at p v.is_big r word ≡ number_bytes v.is_big size n = ap (word_at p v.is_big r) sized.word_is
        ∙ sum sized.short sized.small
        in
        let all : length (v.bytes ++ word) ≡ length v.bytes + size = omega (arith, length-append v.bytes word) in
        subst (λ x. Puts p v x size n) (same_ok _ w e)
        (record {
          wanted = sized.other n fits;
          bytes_are = all-last p v.is_big v.relocations r (v.bytes ++ word)
              ∙ ap (λ (l : List ℕ). relocated p v.is_big l r)
              (all-more p v.is_big _ _ word inside) ∙ relocated-end p v.is_big _ _ r here (sym long)
              ∙ ap (λ (l : List ℕ). old ++ l) number;
          inside = inside_last _ _ r (inside_more _ (length (v.bytes ++ word)) _ (omega arith) inside) (omega arith);
          big_is = refl;
        })
    by (Err x) is e = cc

-- ---- bytes over others

-- what an overwrite that isn't refused leaves
pub record Over (old new : List ℕ) (at : ℕ) (x : List ℕ) : Type 0 where
  pub fits : at + length x ≤ length old
  pub new_is : new ≡ put_over old at x

pub overwrite_parts : (old new : List ℕ) (at : ℕ) (x : List ℕ) → overwrite_of old at x ≡ Ok new → Over old new at x
overwrite_parts old new at x h = grind arith

-- a number of a size over others
pub puts_place_at : (p : Placement) (v w : Relocatable) (at : ℕ) (target : RelocationTarget) (z : ℤ)
    (size n : ℕ) → AreInside v → with_place_at v at target z size ≡ Ok w
    → PutsNumber p v target z size n → n < 256 ^ size
    → (patch (udata v.is_big n size) (applied p v) at ≡ Ok (applied p w)) × AreInside w ×
    (w.is_big ≡ v.is_big)
puts_place_at p v w at target z size n inside called sum fits =
    free (list_any (touches at size) v.relocations) refl called
  where
    Is : Relocatable → Type 0
    Is x = (patch (udata v.is_big n size) (applied p v) at ≡ Ok (applied p x)) × AreInside x × (x.is_big ≡ v.is_big)

    r : Relocation
    r = relocation_at v at target z size

    old : List ℕ
    old = all_relocated p v.is_big v.bytes v.relocations

    over : All (IsApart at size) v.relocations → (word new : List ℕ)
        → udata v.is_big (number_in_place v.addends z size) size ≡ Ok word
        → overwrite_of v.bytes at word ≡ Ok new → Is (with_relocation v r new)
    over apart word new is h =
        let sized = udata_parts _ _ _ _ is in
        let long : length word ≡ size = ap length sized.word_is
        ∙ length-number v.is_big size (number_in_place v.addends z size) in
        let put = overwrite_parts v.bytes new at word h in
        let same : length old ≡ length v.bytes = length-all p v.is_big _ _ inside in
        let number : word_at p v.is_big r word ≡ number_bytes v.is_big size n = ap (word_at p v.is_big r) sized.word_is
        ∙ sum sized.short sized.small
        in
        let there : All (IsApart at (length word)) v.relocations =
        subst (λ k. All (IsApart at k) v.relocations) (sym long) apart in
        let bytes_are : all_relocated p v.is_big new (v.relocations ++ r ∷ []) ≡ put_over old at
        (number_bytes v.is_big size n) =
        ap (λ (l : List ℕ). all_relocated p v.is_big l (v.relocations ++ r ∷ [])) put.new_is
        ∙ all-last p v.is_big v.relocations r (put_over v.bytes at word) ∙ ap (λ (l : List ℕ). relocated p v.is_big l r)
        (all-over p v.is_big v.relocations v.bytes at word inside put.fits there)
        ∙ relocated-put p v.is_big old _ r (sym long) (omega (arith)) ∙ ap (λ (l : List ℕ). put_over old at l) number in
        let size_is = length-number v.is_big size n in
        let plain : overwrite_of old at (number_bytes v.is_big size n) ≡ Ok
        (all_relocated p v.is_big new (v.relocations ++ r ∷ [])) = patched-inside old at (number_bytes v.is_big size n)
        (all_relocated p v.is_big new (v.relocations ++ r ∷ [])) (omega (arith))
        bytes_are in
        let kept : length new ≡ length v.bytes = ap length put.new_is
        ∙ length-put_over v.bytes at word put.fits in (
          rw (sized.other n fits) plain,
          inside_last _ _ r (subst (λ k. All (λ r. r.offset + r.size ≤ k) v.relocations) (sym kept) inside)
              (omega (arith)),
          refl,
        )

    by : All (IsApart at size) v.relocations → (u : Result (List ℕ) Error)
        → udata v.is_big (number_in_place v.addends z size) size ≡ u
        → result_map (with_relocation v r) (patch u v.bytes at) ≡ Ok w → Is w
    by apart (Err x) is e = cc
    by apart (Ok word) is e = after (overwrite_of v.bytes at word) refl e
      where
        after : (u : Result (List ℕ) Error) → overwrite_of v.bytes at word ≡ u
            → result_map (with_relocation v r) u ≡ Ok w → Is w
        after (Ok new) h e = subst Is (same_ok _ w e) (over apart word new is h)
        after (Err x) h e = cc

    free : (b : Bool) → list_any (touches at size) v.relocations ≡ b
        → result_map (with_relocation v r) (if b then Err InvalidRange else
        patch (udata v.is_big (number_in_place v.addends z size) size) v.bytes at) ≡ Ok w → Is w
    free true is e = cc
    free false is e = by (apart-from at size v.relocations is) (udata v.is_big (number_in_place v.addends z size) size)
        refl e

-- ---- sums

pub wraps : (t : ℕ) (z : ℤ) (n : ℕ) → pos t +ℤ z ≡ pos n → FitsSigned w64 z
    → (q : ℕ) × (t + cast_unsigned w64 z ≡ n + q * 2 ^ 64)
wraps t (pos a) n e f = (0, omega (arith, ints))
wraps t (negsuc a) n e f = (1, omega (arith, ints))

-- ---- calls

-- a call that is plain writes the same plainly
pub record SameCall (p : Placement) (v w : Relocatable) (call : Call) : Type 0 where
  pub same : plainly_after p v.is_big (applied p v) call ≡ Ok (applied p w)
  pub inside : AreInside w
  pub big_is : w.is_big ≡ v.is_big

-- bytes after the others
pub more_same : (p : Placement) (v w : Relocatable) (x : List ℕ) → AreInside v
    → (let u : Relocatable = record v { bytes = v.bytes ++ x } in u) ≡ w → SameCall p v w (Bytes x)
more_same p v w x inside is = grind (arith, all-more, length-append)

-- a number after the others
pub number_same : (p : Placement) (v w : Relocatable) (n size : ℕ) → AreInside v
    → result_map (λ word. let u : Relocatable =
    record v { bytes = v.bytes ++ word } in u) (udata v.is_big n size) ≡ Ok w
    → SameCall p v w (AddressOf (Constant n) size)
number_same p v w n size inside called = by (udata v.is_big n size) refl called
  where
    by : (r : Result (List ℕ) Error) → udata v.is_big n size ≡ r
        → result_map (λ word. let u : Relocatable = record v { bytes = v.bytes ++ word } in u) r ≡ Ok w
        → SameCall p v w (AddressOf (Constant n) size)
    by (Ok word) is e =
        let u : Relocatable = record v { bytes = v.bytes ++ word } in
        let more = more_same p v w _ inside (same_ok u w e) in
        record { same = rw is more.same; inside = more.inside; big_is = more.big_is }
    by (Err x) is e = cc

-- a number that a linker puts
placed_same : (p : Placement) (v w : Relocatable) (size n : ℕ) → Puts p v w size n
    → result_map (λ word. applied p v ++ word) (udata v.is_big n size) ≡ Ok (applied p w)
placed_same p v w size n puts = grind arith

-- bytes over others
pub over_same : (p : Placement) (v w : Relocatable) (at : ℕ) (x : List ℕ) → AreInside v
    → after_call v (BytesAt at x) ≡ Ok w → SameCall p v w (BytesAt at x)
over_same p v w at x inside called = free _ refl called
  where
    by : All (IsApart at (length x)) v.relocations → (r : Result (List ℕ) Error) → overwrite_of v.bytes at x ≡ r
        → result_map (λ new. let u : Relocatable = record v { bytes = new } in u) r ≡ Ok w
        → SameCall p v w (BytesAt at x)
    by apart (Ok new) is e = grind (arith, length-all, length-put_over, all-over)
    by apart (Err y) is e = cc

    free : (b : Bool) → list_any (touches at (length x)) v.relocations ≡ b
        → result_map (λ new. let u : Relocatable = record v { bytes = new } in u)
        (if b then Err InvalidRange else overwrite_of v.bytes at x) ≡ Ok w
        → SameCall p v w (BytesAt at x)
    free true is e = cc
    free false is e = by (apart-from _ _ _ is) (overwrite_of v.bytes at x) refl e

-- an offset into a section that fits the size, as does what it becomes
offset_is : (p : Placement) (section : SectionId) (n size : ℕ) → p.section section n < 256 ^ size
    → n < 256 ^ size → n < 2 ^ 64
    → p.section section (cast_unsigned w64 (cast_signed w64 n) % 256 ^ size) % 256 ^ size
    ≡ p.section section n
offset_is p section n size placed fits bits =
    ap (λ k. p.section section (k % 256 ^ size) % 256 ^ size) (of_z-to_z w64 n bits)
    ∙ ap (λ k. p.section section k % 256 ^ size) (mod-eq_of_lt fits) ∙ mod-eq_of_lt placed

pub call_same : (p : Placement) (v w : Relocatable) (call : Call) → AreInside v → CallFits p call
    → after_call v call ≡ Ok w → SameCall p v w call
call_same p v w (Bytes x) inside fits called =
    let u : Relocatable = record v { bytes = v.bytes ++ x } in
    more_same p v w x inside (same_ok u w called)
call_same p v w (AddressOf (Constant n) size) inside fits called = number_same p v w n size inside called
call_same p v w (AddressOf (Symbol symbol addend) size) inside fits called =
    let n = fits.0.0 in
    let wrapped = wraps (p.symbol symbol) addend n fits.0.1 fits.1 in
    let puts = puts_place p v w (OfSymbol symbol) addend size n inside called
    (puts_sum p v (OfSymbol symbol) addend size n (λ short.
    low_sum _ _ _ ∙ sum_low size _ _ n wrapped.0 short wrapped.1 fits.0.2)) fits.0.2 in
    record {
      same = rw fits.0.1 (placed_same p v w size n puts);
      inside = puts.inside;
      big_is = puts.big_is;
    }
call_same p v w (OffsetInto section n size) inside fits called =
    let puts = puts_place p v w (OfSection section) (cast_signed w64 n) size (p.section section n)
    inside called
    (puts_sum p v (OfSection section) (cast_signed w64 n) size (p.section section n)
    (λ short. offset_is p section n size fits.0 fits.1 fits.2)) fits.0 in
    record {
      same = placed_same p v w size (p.section section n) puts;
      inside = puts.inside;
      big_is = puts.big_is;
    }
call_same p v w (ReferenceTo symbol size) inside fits called =
    let puts = puts_place p v w (OfSymbol symbol) (pos 0) size (p.symbol symbol) inside called
    (puts_sum p v (OfSymbol symbol) (pos 0) size (p.symbol symbol) (λ short.
    low_sum _ 0 _ ∙ sum_low size _ 0 _ 0 short (omega arith) fits)) fits in
    record {
      same = placed_same p v w size (p.symbol symbol) puts;
      inside = puts.inside;
      big_is = puts.big_is;
    }
call_same p v w (BytesAt at x) inside fits called = over_same p v w at x inside called
call_same p v w (OffsetAt at section n size) inside fits called =
    let puts = puts_place_at p v w at (OfSection section) (cast_signed w64 n) size
    (p.section section n) inside called
    (puts_sum p v (OfSection section) (cast_signed w64 n) size (p.section section n)
    (λ short. offset_is p section n size fits.0 fits.1 fits.2)) fits.0 in
    record { same = puts.0; inside = puts.1; big_is = puts.2 }

pub calls_same : (p : Placement) (v w : Relocatable) (calls : List Call) → AreInside v
    → CallsFit p calls → after_calls v calls ≡ Ok w
    → plainly_after_calls p v.is_big (applied p v) calls ≡ Ok (applied p w)
calls_same p v w [] inside fit called =
    ap (λ u. let r : Result (List ℕ) Error = Ok (applied p u) in r) (same_ok v w called)
calls_same p v w (call ∷ calls) inside fit called =
    by (λ u is there e. calls_same p u w calls there (All-tail (CallFits p) call calls fit) e)
    (after_call v call) refl called
  where
    Others : Type 0
    Others = (u : Relocatable) → after_call v call ≡ Ok u → AreInside u → after_calls u calls ≡ Ok w
        → plainly_after_calls p u.is_big (applied p u) calls ≡ Ok (applied p w)

    by : Others → (r : Result Relocatable Error) → after_call v call ≡ r
        → result_then r (λ u. after_calls u calls) ≡ Ok w
        → plainly_after_calls p v.is_big (applied p v) (call ∷ calls) ≡ Ok (applied p w)
    by others (Ok u) is e =
        let first = call_same p v u _ inside (All-head (CallFits p) call calls fit) is in
        rw first.same (subst (λ b. ◌≡◌ {A =
        Result (List ℕ) Error} (plainly_after_calls p b (applied p u) calls) (Ok (applied p w)))
        first.big_is (others u is first.inside e))
    by others (Err x) is e = cc
