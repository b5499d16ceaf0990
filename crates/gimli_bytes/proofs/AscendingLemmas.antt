-- Where places ascend, one of them says whether any is touched.
use Rattle.std.specs.Prelude.{◌≡◌, ◌+◌, ◌<◌, ◌≤◌, ◌∷◌, ◌++◌, ◌&&◌}
use Rattle.gimli_bytes.proofs.Common
use Common.{ℕ, Bool, true, false, not, List, [], length, get_or, refl, sym, ap, ◌∙◌, arith, nat_lt, All, list_any}
use Common.{Relocation}
use Rattle.std.specs.List.Sorted.{IsPartitionedBy, IsPartitionPoint}
use Rattle.std.proofs.lemmas.Bool.{ltb-false, ltb-true, le-ltb, lt-ltb}
use Rattle.std.proofs.lemmas.List.{get_or_default}
use Rattle.std.proofs.lemmas.List.Folds.{list_any_at, list_any_none}
use Rattle.std.proofs.lemmas.List.Quantifiers.{all_pairs_push}
use Rattle.gimli_bytes.specs.Relocations.{touches}
use Rattle.gimli_bytes.specs.Ascending.{AreAscending}
use Rattle.gimli_bytes.specs.inside.Ascending.{is_past}

-- what the two tests say
pub past_ends : (offset : ℕ) (r : Relocation) → is_past offset r ≡ true → r.offset + r.size ≤ offset
past_ends offset r h = by (nat_lt offset (r.offset + r.size)) refl h
  where
    by : (b : Bool) → nat_lt offset (r.offset + r.size) ≡ b → not b ≡ true → r.offset + r.size ≤ offset
    by true is h = absurd cc
    by false is h = ltb-false _ _ is

pub ends_past : (offset : ℕ) (r : Relocation) → r.offset + r.size ≤ offset → is_past offset r ≡ true
ends_past offset r h = ap not (le-ltb offset (r.offset + r.size) h)

pub not_past : (offset : ℕ) (r : Relocation) → is_past offset r ≡ false → offset < r.offset + r.size
not_past offset r h = by (nat_lt offset (r.offset + r.size)) refl h
  where
    by : (b : Bool) → nat_lt offset (r.offset + r.size) ≡ b → not b ≡ false → offset < r.offset + r.size
    by true is h = ltb-true _ _ is
    by false is h = absurd cc

-- places that are past an offset come first
pub past_first : (places : List Relocation) (offset : ℕ) → AreAscending places
    → IsPartitionedBy (is_past offset) places
past_first places offset ascending i j d le short h = by (nat_lt i j) refl
  where
    by : (b : Bool) → nat_lt i j ≡ b → is_past offset (get_or places i d) ≡ true
    by true before =
        let apart = ascending i j d (ltb-true i j before) short in
        ends_past offset (get_or places i d) (omega (arith, apart, past_ends offset (get_or places j d) h))
    by false after =
        let same : j ≡ i = omega (arith, le, ltb-false i j after) in
        ap (λ k. is_past offset (get_or places k d)) (sym same) ∙ h

-- a place that is past the offset isn't touched, nor one that begins at the end or after it
past_untouched : (offset size : ℕ) (r : Relocation) → r.offset + r.size ≤ offset → touches offset size r ≡ false
past_untouched offset size r h =
    ap (λ b. nat_lt r.offset (offset + size) && b) (le-ltb offset (r.offset + r.size) h)
    ∙ and_false (nat_lt r.offset (offset + size))
  where
    and_false : (b : Bool) → (b && false) ≡ false
    and_false true = refl
    and_false false = refl

later_untouched : (offset size : ℕ) (r : Relocation) → offset + size ≤ r.offset → touches offset size r ≡ false
later_untouched offset size r h =
    ap (λ b. b && nat_lt offset (r.offset + r.size)) (le-ltb r.offset (offset + size) h)

-- none is touched where all are past
pub none_touched : (places : List Relocation) (offset size n : ℕ)
    → IsPartitionPoint (λ r. is_past offset r ≡ true) (λ r. is_past offset r ≡ false) places n
    → length places ≤ n → list_any (touches offset size) places ≡ false
none_touched places offset size n point end =
    list_any_none (touches offset size) places (λ i d short.
    past_untouched offset size (get_or places i d)
    (past_ends offset (get_or places i d) (point.0 i d (omega arith) (omega (arith, short, end)))))

-- otherwise the first that isn't past says it
pub first_touched : (places : List Relocation) (offset size n : ℕ) (r : Relocation) → AreAscending places
    → IsPartitionPoint (λ r. is_past offset r ≡ true) (λ r. is_past offset r ≡ false) places n
    → n < length places → r ≡ get_or places n r
    → touches offset size r ≡ list_any (touches offset size) places
first_touched places offset size n r ascending point short is = by (nat_lt r.offset (offset + size)) refl
  where
    open_end : offset < r.offset + r.size
    open_end = not_past offset r (ap (is_past offset) is ∙ point.1 n r (omega arith) short)

    by : (b : Bool) → nat_lt r.offset (offset + size) ≡ b
        → touches offset size r ≡ list_any (touches offset size) places
    by true before =
        let touched : touches offset size r ≡ true = grind (arith, lt-ltb) in
        touched ∙ sym (list_any_at (touches offset size) places n r short (ap (touches offset size) (sym is) ∙ touched))
    by false after =
        let beyond : offset + size ≤ r.offset = ltb-false _ _ after in
        later_untouched offset size r beyond
        ∙ sym (list_any_none (touches offset size) places (λ i d inside.
        at i d inside (nat_lt i n) refl (nat_lt n i) refl))
      where
        at : (i : ℕ) (d : Relocation) → i < length places → (a : Bool) → nat_lt i n ≡ a → (b : Bool) → nat_lt n i ≡ b
            → touches offset size (get_or places i d) ≡ false
        at i d inside true earlier b any = past_untouched offset size (get_or places i d)
            (past_ends offset (get_or places i d) (point.0 i d (omega arith) (omega (arith, ltb-true i n earlier))))
        at i d inside false not_earlier true later =
            let here : get_or places n d ≡ r = get_or_default places n d r short ∙ sym is in
            let apart = rw here at (ascending n i d (ltb-true n i later) inside) in
            let beyond : offset + size ≤ r.offset = ltb-false r.offset (offset + size) after in
            later_untouched offset size (get_or places i d) (omega (arith, apart, beyond))
        at i d inside false not_earlier false not_later =
            let same : i ≡ n = omega (arith, ltb-false i n not_earlier, ltb-false n i not_later) in
            ap (touches offset size)
            (ap (λ k. get_or places k d) same ∙ get_or_default places n d r short ∙ sym is)
            ∙ later_untouched offset size r (ltb-false r.offset (offset + size) after)

-- one more, past all
pub ascending_more : (places : List Relocation) (r : Relocation) → AreAscending places
    → All (λ q. q.offset + q.size ≤ r.offset) places → AreAscending (places ++ r ∷ [])
ascending_more places r ascending past =
    all_pairs_push (λ q s. q.offset + q.size ≤ s.offset) places r ascending (λ k d short. past k d short)

-- where the last is past an offset, all are
pub all_past : (places : List Relocation) (offset n : ℕ) (r : Relocation) → AreAscending places
    → length places ≡ n + 1 → r ≡ get_or places n r → is_past offset r ≡ true
    → All (λ q. q.offset + q.size ≤ offset) places
all_past places offset n r ascending long is past i d short = by (nat_lt i n) refl
  where
    end : r.offset + r.size ≤ offset
    end = past_ends offset r past

    by : (b : Bool) → nat_lt i n ≡ b → (get_or places i d).offset + (get_or places i d).size ≤ offset
    by true before =
        let apart = ascending i n d (ltb-true i n before) (omega (arith, long)) in
        let last : get_or places n d ≡ r = get_or_default places n d r (omega (arith, long)) ∙ sym is in
        let at_last = rw last at apart in
        omega (arith, at_last, end)
    by false after =
        let same : i ≡ n = omega (arith, ltb-false i n after, short, long) in
        let it : get_or places i d ≡ r = ap (λ k. get_or places k d) same
        ∙ get_or_default places n d r (omega (arith, long)) ∙ sym is in
        rw it end
