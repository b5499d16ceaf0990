-- Paths that end with their last component as it is written.
use Rattle.std.proofs.Common.{◌≡◌, ◌∙◌, ◌-◌, ◌+◌, ◌<◌, ℕ, zero, suc, Bool, true, false, ◌&&◌, List, [], ◌∷◌, ◌++◌}
use Rattle.std.proofs.Common.{length, get_or, take, drop, nat_eq, refl}
use Rattle.std.proofs.Common.{sym, ap, subst, arith, if◌then◌else◌}
use Rattle.std.specs.List.{between, slice_split}
use Rattle.std.proofs.lemmas.List.Elements.{All-nil}
use Rattle.std.proofs.lemmas.List.{take-append-drop, get_or-drop, length-drop, length-append, drop_all, drop_at}
use Rattle.std.proofs.lemmas.Slice.{between_to_end}
use Rattle.gimli_lookup.specs.Paths.{is_separator}
use Rattle.gimli_lookup.specs.Components.{start_of, resolved, up, with_component}
use Rattle.gimli_index.specs.inside.Components.{EndsAsWritten}
use Rattle.gimli_index.proofs.LastComponents.{HaveNoSeparator, parted, whole_text, one_byte_more}

and_false : (b : Bool) → (b && false) ≡ false
and_false true = refl
and_false false = refl

-- what neither test holds of stays
stays : (a b : Bool) (before other : List (List ℕ)) (c : List ℕ) → a ≡ false → b ≡ false
    → (if a then before else if b then other else c ∷ before) ≡ c ∷ before
stays a b before other c first second =
    ap (λ v. if v then before else if b then other else c ∷ before) first
    ∙ ap (λ v. if v then other else c ∷ before) second

-- a written component that ends with another byte than `.` is neither `.` nor `..`
written : (c : List ℕ) → 0 < length c → nat_eq (get_or c (length c - 1) 0) 46 ≡ false → (before : List (List ℕ))
    → with_component before c ≡ c ∷ before
written [] some last before = absurd (omega (arith, some))
written (x ∷ []) some last before =
    stays _ _ before (up before) (x ∷ []) (ap (λ b. b && true) last) (and_false (nat_eq x 46))
written (x ∷ y ∷ []) some last before =
    stays _ _ before (up before) (x ∷ y ∷ []) (and_false (nat_eq x 46))
    (ap (λ b. nat_eq x 46 && (b && true)) last ∙ and_false (nat_eq x 46))
written (x ∷ y ∷ z ∷ c) some last before =
    stays _ _ before (up before) (x ∷ y ∷ z ∷ c) (and_false (nat_eq x 46))
    (ap (λ b. nat_eq x 46 && b) (and_false (nat_eq y 46)) ∙ and_false (nat_eq x 46))

-- a last written component, and what comes before it
record LastPart (text : List ℕ) : Type 0 where
  first : ℕ
  within : first < length text
  last : (before : List (List ℕ)) → resolved before (slice_split is_separator text)
      ≡ with_component (resolved before (slice_split is_separator (take (first - 1) text))) (drop first text)

-- it begins after the last separator
last_part : (text : List ℕ) (first : ℕ) → first < length text → HaveNoSeparator (drop first text) → LastPart text
last_part text zero within clean = record { first = 0; within = within; last = whole_text text clean }
last_part text (suc n) within clean =
    by_test (is_separator (get_or text (suc n - 1) 0)) refl (λ more. last_part text n (omega (arith, within)) more)
  where
    by_test : (b : Bool) → is_separator (get_or text (suc n - 1) 0) ≡ b
        → (HaveNoSeparator (drop n text) → LastPart text) → LastPart text
    by_test true here before =
        record {
          first = suc n;
          within = within;
          last = parted text (suc n) (omega arith) (omega (arith, within)) here clean;
        }
    by_test false here before =
        let same : suc n - 1 ≡ n = omega arith in
        before (subst (λ (m : ℕ). HaveNoSeparator (drop m text)) same
        (one_byte_more text (suc n) (omega arith) (omega (arith, within)) here clean))

-- a path whose last byte is neither a separator nor `.`
pub ends_as_written : (path : List ℕ) → 0 < length path → is_separator (get_or path (length path - 1) 0) ≡ false
    → nat_eq (get_or path (length path - 1) 0) 46 ≡ false → EndsAsWritten path
ends_as_written path some apart dot =
    let none : HaveNoSeparator (drop (length path) path) =
    subst HaveNoSeparator (sym (drop_all (length path) path (omega arith))) (All-nil (λ b. is_separator b ≡ false)) in
    let part =
    last_part path (length path - 1) (omega (arith, some))
    (one_byte_more path (length path) some (omega arith) apart none) in
    let own = drop part.first path in
    let long : length own ≡ length path - part.first = length-drop part.first path in
    let at : part.first + (length own - 1) ≡ length path - 1 = omega (arith, long, part.within) in
    let same : get_or own (length own - 1) 0 ≡ get_or path (length path - 1) 0 =
    get_or-drop part.first path (length own - 1) 0 ∙ ap (λ (i : ℕ). get_or path i 0) at in
    let before = resolved (start_of path) (slice_split is_separator (take (part.first - 1) path)) in
    record {
      name = own;
      front = take part.first path;
      is_last = (
        before,
        part.last (start_of path)
            ∙ written own (omega (arith, long, part.within)) (ap (λ b. nat_eq b 46) same ∙ dot) before,
      );
      parts = sym (take-append-drop part.first path);
    }

-- the last bytes of a path that is a front and then an end
pub last_bytes : (path front end : List ℕ) → path ≡ front ++ end
    → between (length path - length end) (length path) path ≡ end
last_bytes path front end is =
    let first = length path - length end in
    let long : length path ≡ length front + length end = ap (λ (xs : List ℕ). length xs) is ∙ length-append front end in
    between_to_end path first (length path) (omega arith) ∙ ap (drop first) is
    ∙ drop_at front end first (omega (arith, long))
