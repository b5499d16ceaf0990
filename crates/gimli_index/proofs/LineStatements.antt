-- The addresses of a line among statements whose numbers follow one another.
use Rattle.std.proofs.Common.{◌≡◌, ◌≢◌, ◌∙◌, ◌≤◌, ◌<◌, ◌+◌, ◌-◌, ℕ, zero, suc, Bool, true, false, cond, nat_eq, ◌||◌}
use Rattle.std.proofs.Common.{List, [], ◌∷◌, length, map, Option, Some, None, refl, sym, ap, subst, arith}
use Rattle.std.specs.List.{filter, list_any, range_with_len}
use Rattle.std.specs.Option.{option_map_or}
use Rattle.std.proofs.lemmas.Bool.{false≢true}
use Rattle.gimli_lookup.specs.Statements.{ascending_once, HasNoLine, IsFirstLine}
use Rattle.gimli_lookup.specs.inside.Statements.{IsFirstWith}
use Rattle.gimli_lookup.proofs.AscendingOnce.{ascending_once_some}
use Rattle.gimli_index.specs.Lines.{addresses_in, addresses_of, is_of, without_repeats}
use Rattle.gimli_index.specs.Meaning.{Statement, statement_at}
use Rattle.gimli_index.specs.Views.{index_of}
use Rattle.gimli_index.specs.declared.addresses.Addresses.{Addresses}
use Rattle.gimli_index.specs.inside.Order.{left_from}
use Rattle.gimli_index.proofs.Once.{Climbs, IsLow, once_climbing}

module _ (path : List ℕ) (line : ℕ) (f : ℕ → Statement) where
  abbrev pub picked : ℕ → ℕ → List ℕ
  picked first n = addresses_in path line (map f (range_with_len first n))

  abbrev rest : ℕ → ℕ → List Statement
  rest first n = filter (is_of path line) (map f (range_with_len (first + 1) n))

  abbrev pick : ℕ → ℕ → Bool → List ℕ
  pick first n b = map (λ (s : Statement). s.address) (cond b (f first ∷ rest first n) (rest first n))

  pub one_picked : (first n : ℕ) → is_of path line (f first) ≡ true
      → picked first (suc n) ≡ (f first).address ∷ picked (first + 1) n
  one_picked first n is = ap (pick first n) is

  pub none_picked : (first n : ℕ) → is_of path line (f first) ≡ false → picked first (suc n) ≡ picked (first + 1) n
  none_picked first n is = ap (pick first n) is

  nothing_picked : (n first : ℕ) → ((q : ℕ) → first ≤ q → q < first + n → is_of path line (f q) ≡ false)
      → picked first n ≡ []
  nothing_picked zero first none = refl
  nothing_picked (suc n) first none =
      none_picked first n (none first (omega arith) (omega arith))
      ∙ nothing_picked n (first + 1) (λ q le lt. none q (omega arith) (omega arith))

  low_picked : (a n first : ℕ)
      → ((q : ℕ) → first ≤ q → q < first + n → is_of path line (f q) ≡ true → a ≤ (f q).address)
      → IsLow a (picked first n)
  low_picked a zero first low = tt
  low_picked a (suc n) first low =
      by_test (is_of path line (f first)) refl (low_picked a n (first + 1) (λ q le lt is.
      low q (omega arith) (omega arith) is))
    where
      by_test : (b : Bool) → is_of path line (f first) ≡ b → IsLow a (picked (first + 1) n)
          → IsLow a (picked first (suc n))
      by_test true is later =
          subst (IsLow a) (sym (one_picked first n is)) (low first (omega arith) (omega arith) is)
      by_test false is later = subst (IsLow a) (sym (none_picked first n is)) later

  -- the addresses of a line don't go down where the statements don't
  pub climbs_picked : (n first : ℕ)
      → ((q r : ℕ) → first ≤ q → q < r → r < first + n → is_of path line (f q) ≡ true → is_of path line (f r) ≡ true
      → (f q).address ≤ (f r).address)
      → Climbs (picked first n)
  climbs_picked zero first rise = tt
  climbs_picked (suc n) first rise =
      by_test (is_of path line (f first)) refl (climbs_picked n (first + 1) (λ q r le less lt is also.
      rise q r (omega arith) less (omega arith) is also))
    where
      by_test : (b : Bool) → is_of path line (f first) ≡ b → Climbs (picked (first + 1) n)
          → Climbs (picked first (suc n))
      by_test true is later =
          subst Climbs (sym (one_picked first n is)) (
            low_picked (f first).address n (first + 1)
                (λ q le lt also. rise first q (omega arith) (omega arith) (omega arith) is also),
            later,
          )
      by_test false is later = subst Climbs (sym (none_picked first n is)) later

  skip_before : (m n first : ℕ) → ((q : ℕ) → first ≤ q → q < first + m → is_of path line (f q) ≡ false)
      → picked first (m + n) ≡ picked (first + m) n
  skip_before zero n first none =
      let count : zero + n ≡ n = omega arith in
      let here : first ≡ first + zero = omega arith in
      ap (picked first) count ∙ ap (λ k. picked k n) here
  skip_before (suc m) n first none =
      let count : suc m + n ≡ suc (m + n) = omega arith in
      let here : first + 1 + m ≡ first + suc m = omega arith in
      ap (picked first) count ∙ none_picked first (m + n) (none first (omega arith) (omega arith))
      ∙ skip_before m n (first + 1) (λ q le lt. none q (omega arith) (omega arith))
      ∙ ap (λ k. picked k n) here

  skip_after : (m n first : ℕ) → ((q : ℕ) → first + m ≤ q → q < first + m + n → is_of path line (f q) ≡ false)
      → picked first (m + n) ≡ picked first m
  skip_after zero n first none =
      let count : zero + n ≡ n = omega arith in
      ap (picked first) count ∙ nothing_picked n first (λ q le lt. none q (omega arith) (omega arith))
  skip_after (suc m) n first none =
      let count : suc m + n ≡ suc (m + n) = omega arith in
      ap (picked first) count
      ∙ by_test (is_of path line (f first)) refl
      (skip_after m n (first + 1) (λ q le lt. none q (omega arith) (omega arith)))
    where
      by_test : (b : Bool) → is_of path line (f first) ≡ b → picked (first + 1) (m + n) ≡ picked (first + 1) m
          → picked first (suc (m + n)) ≡ picked first (suc m)
      by_test true is later =
          one_picked first (m + n) is ∙ ap (λ others. (f first).address ∷ others) later ∙ sym (one_picked first m is)
      by_test false is later = none_picked first (m + n) is ∙ later ∙ sym (none_picked first m is)

  -- a part of the statements has all addresses of a line where no other statement is of it
  part_picked : (all next end : ℕ) → next ≤ end → end ≤ all
      → ((q : ℕ) → q < next → is_of path line (f q) ≡ false)
      → ((q : ℕ) → end ≤ q → q < all → is_of path line (f q) ≡ false) → picked 0 all ≡ picked next (end - next)
  part_picked all next end order within before after =
      let whole : all ≡ next + ((end - next) + (all - end)) = omega arith in
      let here : 0 + next ≡ next = omega arith in
      ap (picked 0) whole
      ∙ skip_before next ((end - next) + (all - end)) 0 (λ q le lt. before q (omega arith))
      ∙ ap (λ k. picked k ((end - next) + (all - end))) here
      ∙ skip_after (end - next) (all - end) next (λ q le lt. after q (omega arith) (omega arith))

  -- and has them in ascending order, each once, where they don't go down there
  pub all_picked : (all next end : ℕ) → next ≤ end → end ≤ all
      → ((q : ℕ) → q < next → is_of path line (f q) ≡ false)
      → ((q : ℕ) → end ≤ q → q < all → is_of path line (f q) ≡ false)
      → ((q r : ℕ) → q < r → r < all → is_of path line (f q) ≡ true → is_of path line (f r) ≡ true
      → (f q).address ≤ (f r).address)
      → without_repeats None (picked next (end - next)) ≡ ascending_once (picked 0 all)
  all_picked all next end order within before after rise =
      once_climbing (picked next (end - next))
      (climbs_picked (end - next) next (λ q r le less lt is also. rise q r less (omega arith) is also))
      ∙ ap ascending_once (sym (part_picked all next end order within before after))

  -- no more of them than statements
  pub few_picked : (n first : ℕ) (last : Option ℕ) → length (without_repeats last (picked first n)) ≤ n
  few_picked zero first last = omega arith
  few_picked (suc n) first last =
      by_test (is_of path line (f first)) refl (few_picked n (first + 1))
    where
      one : (b : Bool) → ((o : Option ℕ) → length (without_repeats o (picked (first + 1) n)) ≤ n)
          → length (cond b (without_repeats last (picked (first + 1) n))
          ((f first).address ∷ without_repeats (Some (f first).address) (picked (first + 1) n))) ≤ suc n
      one true later = omega (arith, later last)
      one false later = omega (arith, later (Some (f first).address))

      by_test : (b : Bool) → is_of path line (f first) ≡ b
          → ((o : Option ℕ) → length (without_repeats o (picked (first + 1) n)) ≤ n)
          → length (without_repeats last (picked first (suc n))) ≤ suc n
      by_test true is later =
          subst (λ all. length (without_repeats last all) ≤ suc n) (sym (one_picked first n is))
          (one (option_map_or (nat_eq (f first).address) last false) later)
      by_test false is later =
          subst (λ all. length (without_repeats last all) ≤ suc n) (sym (none_picked first n is))
          (omega (arith, later last))

-- ---- an answer, from a statement on

module _ (found : Addresses) (number : ℕ) (within : number < found.end) where
  abbrev its : ℕ → Statement
  its = statement_at (index_of found.index)

  abbrev after : List ℕ
  after = picked found.path.now found.line its (number + 1) (found.end - (number + 1))

  one_less : found.end - number ≡ suc (found.end - (number + 1))
  one_less = omega (arith, within)

  here : left_from found number
      ≡ without_repeats found.last (picked found.path.now found.line its number (suc (found.end - (number + 1))))
  here = ap (λ n. without_repeats found.last (picked found.path.now found.line its number n)) one_less

  pub left_of_other : is_of found.path.now found.line (its number) ≡ false
      → left_from found number ≡ left_from found (number + 1)
  left_of_other is =
      here ∙ ap (without_repeats found.last) (none_picked found.path.now found.line its number _ is)

  its_own : is_of found.path.now found.line (its number) ≡ true
      → left_from found number ≡ without_repeats found.last ((its number).address ∷ after)
  its_own is = here ∙ ap (without_repeats found.last) (one_picked found.path.now found.line its number _ is)

  abbrev either : Bool → List ℕ
  either b = cond b (without_repeats found.last after)
      ((its number).address ∷ without_repeats (Some (its number).address) after)

  pub left_of_same : is_of found.path.now found.line (its number) ≡ true
      → option_map_or (nat_eq (its number).address) found.last false ≡ true
      → left_from found number ≡ left_from found (number + 1)
  left_of_same is again = its_own is ∙ ap either again

  pub left_of_new : is_of found.path.now found.line (its number) ≡ true
      → option_map_or (nat_eq (its number).address) found.last false ≡ false
      → left_from found number
      ≡ (its number).address ∷ left_from (record found { last = Some (its number).address }) (number + 1)
  left_of_new is again = its_own is ∙ ap either again

pub none_left : (found : Addresses) (number : ℕ) → found.end ≤ number → left_from found number ≡ []
none_left found number past =
    let none : found.end - number ≡ 0 = omega (arith, past) in
    ap
    (λ n. without_repeats found.last
    (picked found.path.now found.line (statement_at (index_of found.index)) number n))
    none

-- ---- the lines of statements

module _ (p : Statement → Bool) where
  abbrev addresses : List Statement → List ℕ
  addresses statements = map (λ (s : Statement). s.address) (filter p statements)

  none_in : (statements : List Statement) → list_any p statements ≡ false → addresses statements ≡ []
  none_in [] none = refl
  none_in (s ∷ statements) none = by_test (p s) none (none_in statements)
    where
      by_test : (b : Bool) → (b || list_any p statements) ≡ false
          → (list_any p statements ≡ false → addresses statements ≡ [])
          → map (λ (s : Statement). s.address) (cond b (s ∷ filter p statements) (filter p statements)) ≡ []
      by_test true none later = absurd (false≢true (sym none))
      by_test false none later = later none

  some_in : (statements : List Statement) → list_any p statements ≡ true → addresses statements ≢ []
  some_in [] some = absurd (false≢true some)
  some_in (s ∷ statements) some = by_test (p s) some (some_in statements)
    where
      by_test : (b : Bool) → (b || list_any p statements) ≡ true
          → (list_any p statements ≡ true → addresses statements ≢ [])
          → map (λ (s : Statement). s.address) (cond b (s ∷ filter p statements) (filter p statements)) ≢ []
      by_test true some later = λ none. cc
      by_test false some later = later some

-- no line with a statement is no line with an address
pub no_line_in : (path : List ℕ) (statements : List Statement) (asked : ℕ)
    → IsFirstWith (λ l. list_any (is_of path l) statements) asked None
    → HasNoLine (addresses_of path statements) asked
no_line_in path statements asked none =
    λ l from. ap ascending_once (none_in (is_of path l) statements (none l from))

-- and the first line with one is the first line with an address
pub first_line_in : (path : List ℕ) (statements : List Statement) (asked line : ℕ)
    → IsFirstWith (λ l. list_any (is_of path l) statements) asked (Some line)
    → IsFirstLine (addresses_of path statements) asked line
first_line_in path statements asked line is = record {
  from = is.0;
  some = ascending_once_some (addresses_in path line statements) (some_in (is_of path line) statements is.1);
  none_before = λ l above below. ap ascending_once (none_in (is_of path l) statements (is.2 l above below));
}
