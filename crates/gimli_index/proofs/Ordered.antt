-- The order of the statements, and the statements of a line in it.
use Rattle.std.proofs.Common.{◌≡◌, ◌≢◌, ◌∙◌, ◌<◌, ◌≤◌, ◌+◌, ◌-◌, ◌*◌, ◌^◌, ℕ, zero, suc, min, Bool, true, false, cond}
use Rattle.std.proofs.Common.{nat_eq, nat_lt, ◌&&◌, List, [], ◌∷◌, length, take, drop, Some, None, Ok, Err, Result}
use Rattle.std.proofs.Common.{refl}
use Rattle.std.proofs.Common.{sym, ap, subst, arith, inl, inr, get_or, pow-suc}
use Rattle.std.specs.Prelude.{All}
use Rattle.std.specs.List.{list_any}
use Rattle.std.specs.Str.{bytes_eq}
use Rattle.std.proofs.Math.Nat.{le_refl, le_trans, le-min, min-eq_left, min-le_left, min-le_right}
use Rattle.std.proofs.lemmas.Bool.{cases_lt, cases_order, eq-eqb, eqb-true, false≢true, ltb-true}
use Rattle.std.proofs.lemmas.List.{get_or_default}
use Rattle.std.proofs.lemmas.List.Elements.{All-drop}
use Rattle.std.proofs.lemmas.List.Folds.{list_any_at, list_any_none}
use Rattle.std.proofs.lemmas.List.FromFn.{get_or-map-range_with_len, length-map-range_with_len}
use Rattle.std.proofs.lemmas.List.Sorted.{IsNonDecreasingBy-from_default}
use Rattle.std.proofs.lemmas.Slice.Eq.{bytes_eq-Decides}
use Rattle.gimli_core.specs.Numbers.{le_value}
use Rattle.gimli_lookup.specs.Components.{components}
use Rattle.gimli_lookup.specs.inside.Statements.{IsFirstWith}
use Rattle.gimli_index.specs.Header.{highest_base, size_of, statement_size}
use Rattle.gimli_index.specs.Lines.{addresses_of, begins_with, is_named, is_of, without_repeats}
use Rattle.gimli_index.specs.Meaning.{Statement, path_of, source_at, statement_at, statement_from, statements_of}
use Rattle.gimli_index.specs.Header.{number_at}
use Rattle.gimli_index.specs.Order.{key_of, last_number, name_at, path_number, rank_of, IsOrdered}
use Rattle.gimli_index.specs.Parts.{Index}
use Rattle.gimli_index.specs.declared.header.StartSize.{StartSize}
use Rattle.gimli_index.specs.declared.header.StartSize.TheVariants.{Eight, Four}
use Rattle.gimli_index.specs.declared.place.NoPath.{NoPath}
use Rattle.gimli_index.specs.declared.place.NoPath.TheVariants.{Outside}
use Rattle.gimli_index.specs.inside.Order.{key_at, rank_at, statement_name, AreNamesRight, IsFirstPlace, RanksRise}
use Rattle.gimli_index.proofs.LineStatements.{all_picked, picked}

-- ---- keys

-- keys rise with lines
key_le : (name a b : ℕ) → a ≤ b → key_of name a ≤ key_of name b
key_le name a b le =
    let low : min a 0xffff_ffff ≤ b = omega (arith, min-le_left a 0xffff_ffff, le) in
    omega (arith, le-min low (min-le_right a 0xffff_ffff))

key_less : (name a b : ℕ) → a < b → b < 0x1_0000_0000 → key_of name a < key_of name b
key_less name a b less few =
    let first : min a 0xffff_ffff ≡ a = min-eq_left (omega arith) in
    let second : min b 0xffff_ffff ≡ b = min-eq_left (omega arith) in
    omega (arith, first, second, less)

-- a higher name has a higher key
name_less : (name other a b : ℕ) → name ≢ other → key_of name a ≤ key_of other b → (c : ℕ)
    → key_of name c < key_of other b
name_less name other a b differ le c = elim (cases_order name other) [
  | inl same ↦ absurd (differ same)
  | inr (inl less) ↦ omega (arith, less, min-le_right c 0xffff_ffff)
  | inr (inr more) ↦ absurd (omega (arith, more, le, min-le_right b 0xffff_ffff))
]

-- ---- ranks by the numbers in the bytes

module _ (index : Index) where
  -- the number of a name is that of the path's
  name_is : AreNamesRight index index.sources → (k : ℕ)
      → statement_name index k ≡ path_number (statement_at index k).path
  name_is names k = by_test (nat_lt source index.sources) refl
    where
      source : ℕ
      source = number_at 4 0 (statement_from index k)

      by_test : (b : Bool) → nat_lt source index.sources ≡ b
          → cond b (name_at index source) 0
          ≡ path_number (cond b (path_of index.path_bytes (source_at index source)) (Err Outside))
      by_test true is = names source (ltb-true source index.sources is)
      by_test false is = refl

  rank_is : AreNamesRight index index.sources → (k : ℕ) → rank_at index k ≡ rank_of (statement_at index k)
  rank_is names k =
      ap (λ n. key_of n (statement_at index k).line * 2 ^ 64 + (statement_at index k).address) (name_is names k)

  count : length (statements_of index) ≡ index.statements
  count = length-map-range_with_len (statement_at index) 0 index.statements

  got : (k : ℕ) (d : Statement) → k < index.statements → get_or (statements_of index) k d ≡ statement_at index k
  got k d within = get_or-map-range_with_len (statement_at index) 0 index.statements k k d within (omega arith)

  -- the statements are in order where their ranks don't go down
  pub ordered_from : AreNamesRight index index.sources → RanksRise index index.statements → IsOrdered index
  ordered_from names rise = record {
    names = names;
    statements = IsNonDecreasingBy-from_default rank_of (statements_of index) (statement_at index 0) (λ i j le lt.
        let inside : j < index.statements = omega (arith, lt, count) in
        let before : i < index.statements = omega arith in
        let first : rank_of (get_or (statements_of index) i (statement_at index 0)) ≡ rank_at index i =
        ap rank_of (got i (statement_at index 0) before) ∙ sym (rank_is names i) in
        let second : rank_of (get_or (statements_of index) j (statement_at index 0)) ≡ rank_at index j =
        ap rank_of (got j (statement_at index 0) inside) ∙ sym (rank_is names j) in
        subst (λ n. n ≤ rank_of (get_or (statements_of index) j (statement_at index 0))) (sym first)
        (subst (λ n. rank_at index i ≤ n) (sym second) (risen i j le inside)));
  }
    where
      risen : (i j : ℕ) → i ≤ j → j < index.statements → rank_at index i ≤ rank_at index j
      risen i j le inside = elim (cases_lt i j) [
        | inl less ↦ rise i j less inside
        | inr same ↦
            let here : i ≡ j = omega arith in
            subst (λ n. rank_at index i ≤ rank_at index n) here (le_refl (rank_at index i))
      ]

  pub ranks_rise : IsOrdered index → RanksRise index index.statements
  ranks_rise ordered j k less inside =
      let first : rank_of (get_or (statements_of index) j (statement_at index 0)) ≡ rank_at index j =
      ap rank_of (got j (statement_at index 0) (omega arith)) ∙ sym (rank_is ordered.names j) in
      let second : rank_of (get_or (statements_of index) k (statement_at index 0)) ≡ rank_at index k =
      ap rank_of (got k (statement_at index 0) inside) ∙ sym (rank_is ordered.names k) in
      subst (λ n. n ≤ rank_at index k) first
      (subst (λ n. rank_of (get_or (statements_of index) j (statement_at index 0)) ≤ n) second
      (ordered.statements j k (statement_at index 0) (omega arith) (omega (arith, inside, count))))

-- of two ranks that don't go down, the keys don't
key_of_rank : (key other a b : ℕ) → b < 0x1_0000_0000_0000_0000
    → key * 0x1_0000_0000_0000_0000 + a ≤ other * 0x1_0000_0000_0000_0000 + b → key ≤ other
key_of_rank key other a b few le = omega arith

address_of_rank : (key other a b : ℕ) → key ≡ other
    → key * 0x1_0000_0000_0000_0000 + a ≤ other * 0x1_0000_0000_0000_0000 + b → a ≤ b
address_of_rank key other a b same le = omega arith

-- ---- addresses have 64 bits

some_power : (n : ℕ) → 0 < 256 ^ n
some_power zero = omega arith
some_power (suc n) = omega (arith, pow-suc 256 n, some_power n)

few_value : (size : ℕ) (bytes : List ℕ) → All (λ b. b < 256) bytes → le_value (take size bytes) < 256 ^ size
few_value zero [] all = omega arith
few_value zero (b ∷ bytes) all = omega arith
few_value (suc size) [] all = some_power (suc size)
few_value (suc size) (b ∷ bytes) all =
    let more : 256 ^ suc size ≡ 256 ^ size * 256 = pow-suc 256 size in
    let rest : le_value (take size bytes) < 256 ^ size =
    few_value size bytes (λ k d lt. all (suc k) d (omega arith)) in
    let first : b < 256 = all 0 0 (omega arith) in
    omega (arith, more, rest, first)

few_from : (start_size : StartSize) (base : ℕ) (bytes : List ℕ) → base ≤ highest_base start_size
    → All (λ b. b < 256) bytes → base + number_at (size_of start_size) 8 bytes < 2 ^ 64
few_from Four base bytes low all = omega (arith, low, few_value 4 (drop 8 bytes) (All-drop (λ b. b < 256) 8 bytes all))
few_from Eight base bytes low all = omega (arith, low, few_value 8 (drop 8 bytes) (All-drop (λ b. b < 256) 8 bytes all))

abbrev pub AreFew : Index → Type 0
AreFew index = (k : ℕ) → (statement_at index k).address < 2 ^ 64

pub are_few : (index : Index) → index.base ≤ highest_base index.start_size
    → ((i : ℕ) → get_or index.statement_bytes i 0 < 256) → AreFew index
are_few index low fit k =
    few_from index.start_size index.base (statement_from index k) low
    (All-drop (λ b. b < 256) (statement_size index.start_size * k) index.statement_bytes (λ i d lt.
    subst (λ b. b < 256) (get_or_default index.statement_bytes i 0 d lt) (fit i)))

pub keys_rise : (index : Index) → AreFew index → IsOrdered index → (j k : ℕ) → j ≤ k → k < index.statements
    → key_at index j ≤ key_at index k
keys_rise index few ordered j k le inside = elim (cases_lt j k) [
  | inl less ↦
      key_of_rank (key_at index j) (key_at index k) (statement_at index j).address (statement_at index k).address
      (few k)
      (ranks_rise index ordered j k less inside)
  | inr same ↦
      let here : j ≡ k = omega arith in subst (λ n. key_at index j ≤ key_at index n) here (le_refl (key_at index j))
]

-- ---- the key of a line

and_left : (a b : Bool) → (a && b) ≡ true → a ≡ true
and_left true b is = refl
and_left false b is = absurd (false≢true is)

and_right : (a b : Bool) → (a && b) ≡ true → b ≡ true
and_right true b is = is
and_right false b is = absurd (false≢true is)

not_true : (b : Bool) → (b ≡ true → ⊥) → b ≡ false
not_true true never = absurd (never refl)
not_true false never = refl

-- a file that a path names has the number of its name
named_number : (path : List ℕ) (own : Result (List ℕ) NoPath) → is_named path own ≡ true
    → path_number own ≡ last_number (components path)
named_number path (Err e) is = absurd (false≢true is)
named_number path (Ok own) is = by_components (components own) (components path) is
  where
    by_components : (xs ys : List (List ℕ)) → begins_with xs ys ≡ true → last_number xs ≡ last_number ys
    by_components xs [] is = absurd (false≢true is)
    by_components [] (y ∷ ys) is = absurd (false≢true is)
    by_components (x ∷ xs) (y ∷ ys) is =
        let same : x ≡ y = sym ((bytes_eq-Decides y x).0 (and_left (bytes_eq y x) _ is)) in
        ap (λ (name : List ℕ). last_number (name ∷ [])) same

module _ (path : List ℕ) (index : Index) (ordered : IsOrdered index) where
  abbrev name : ℕ
  name = last_number (components path)

  abbrev of : ℕ → ℕ → Bool
  of line k = is_of path line (statement_at index k)

  abbrev has : ℕ → Bool
  has line = list_any (is_of path line) (statements_of index)

  -- a statement of a line has its key
  key_is : (line k : ℕ) → of line k ≡ true → key_at index k ≡ key_of name line
  key_is line k is =
      let s = statement_at index k in
      let named : is_named path s.path ≡ true = and_left (is_named path s.path) (nat_eq s.line line) is in
      let lined : s.line ≡ line = eqb-true s.line line (and_right (is_named path s.path) (nat_eq s.line line) is) in
      ap (λ n. key_of n s.line) (name_is index ordered.names k ∙ named_number path s.path named)
      ∙ ap (key_of name) lined

  one_has : (line k : ℕ) → k < index.statements → of line k ≡ true → has line ≡ true
  one_has line k within is =
      list_any_at (is_of path line) (statements_of index) k (statement_at index 0) (omega (arith, within, count index))
      (ap (is_of path line) (got index k (statement_at index 0) within) ∙ is)

  none_has : (line : ℕ) → ((k : ℕ) → k < index.statements → of line k ≡ false) → has line ≡ false
  none_has line none =
      list_any_none (is_of path line) (statements_of index) (λ k d lt.
      let within : k < index.statements = omega (arith, lt, count index) in
      ap (is_of path line) (got index k d within) ∙ none k within)

  -- the addresses of a line are those from its first statement on, up to the first higher key
  pub addresses_are : (line place end : ℕ) → end ≤ index.statements → IsFirstPlace index path line place
      → ((k : ℕ) → end ≤ k → k < index.statements → key_of name line + 1 ≤ key_at index k)
      → without_repeats None (picked path line (statement_at index) place (end - place))
      ≡ addresses_of path (statements_of index) line
  addresses_are line place end within first high =
      all_picked path line (statement_at index) index.statements place end order within first.before
      (λ q le lt. not_true (of line q) (λ is. omega (arith, high q le lt, key_is line q is)))
      (λ q r less lt is also.
      address_of_rank (key_at index q) (key_at index r) (statement_at index q).address (statement_at index r).address
      (key_is line q is ∙ sym (key_is line r also))
      (ranks_rise index ordered q r less lt))
    where
      order : place ≤ end
      order = elim (cases_lt place end) [
        | inl before ↦ omega arith
        | inr past ↦ absurd (omega (arith, high place past first.within, key_is line place first.is))
      ]

  -- no statement of a line that is asked for stands before the first key of it
  pub none_before : (asked first : ℕ) → ((k : ℕ) → k < first → key_at index k < key_of name asked)
      → (k m : ℕ) → k < first → asked ≤ m → of m k ≡ false
  none_before asked first low k m less from =
      not_true (of m k) (λ is. omega (arith, low k less, key_is m k is, key_le name asked m from))

  module _ (few : AreFew index) (asked place : ℕ) (before : (k m : ℕ) → k < place → asked ≤ m → of m k ≡ false) where
    -- no line is found where no more statements are
    pub no_line_left : index.statements ≤ place → IsFirstWith has asked None
    no_line_left past = λ l from. none_has l (λ k within. before k l (omega arith) from)

    -- no statement of a line is there before a place, nor from it on
    no_line_there : (line : ℕ) → asked ≤ line
        → ((k : ℕ) → place ≤ k → k < index.statements → key_at index k ≢ key_of name line)
        → has line ≡ false
    no_line_there line from later = none_has line (λ k within. elim (cases_lt k place) [
      | inl less ↦ before k line less from
      | inr le ↦ not_true (of line k) (λ is. later k le within (key_is line k is))
    ])

    module _ (within : place < index.statements) where
      -- none where the names end
      pub none_of_name : statement_name index place ≢ name → key_of name asked ≤ key_at index place
          → IsFirstWith has asked None
      none_of_name differs low = λ l from. no_line_there l from (λ k le lt same.
          let rise : key_at index place ≤ key_at index k = keys_rise index few ordered place k le lt in
          let above : key_of name l < key_at index place =
          name_less name (statement_name index place) asked (statement_at index place).line (λ e. differs (sym e)) low
          l in
          omega (arith, above, rise, same))

      -- one statement more
      pub one_more : ((m : ℕ) → asked ≤ m → of m place ≡ false) → (k m : ℕ) → k < place + 1 → asked ≤ m → of m k ≡ false
      one_more none k m less from = elim (cases_lt k place) [
        | inl lower ↦ before k m lower from
        | inr here ↦ let same : k ≡ place = omega arith in ap (of m) same ∙ none m from
      ]

      module _ (line : ℕ) (from : asked ≤ line) (few_lines : line < 0x1_0000_0000) (is : of line place ≡ true) where
        -- the line that is found
        pub found_line : IsFirstWith has asked (Some line)
        found_line = (
          from,
          one_has line place within is,
          λ l above below. no_line_there l above (λ k le lt same.
              omega (
                arith,
                key_less name l line below few_lines,
                keys_rise index few ordered place k le lt,
                key_is line place is,
                same,
              )),
        )

        pub found_place : IsFirstPlace index path line place
        found_place = record { within = within; is = is; before = λ k less. before k line less from }

-- ---- the ranks of an index, one after the other

pub one_rank_more : (index : Index) (number : ℕ) → 0 < number → RanksRise index number
    → rank_at index (number - 1) ≤ rank_at index number → RanksRise index (number + 1)
one_rank_more index number some rise risen j k less inside = elim (cases_lt k number) [
  | inl before ↦ rise j k less before
  | inr last ↦
      let same : number ≡ k = omega arith in
      subst (λ n. rank_at index j ≤ rank_at index n) same (elim (cases_lt j (number - 1)) [
        | inl lower ↦ le_trans (rise j (number - 1) lower (omega arith)) risen
        | inr beside ↦
            let here : number - 1 ≡ j = omega arith in
            subst (λ n. rank_at index n ≤ rank_at index number) here risen
      ])
]

-- ---- whether a statement is of a line

pub of_lower_line : (path : List ℕ) (s : Statement) (asked : ℕ) → s.line < asked → (l : ℕ) → asked ≤ l
    → is_of path l s ≡ false
of_lower_line path s asked less l from =
    not_true (is_of path l s) (λ is.
    let lined : s.line ≡ l = eqb-true s.line l (and_right (is_named path s.path) (nat_eq s.line l) is) in
    omega (arith, lined, less, from))

pub of_other_file : (path : List ℕ) (s : Statement) (l : ℕ) → is_named path s.path ≡ false → is_of path l s ≡ false
of_other_file path s l other = ap (λ b. b && nat_eq s.line l) other

pub of_this : (path : List ℕ) (s : Statement) (l : ℕ) → is_named path s.path ≡ true → s.line ≡ l
    → is_of path l s ≡ true
of_this path s l named lined = ap (λ b. b && nat_eq s.line l) named ∙ eq-eqb s.line l lined
