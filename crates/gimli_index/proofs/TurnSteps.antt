-- Sequences that are taken in, row by row.
use Rattle.std.proofs.Common.{◌≡◌, ◌∙◌, ℕ, zero, suc, ◌+◌, ◌<◌, ◌≤◌, Bool, true, false, List, [], ◌∷◌, ◌++◌, length}
use Rattle.std.proofs.Common.{map, take, drop, Option, Some, None, refl}
use Rattle.std.proofs.Common.{sym, ap}
use Rattle.std.proofs.Common.{subst, arith, append_assoc, if◌then◌else◌, ◌&&◌, not, nat_lt}
use Rattle.std.specs.Prelude.{flat_map, slice_get, slice_index_or, IfSome, OnOk, Result, Ok, Err, ◌^◌}
use Rattle.std.specs.Option.{option_map}
use Rattle.std.proofs.lemmas.Bool.{false≢true}
use Rattle.std.proofs.lemmas.List.{drop_more, map-append}
use Rattle.std.proofs.lemmas.Option.{get_or_from_slice_get, same_Some, slice_get_within, slice_get-map}
use Rattle.gimli_line.specs.declared.run.row.LineRow.{LineRow}
use Rattle.gimli_lookup.specs.Covering.{last_address, range}
use Rattle.gimli_lookup.specs.Probes.{never_go_below, never_go_down}
use Rattle.gimli_lookup.specs.Section.{KeptUnit, ListedUnit}
use Rattle.gimli_lookup.specs.Section.{rows_of}
use Rattle.gimli_index.specs.Contents.{HasColumn, entry_start}
use Rattle.gimli_index.specs.Found.{code_of, found_place, row_place}
use Rattle.gimli_lookup.specs.ProgramPaths.{Texts}
use Rattle.gimli_index.specs.Meaning.{Place, Start}
use Rattle.gimli_index.specs.declared.contents.Entry.{Entry}
use Rattle.gimli_index.specs.declared.contents.SourceLine.{SourceLine}
use Rattle.gimli_index.specs.declared.turns.Turn.{Turn}
use Rattle.gimli_index.specs.inside.Table.{Table, AreSources, IsInside, IsPushed, Keeps, place_in, with_table}
use Rattle.gimli_index.specs.inside.Turns.{IsTurn, UnitRows, Walked, end_after, end_start, key_of, row_start}
use Rattle.gimli_index.specs.inside.Turns.{rows_in, rows_of_turns, rows_of_units}
use Rattle.gimli_index.specs.inside.Turns.{starts_of_rows, starts_of_turn, turn_rows}
use Rattle.gimli_index.proofs.Lists.{get_inside}
use Rattle.gimli_index.proofs.TurnPlaces.{after_first, first_from, split_order}
use Rattle.gimli_index.proofs.WalkedStarts.{still_walked, walked_push}

-- ---- one more of some

none_taken : {X : Type 0} (xs : List X) → take 0 xs ≡ []
none_taken [] = refl
none_taken (x ∷ xs) = refl

one_taken : {X : Type 0} (xs : List X) (k : ℕ) (x : X) → slice_get xs k ≡ Some x → take (suc k) xs ≡ take k xs ++ x ∷ []
one_taken [] k x there = absurd cc
one_taken {X} (y ∷ xs) zero x there =
    let same : y ≡ x = same_Some y x there in
    ap (λ (zs : List X). y ∷ zs) (none_taken xs) ∙ ap (λ (z : X). z ∷ []) same
one_taken {X} (y ∷ xs) (suc k) x there = ap (λ (zs : List X). y ∷ zs) (one_taken xs k x there)

pub next_taken : {X : Type 0} (xs : List X) (k : ℕ) (x : X) → slice_get xs k ≡ Some x
    → take (k + 1) xs ≡ take k xs ++ x ∷ []
next_taken {X} xs k x there =
    let after : k + 1 ≡ suc k = omega arith in
    ap (λ (n : ℕ). take n xs) after ∙ one_taken xs k x there

end_joined : (b : ℕ) (xs ys : List LineRow) → end_after b (xs ++ ys) ≡ end_after (end_after b xs) ys
end_joined b [] ys = refl
end_joined b (x ∷ xs) ys = end_joined x.address xs ys

next_above : (b : ℕ) (rows : List LineRow) (k : ℕ) (r : LineRow) → never_go_below b rows ≡ true
    → slice_get rows k ≡ Some r
    → end_after b (take k rows) ≤ r.address
next_above b [] k r order there = absurd cc
next_above b (x ∷ rows) zero r order there =
    omega (arith, (first_from b x rows order).0, ap (λ (y : LineRow). y.address) (same_Some x r there))
next_above b (x ∷ rows) (suc k) r order there = next_above x.address rows k r (first_from b x rows order).1 there

-- ---- a row

pub turn_place : (t : Texts) (units : List KeptUnit) (d : KeptUnit) (turn : Turn) (row next : LineRow)
    → IsTurn units turn
    → found_place t units (Some (record { unit = turn.unit; row = row; next = next }))
    ≡ Some (row_place t (turn_rows units d turn).unit row)
turn_place t units d turn row next is =
    ap (option_map (λ (u : KeptUnit). row_place t u.unit row)) is.there
    ∙ ap (λ (u : KeptUnit). Some (row_place t u.unit row))
    (sym (get_or_from_slice_get units turn.unit is.unit d is.there))

pub row_walked : (t : Texts) (units : List KeptUnit) {limit : ℕ} (old new : Table) (entries after : List Entry)
    (rows : List LineRow) (k : ℕ) (row : LineRow)
    (u : ListedUnit)
    (said : List Start) (end : ℕ) (place : Option SourceLine) → slice_get rows k ≡ Some row
    → Walked t units limit old entries (said ++ map (row_start t u) (take k rows)) (end_after end (take k rows))
    → never_go_below end rows ≡ true
    → Keeps old new → AreSources t units limit new → IsInside new place → HasColumn place
    → place_in new place ≡ Some (row_place t u row)
    → IsPushed new.sources entries after (record { address = row.address; place = place })
    → Walked t units limit new after (said ++ map (row_start t u) (take (k + 1) rows))
    (end_after end (take (k + 1) rows))
row_walked t units {limit = limit} old new entries after rows k row u said end place there walked order keeps are inside
    column says pushed =
    let so_far = said ++ map (row_start t u) (take k rows) in
    let here : Entry = record { address = row.address; place = place } in
    let start_is : entry_start (with_table new) here ≡ row_start t u row =
    ap (λ (p : Option Place). let s : Start = record { address = row.address; place = p } in s) says in
    let said_is : so_far ++ entry_start (with_table new) here ∷ [] ≡ said ++ map (row_start t u) (take (k + 1) rows) =
    append_assoc said (map (row_start t u) (take k rows)) (entry_start (with_table new) here ∷ [])
    ∙ ap (λ (s : Start). said ++ (map (row_start t u) (take k rows) ++ s ∷ [])) start_is
    ∙ ap (λ (ss : List Start). said ++ ss) (sym (map-append (row_start t u) (take k rows) (row ∷ [])))
    ∙ ap (λ (rs : List LineRow). said ++ map (row_start t u) rs) (sym (next_taken rows k row there)) in
    let end_is : row.address ≡ end_after end (take (k + 1) rows) =
    sym (end_joined end (take k rows) (row ∷ [])) ∙ ap (end_after end) (sym (next_taken rows k row there)) in
    subst (λ (ss : List Start). Walked t units limit new after ss (end_after end (take (k + 1) rows))) said_is
    (subst (λ (n : ℕ). Walked t units limit new after (so_far ++ entry_start (with_table new) here ∷ []) n) end_is
    (walked_push t units new entries after here so_far (end_after end (take k rows))
    (still_walked t units old new entries so_far (end_after end (take k rows)) walked keeps are)
    (next_above end rows k row order there) inside column pushed))

-- ---- a sequence

code_below : (b : ℕ) (rows : List LineRow) → never_go_below b rows ≡ true
    → end_after b (code_of rows) ≤ end_after b rows
code_below b [] order = omega arith
code_below b (r ∷ []) order = by_end r.end_sequence
  where
    by_end : (e : Bool) → end_after b (if e then [] else r ∷ []) ≤ r.address
    by_end true = (first_from b r [] order).0
    by_end false = omega arith
code_below b (r ∷ next ∷ rows) order = code_below r.address (next ∷ rows) (first_from b r (next ∷ rows) order).1

starts_are : (t : Texts) (u : ListedUnit) (r : LineRow) (rows : List LineRow)
    → map (row_start t u) (code_of (r ∷ rows)) ++ end_start (last_address r rows) ∷ [] ≡ starts_of_rows t u (r ∷ rows)
starts_are t u r [] = by_end r.end_sequence
  where
    by_end : (e : Bool) → map (row_start t u) (if e then [] else r ∷ []) ++ end_start r.address ∷ []
        ≡ (if e then end_start r.address ∷ [] else row_start t u r ∷ end_start r.address ∷ [])
    by_end true = refl
    by_end false = refl
starts_are t u r (next ∷ rows) = ap (λ (ss : List Start). row_start t u r ∷ ss) (starts_are t u next rows)

end_of : (b : ℕ) (r : LineRow) (rows : List LineRow) → last_address r rows ≡ end_after b (r ∷ rows)
end_of b r [] = refl
end_of b r (next ∷ rows) = end_of r.address next rows

pub turn_walked : (t : Texts) (units : List KeptUnit) {limit : ℕ} (table : Table) (entries after : List Entry)
    (s : UnitRows) (said : List Start) (end last : ℕ)
    (first : ℕ) → range s.rows ≡ Some (first, last)
    → Walked t units limit table entries (said ++ map (row_start t s.unit) (code_of s.rows))
    (end_after end (code_of s.rows))
    → never_go_below end s.rows ≡ true
    → IsPushed table.sources entries after (record { address = last; place = None })
    → Walked t units limit table after (said ++ starts_of_turn t s) (end_after end s.rows)
turn_walked t units {limit = limit} table entries after s said end last first is walked order pushed =
    by_rows s.rows is walked order
  where
    by_rows : (rows : List LineRow) → range rows ≡ Some (first, last)
        → Walked t units limit table entries (said ++ map (row_start t s.unit) (code_of rows))
        (end_after end (code_of rows))
        → never_go_below end rows ≡ true
        → Walked t units limit table after (said ++ starts_of_rows t s.unit rows) (end_after end rows)
    by_rows [] is w order = absurd cc
    by_rows (r ∷ rows) is w order =
        let ends = same_Some (r.address, last_address r rows) (first, last) is in
        let last_is : last_address r rows ≡ last = ap (λ (p : ℕ × ℕ). p.1) ends in
        let here : Entry = record { address = last; place = None } in
        let code = map (row_start t s.unit) (code_of (r ∷ rows)) in
        let said_is : (said ++ code) ++ end_start last ∷ [] ≡ said ++ starts_of_rows t s.unit (r ∷ rows) =
        append_assoc said code (end_start last ∷ [])
        ∙ ap (λ (n : ℕ). said ++ (code ++ end_start n ∷ [])) (sym last_is)
        ∙ ap (λ (ss : List Start). said ++ ss) (starts_are t s.unit r rows) in
        let end_is : last ≡ end_after end (r ∷ rows) = sym last_is ∙ end_of end r rows in
        subst (λ (ss : List Start). Walked t units limit table after ss (end_after end (r ∷ rows))) said_is
        (subst (λ (n : ℕ). Walked t units limit table after ((said ++ code) ++ end_start last ∷ []) n) end_is
        (walked_push t units table entries after here (said ++ code) (end_after end (code_of (r ∷ rows))) w
        (omega (arith, code_below end (r ∷ rows) order, end_is)) tt tt pushed))

-- ---- sequences

turn_order : (b : ℕ) (turns : List Turn) (k : ℕ) (turn : Turn) → never_go_below b (rows_of_turns turns) ≡ true
    → slice_get turns k ≡ Some turn
    → never_go_below (end_after b (rows_of_turns (take k turns))) (rows_of turn.rows) ≡ true
turn_order b [] k turn order there = absurd cc
turn_order b (x ∷ turns) zero turn order there =
    let same : x ≡ turn = same_Some x turn there in
    subst (λ (y : Turn). never_go_below b (rows_of y.rows) ≡ true) same
    (split_order b (rows_of x.rows) (rows_of_turns turns) order).0
turn_order b (x ∷ turns) (suc k) turn order there =
    ap (λ (n : ℕ). never_go_below n (rows_of turn.rows)) (end_joined b (rows_of x.rows) (rows_of_turns (take k turns)))
    ∙ turn_order (end_after b (rows_of x.rows)) turns k turn
    (split_order b (rows_of x.rows) (rows_of_turns turns) order).1 there

module _ (t : Texts) (units : List KeptUnit) (d : KeptUnit) where
  joined_starts : (xs : List Turn) (turn : Turn)
      → flat_map (starts_of_turn t) (map (turn_rows units d) (xs ++ turn ∷ []))
      ≡ flat_map (starts_of_turn t) (map (turn_rows units d) xs) ++ starts_of_turn t (turn_rows units d turn)
  joined_starts [] turn = none_more (starts_of_turn t (turn_rows units d turn))
    where
      none_more : (ss : List Start) → ss ++ [] ≡ ss
      none_more [] = refl
      none_more (x ∷ ss) = ap (λ (ys : List Start). x ∷ ys) (none_more ss)
  joined_starts (x ∷ xs) turn =
      ap (λ (ss : List Start). starts_of_turn t (turn_rows units d x) ++ ss) (joined_starts xs turn)
      ∙ sym
      (append_assoc (starts_of_turn t (turn_rows units d x)) (flat_map (starts_of_turn t) (map (turn_rows units d) xs))
      (starts_of_turn t (turn_rows units d turn)))

  joined_rows : (xs : List Turn) (turn : Turn) → rows_of_turns (xs ++ turn ∷ []) ≡ rows_of_turns xs ++ rows_of turn.rows
  joined_rows [] turn = none_more (rows_of turn.rows)
    where
      none_more : (rs : List LineRow) → rs ++ [] ≡ rs
      none_more [] = refl
      none_more (x ∷ rs) = ap (λ (ys : List LineRow). x ∷ ys) (none_more rs)
  joined_rows (x ∷ xs) turn =
      ap (λ (rs : List LineRow). rows_of x.rows ++ rs) (joined_rows xs turn)
      ∙ sym (append_assoc (rows_of x.rows) (rows_of_turns xs) (rows_of turn.rows))

  pub turns_walked : {limit : ℕ} (old new : Table) (entries after : List Entry) (turns : List Turn) (k : ℕ)
      (turn : Turn)
      → slice_get turns k ≡ Some turn
      → never_go_down (rows_of_turns turns) ≡ true
      → Walked t units limit old entries (flat_map (starts_of_turn t) (map (turn_rows units d) (take k turns)))
      (end_after 0 (rows_of_turns (take k turns)))
      → ((said : List Start) (end : ℕ) → Walked t units limit old entries said end
      → never_go_below end (rows_of turn.rows) ≡ true
      → Walked t units limit new after (said ++ starts_of_turn t (turn_rows units d turn))
      (end_after end (rows_of turn.rows)))
      → Walked t units limit new after (flat_map (starts_of_turn t) (map (turn_rows units d) (take (k + 1) turns)))
      (end_after 0 (rows_of_turns (take (k + 1) turns)))
  turns_walked {limit = limit} old new entries after turns k turn there down walked step =
      let so_far = flat_map (starts_of_turn t) (map (turn_rows units d) (take k turns)) in
      let end = end_after 0 (rows_of_turns (take k turns)) in
      let taken = next_taken turns k turn there in
      let said_is : so_far ++ starts_of_turn t (turn_rows units d turn)
      ≡ flat_map (starts_of_turn t) (map (turn_rows units d) (take (k + 1) turns)) =
      sym (joined_starts (take k turns) turn)
      ∙ ap (λ (ts : List Turn). flat_map (starts_of_turn t) (map (turn_rows units d) ts)) (sym taken) in
      let end_is : end_after end (rows_of turn.rows) ≡ end_after 0 (rows_of_turns (take (k + 1) turns)) =
      sym (end_joined 0 (rows_of_turns (take k turns)) (rows_of turn.rows))
      ∙ ap (end_after 0) (sym (joined_rows (take k turns) turn))
      ∙ ap (λ (ts : List Turn). end_after 0 (rows_of_turns ts)) (sym taken) in
      subst (λ (ss : List Start). Walked t units limit new after ss (end_after 0 (rows_of_turns (take (k + 1) turns))))
      said_is
      (subst (λ (n : ℕ). Walked t units limit new after (so_far ++ starts_of_turn t (turn_rows units d turn)) n) end_is
      (step so_far end walked (turn_order 0 turns k turn down there)))

-- ---- the rows without an end

pub code_ended : (rows : List LineRow) (n : ℕ) (z : LineRow) → length rows ≡ n + 1 → slice_get rows n ≡ Some z
    → z.end_sequence ≡ true
    → take n rows ≡ code_of rows
code_ended [] n z long there end = absurd (omega (arith, long))
code_ended (r ∷ []) zero z long there end =
    ap (λ (b : Bool). if b then [] else r ∷ []) (sym (ap (λ (x : LineRow). x.end_sequence) (same_Some r z there) ∙ end))
code_ended (r ∷ []) (suc n) z long there end = absurd (omega (arith, long))
code_ended (r ∷ next ∷ rows) zero z long there end = absurd (omega (arith, long))
code_ended (r ∷ next ∷ rows) (suc n) z long there end =
    ap (λ (rs : List LineRow). r ∷ rs) (code_ended (next ∷ rows) n z (omega (arith, long)) there end)

code_after : (rows : List LineRow) (n : ℕ) (z : LineRow) → length rows ≡ n + 1 → slice_get rows n ≡ Some z
    → z.end_sequence ≡ false
    → take (suc n) rows ≡ code_of rows
code_after [] n z long there open_end = absurd (omega (arith, long))
code_after (r ∷ []) zero z long there open_end =
    ap (λ (b : Bool). if b then [] else r ∷ [])
    (sym (ap (λ (x : LineRow). x.end_sequence) (same_Some r z there) ∙ open_end))
code_after (r ∷ []) (suc n) z long there open_end = absurd (omega (arith, long))
code_after (r ∷ next ∷ rows) zero z long there open_end = absurd (omega (arith, long))
code_after (r ∷ next ∷ rows) (suc n) z long there open_end =
    ap (λ (rs : List LineRow). r ∷ rs) (code_after (next ∷ rows) n z (omega (arith, long)) there open_end)

pub code_open : (rows : List LineRow) (n : ℕ) (z : LineRow) → length rows ≡ n + 1 → slice_get rows n ≡ Some z
    → z.end_sequence ≡ false
    → take (n + 1) rows ≡ code_of rows
code_open rows n z long there open_end =
    let after : n + 1 ≡ suc n = omega arith in
    ap (λ (k : ℕ). take k rows) after ∙ code_after rows n z long there open_end

-- ---- the order of sequences, one after the other

and_assoc : (a b c : Bool) → (a && (b && c)) ≡ ((a && b) && c)
and_assoc true b c = refl
and_assoc false b c = refl

joined_test : (b : ℕ) (xs ys : List LineRow)
    → never_go_below b (xs ++ ys) ≡ (never_go_below b xs && never_go_below (end_after b xs) ys)
joined_test b [] ys = refl
joined_test b (x ∷ xs) ys =
    ap (λ (t : Bool). not (nat_lt x.address b) && t) (joined_test x.address xs ys)
    ∙ and_assoc (not (nat_lt x.address b)) (never_go_below x.address xs) (never_go_below (end_after x.address xs) ys)

lower_first : (b : ℕ) (rows : List LineRow) → never_go_below b rows ≡ true → never_go_down rows ≡ true
lower_first b [] order = refl
lower_first b (r ∷ rows) order = after_first 0 r rows (omega arith) (first_from b r rows order).1

fails_both : (x y : Bool) → x ≡ false → (x && y) ≡ false
fails_both x y is = ap (λ (t : Bool). t && y) is

false_by : (x : Bool) → (x ≡ true → ⊥) → x ≡ false
false_by true not_true = absurd (not_true refl)
false_by false not_true = refl

pub goes_down : (b : ℕ) (rows rest : List LineRow) → never_go_down rows ≡ false
    → never_go_below b (rows ++ rest) ≡ false
goes_down b rows rest down =
    joined_test b rows rest
    ∙ fails_both (never_go_below b rows) (never_go_below (end_after b rows) rest)
    (false_by (never_go_below b rows) (λ order. false≢true (sym down ∙ lower_first b rows order)))

pub begins_below : (b : ℕ) (rows rest : List LineRow) (first last : ℕ) → range rows ≡ Some (first, last) → first < b
    → never_go_below b (rows ++ rest) ≡ false
begins_below b [] rest first last is low = absurd cc
begins_below b (r ∷ rows) rest first last is low =
    let at : r.address
    ≡ first = ap (λ (p : ℕ × ℕ). p.0) (same_Some (r.address, last_address r rows) (first, last) is) in
    false_by (never_go_below b (r ∷ rows ++ rest)) (λ order.
    omega (arith, (first_from b r (rows ++ rest) order).0, at, low))

pub goes_on : (b : ℕ) (rows rest : List LineRow) (first last : ℕ) → never_go_down rows ≡ true
    → range rows ≡ Some (first, last) → b ≤ first
    → never_go_below b (rows ++ rest) ≡ never_go_below last rest
goes_on b [] rest first last down is high = absurd cc
goes_on b (r ∷ rows) rest first last down is high =
    let ends = same_Some (r.address, last_address r rows) (first, last) is in
    let at : r.address ≡ first = ap (λ (p : ℕ × ℕ). p.0) ends in
    let end : end_after b (r ∷ rows) ≡ last = sym (end_of b r rows) ∙ ap (λ (p : ℕ × ℕ). p.1) ends in
    joined_test b (r ∷ rows) rest
    ∙ ap (λ (t : Bool). t && never_go_below (end_after b (r ∷ rows)) rest)
    (after_first b r rows (omega (arith, at, high)) (first_from 0 r rows down).1)
    ∙ ap (λ (n : ℕ). never_go_below n rest) end

pub none_go : (b : ℕ) (rows rest : List LineRow) → range rows ≡ None
    → never_go_below b (rows ++ rest) ≡ never_go_below b rest
none_go b [] rest is = refl
none_go b (r ∷ rows) rest is = absurd cc

pub turn_here : (turns : List Turn) (k : ℕ) (turn : Turn) → slice_get turns k ≡ Some turn
    → rows_of_turns (drop k turns) ≡ rows_of turn.rows ++ rows_of_turns (drop (k + 1) turns)
turn_here turns k turn there =
    ap rows_of_turns (drop_more turns k turn (slice_get_within turns k turn there))
    ∙ ap (λ (x : Turn). rows_of x.rows ++ rows_of_turns (drop (k + 1) turns))
    (get_or_from_slice_get turns k turn turn there)

pub here_at : {X : Type 0} (xs : List X) (k : ℕ) (d : X) → k < length xs → slice_get xs k ≡ Some (slice_index_or xs k d)
here_at {X} xs k d within =
    let known = get_inside xs k within in
    known.1 ∙ ap (λ (x : X). Some x) (sym (get_or_from_slice_get xs k known.0 d known.1))

pub on_ok : {T E : Type 0} (r : Result T E) (A P : Type 0) → OnOk r A → (A → P) → OnOk r P
on_ok (Ok x) A P a f = f a
on_ok (Err e) A P a f = tt

-- ---- the sequences of all units

module _ (units : List KeptUnit) (unit k : ℕ) (turn : Turn) (unit_is : turn.unit ≡ unit)
    (there : (d : KeptUnit) → slice_get (slice_index_or units unit d).sequences k ≡ Some (rows_of turn.rows)) where
  pub more_turns : (initial turns new : List Turn) → new ≡ turns ++ turn ∷ []
      → ((d : KeptUnit)
      → map (turn_rows units d) turns
      ≡ map (turn_rows units d) initial ++ take k (rows_in (slice_index_or units unit d)))
      → (d : KeptUnit)
      → map (turn_rows units d) new
      ≡ map (turn_rows units d) initial ++ take (k + 1) (rows_in (slice_index_or units unit d))
  more_turns initial turns new new_is so_far d =
      let f = turn_rows units d in
      let u = slice_index_or units unit d in
      let mk : List LineRow → UnitRows = λ rows. record { unit = u.unit; rows = rows } in
      let turn_is : f turn ≡ mk (rows_of turn.rows) =
      ap
      (λ (n : ℕ). let s : UnitRows = record { unit = (slice_index_or units n d).unit; rows = rows_of turn.rows } in s)
      unit_is in
      let at : slice_get (rows_in u) k ≡ Some (mk (rows_of turn.rows)) = slice_get-map mk u.sequences k
      ∙ ap (option_map mk) (there d) in
      ap (map f) new_is
      ∙ map-append f turns (turn ∷ [])
      ∙ ap (λ (xs : List UnitRows). xs ++ f turn ∷ []) (so_far d)
      ∙ append_assoc (map f initial) (take k (rows_in u)) (f turn ∷ [])
      ∙ ap (λ (x : UnitRows). map f initial ++ (take k (rows_in u) ++ x ∷ [])) turn_is
      ∙ ap (λ (xs : List UnitRows). map f initial ++ xs) (sym (next_taken (rows_in u) k (mk (rows_of turn.rows)) at))

  pub is_turn : unit < length units → turn.key ≡ key_of (rows_of turn.rows)
      → IfSome (range (rows_of turn.rows)) (λ ends. ends.1 < 2 ^ 64)
      → IsTurn units turn
  is_turn within key few =
      let known = get_inside units unit within in
      record {
        unit = known.0;
        there = ap (slice_get units) unit_is ∙ known.1;
        sequence = k;
        is_sequence =
            ap (λ (u : KeptUnit). slice_get u.sequences k)
            (sym (get_or_from_slice_get units unit known.0 known.0 known.1))
            ∙ there known.0;
        key = key;
        few = few;
      }

pub more_units : (units : List KeptUnit) (k : ℕ) (d : KeptUnit) → k < length units
    → rows_of_units (take (k + 1) units) ≡ rows_of_units (take k units) ++ rows_in (slice_index_or units k d)
more_units units k d within =
    ap rows_of_units (next_taken units k (slice_index_or units k d) (here_at units k d within))
    ∙ joined (take k units) (slice_index_or units k d)
  where
    none_more : (xs : List UnitRows) → xs ++ [] ≡ xs
    none_more [] = refl
    none_more (x ∷ xs) = ap (λ (ys : List UnitRows). x ∷ ys) (none_more xs)

    joined : (us : List KeptUnit) (u : KeptUnit) → rows_of_units (us ++ u ∷ []) ≡ rows_of_units us ++ rows_in u
    joined [] u = none_more (rows_in u)
    joined (x ∷ us) u =
        ap (λ (xs : List UnitRows). rows_in x ++ xs) (joined us u)
        ∙ sym (append_assoc (rows_in x) (rows_of_units us) (rows_in u))
