-- A length that is written once what it counts is there.
use Rattle.std.specs.Prelude.{◌≡◌, ◌+◌, ◌-◌, ◌<◌, ◌≤◌, ◌^◌, ◌++◌, if◌then◌else◌, ◌⊎◌}
use Rattle.gimli_build.proofs
use proofs.Common
use Common.{ℕ, Bool, true, false, List, [], length, refl, sym, ap, ◌∙◌, arith, append_assoc, length-append, nat_lt, Ok}
use Common.{Err, OnOk, IfErr, IsTrue, inr, le-ltb, lt-ltb, take_at, drop_at, Result, number_bytes, word_size, Format}
use Common.{Dwarf32, Dwarf64, Hand, Placement, plain, Begins, Appends, IsOverwrite, overwrite_of, patch, Ghosts}
use Common.{OutOfMemory, Writes, udata, open_length, escape_size, length_word, Error, format_word, result_append}
use Common.{after_length, escape_bytes}
use Rattle.gimli_bytes.specs.Written.{IsOwn}
use proofs.writing.Joined.{on_ok, if_err, or_wanted, or_both, begins_before}
use Rattle.gimli_bytes.proofs.Parts.{begins_then}
use Rattle.std.proofs.lemmas.List.{length-take}
use proofs.writing.Writes.{Leaves, writes_in, own_at_once, own_before}

-- other bytes in the middle, as long as those that stand there
patched_middle : (a b other c : List ℕ) (at : ℕ) → length other ≡ length b → length a ≡ at
    → overwrite_of (a ++ b ++ c) at other ≡ Ok (a ++ other ++ c)
patched_middle a b other c at same position =
    grind (arith, length-append, nat_lt, le-ltb, append_assoc, take_at, drop_at)

same_ok : (xs ys : List ℕ) → (let r : Result (List ℕ) Error = Ok xs in r) ≡ Ok ys → xs ≡ ys
same_ok xs ys h = cc

pub no_less : (old new : List ℕ) → Begins old new → length old ≤ length new
no_less old new begins = omega (arith, length-take (length old) new, ap length begins)

-- the word of a length, which stands after `escape` and is blank at first, once more
module _ (full length_of : ℕ → Result (List ℕ) Error) (escape blank old c1 c2 new : List ℕ) (position n : ℕ)
    (body : Result (List ℕ) Error)
    (is_full : (n : ℕ) → full n ≡ result_append (Ok escape) (length_of n))
    (opened : c1 ≡ old ++ escape ++ blank) (at : position ≡ length old + length escape) (written : Appends body c1 c2)
    (counted : n ≡ length c2 - length c1)
    (as_long : (word : List ℕ) → length_of n ≡ Ok word → length word ≡ length blank) where
  whole : (bytes : List ℕ) → body ≡ Ok bytes → c2 ≡ (old ++ escape) ++ blank ++ bytes
  whole bytes is =
      grind arith

  count : (bytes : List ℕ) → body ≡ Ok bytes → n ≡ length bytes
  count bytes is =
      grind (arith, length-append)

  known : (bytes : List ℕ) → body ≡ Ok bytes
      → after_length full body ≡ result_append (result_append (Ok escape) (length_of n)) (Ok bytes)
  known bytes is =
      grind (arith, count)

  put : (bytes word : List ℕ) → body ≡ Ok bytes → length_of n ≡ Ok word
      → overwrite_of c2 position word ≡ Ok ((old ++ escape) ++ word ++ bytes)
  put bytes word is so =
      grind (arith, whole, patched_middle, length-append)

  framed : patch (length_of n) c2 position ≡ Ok new → Appends (after_length full body) old new
  framed h = by _ refl _ refl h
    where
      by : (b : Result (List ℕ) Error) → body ≡ b → (w : Result (List ℕ) Error) → length_of n ≡ w
          → patch w c2 position ≡ Ok new
          → Appends (after_length full body) old new
      by (Err e) is w so h = absurd (rw is at written)
      by (Ok bytes) is (Err e) so h = cc
      by (Ok bytes) is (Ok word) so h =
          let shape : after_length full body ≡ Ok ((escape ++ word) ++ bytes) = known _ is
          ∙ ap (λ r. result_append (result_append (Ok escape) r) (Ok bytes)) so in
          let same : new ≡ (old ++ escape) ++ word ++ bytes = sym (same_ok _ _ (sym (put _ _ is so) ∙ h)) in
          rw shape
          (same ∙ ap (λ l. l ++ bytes) (append_assoc old escape word) ∙ append_assoc old (escape ++ word) bytes)

  frame_refused : (e : Error) → patch (length_of n) c2 position ≡ Err e → after_length full body ≡ Err e
  frame_refused e h = by _ refl _ refl h
    where
      by : (b : Result (List ℕ) Error) → body ≡ b → (w : Result (List ℕ) Error) → length_of n ≡ w
          → patch w c2 position ≡ Err e → after_length full body ≡ Err e
      by (Err d) is w so h = absurd (rw is at written)
      by (Ok bytes) is (Err d) so h =
          known _ is ∙ ap (λ r. result_append (result_append (Ok escape) r) (Ok bytes)) so ∙ h
      by (Ok bytes) is (Ok word) so h = absurd (let never = sym (put _ _ is so) ∙ h in cc)

  -- so much of one view of a writer
  pub framed_leaves : {X : Type 0} {Own : Error → Type 0} {r : Result X Error}
      → OnOk r (patch (length_of n) c2 position ≡ Ok new)
      → IfErr r (λ e. Own e ⊎ (patch (length_of n) c2 position ≡ Err e)) → Leaves Own r (after_length full body) old new
  framed_leaves {r = r} ok err = record {
    ok = on_ok r framed ok;
    err = if_err r (λ e. or_wanted (frame_refused e)) err;
  }

-- a blank word stands at the end, after `escape`
pub record Blank (escape blank old new : List ℕ) (position : ℕ) : Type 0 where
  pub opened : new ≡ old ++ escape ++ blank
  pub at : position ≡ length old + length escape

-- a blank word is written, and then what a number counts, which is due over the word
pub record Counts {W : Type 0} (sink : Ghosts W) (escape blank : List ℕ) (position n : ℕ) (old opened filled : W)
    : Type 0 where
  pub keeps : Begins (sink.contents old) (sink.contents opened)
  pub ordered : sink.is_big opened ≡ sink.is_big old
  pub stays : IsTrue (sink.completes old) → IsTrue (sink.completes opened)
  pub unrefused : IsTrue (sink.unrefused old) → IsTrue (sink.unrefused opened)
  pub after : length (sink.contents old) ≤ position
  pub held : IsTrue sink.keeps_bytes → Blank escape blank (sink.contents old) (sink.contents opened) position
  pub linked : (at : Placement) → IsTrue (sink.completes old)
      → Blank escape blank (sink.completed at old) (sink.completed at opened) position
  pub count : n ≡ length (sink.contents filled) - length (sink.contents opened)
  pub count_linked : (at : Placement) → IsTrue (sink.completes old)
      → n ≡ length (sink.completed at filled) - length (sink.completed at opened)

pub counted_written : {W X Y : Type 0} {sink : Ghosts W} {old opened filled closed : W} {x : X} {r : Result Y Error}
    {escape blank : List ℕ} {position n : ℕ} {body : Hand → Result (List ℕ) Error}
    (full length_of : ℕ → Result (List ℕ) Error)
    → ((k : ℕ) → full k ≡ result_append (Ok escape) (length_of k))
    → ((word : List ℕ) → length_of n ≡ Ok word → length word ≡ length blank)
    → Counts sink escape blank position n old opened filled → Writes sink opened filled (Ok x) body
    → IsOverwrite sink filled closed r position (λ hand. length_of n)
    → Writes sink old closed r (λ hand. after_length full (body hand))
counted_written {sink = sink} {old = old} {filled = filled} {r = r} {escape = escape} {blank = blank}
    {position = position} {n = n} {body = body} full length_of is_full as_long so inside call =
    let leaves =
    λ (own : Error → Type 0) (hand : Hand) (old c1 c2 new : List ℕ) (at : Blank escape blank old c1 position)
    (written : Appends (body hand) c1 c2) (counted : n ≡ length c2 - length c1).
    framed_leaves full length_of escape blank old c1 c2 new position n (body hand) is_full at.opened at.at written
    counted as_long
    {Own = own} {r = r} in
    let keeps = begins_then _ _ _ so.keeps inside.keeps in
    let earlier = λ (e : Error) (is : sink.refuses filled (length_of n) e).
    own_before keeps (λ unrefused. inside.unrefused (so.unrefused unrefused)) e (own_at_once filled _ e is) in
    writes_in (record {
      keeps = begins_before _ _ _ _ keeps so.after call.before;
      ordered = call.ordered ∙ inside.ordered ∙ so.ordered;
      stays = λ completes. call.stays (inside.stays (so.stays completes));
      unrefused = λ unrefused. call.unrefused (inside.unrefused (so.unrefused unrefused));
      held = λ keeps_bytes.
          leaves (IsOwn sink old) plain _ _ _ _ (so.held keeps_bytes) (inside.ok keeps_bytes) so.count
          (call.ok keeps_bytes) (if_err r (λ e. or_both (earlier e) (λ is. is)) call.own);
      memory = λ keeps_bytes memory_alone.
          leaves (λ e. e ≡ OutOfMemory) plain _ _ _ _ (so.held keeps_bytes) (inside.ok keeps_bytes) so.count
          (call.ok keeps_bytes) (if_err r (λ e. inr) (call.err memory_alone));
      linked = λ at completes.
          let opened = so.stays completes in
          leaves (IsOwn sink old) (sink.hand at) _ _ _ _ (so.linked at completes) (inside.completed at opened)
          (so.count_linked at completes) (call.completed at (inside.stays opened))
          (if_err r (λ e. or_both (earlier e) (λ is. is)) (call.completed_own at (inside.stays opened)));
    })

-- ---- words

pub size_4 : (is_big : Bool) (n : ℕ) → length (number_bytes is_big 4 n) ≡ 4
size_4 true n = refl
size_4 false n = refl

pub size_8 : (is_big : Bool) (n : ℕ) → length (number_bytes is_big 8 n) ≡ 8
size_8 true n = refl
size_8 false n = refl

abbrev pub open_word : Bool → Format → List ℕ
open_word is_big Dwarf32 = number_bytes is_big 4 0
open_word is_big Dwarf64 = number_bytes is_big 8 0

pub escape_is : (is_big : Bool) (format : Format)
    → open_length is_big format ≡ escape_bytes is_big format ++ open_word is_big format
escape_is is_big Dwarf32 = refl
escape_is is_big Dwarf64 = refl

pub escape_long : (is_big : Bool) (format : Format) → length (escape_bytes is_big format) ≡ escape_size format
escape_long is_big Dwarf32 = refl
escape_long true Dwarf64 = refl
escape_long false Dwarf64 = refl

ok_if : (b : Bool) (xs ys : List ℕ) (e : Error)
    → (let r : Result (List ℕ) Error = if b then Ok xs else Err e in r) ≡ Ok ys → ys ≡ xs
ok_if true xs ys e h = cc
ok_if false xs ys e h = cc

ok_if_if : (b c : Bool) (xs ys : List ℕ) (d e : Error)
    → (let r : Result (List ℕ) Error = if b then Ok xs else (if c then Err d else Err e) in r) ≡ Ok ys
    → ys ≡ xs
ok_if_if true c xs ys d e h = cc
ok_if_if false true xs ys d e h = cc
ok_if_if false false xs ys d e h = cc

pub length_word_long : (is_big : Bool) (format : Format) (n : ℕ) (word : List ℕ) → length_word is_big format n ≡ Ok word
    → length word ≡ length (open_word is_big format)
length_word_long is_big Dwarf32 n word h =
    grind (arith, ok_if_if, size_4)
length_word_long is_big Dwarf64 n word h = grind (arith, same_ok, size_8)

pub header_word_long : (is_big : Bool) (format : Format) (n : ℕ) (word : List ℕ) → format_word is_big format n ≡ Ok word
    → length word ≡ length (open_word is_big format)
header_word_long is_big Dwarf32 n word h = grind (arith, ok_if, size_4)
header_word_long is_big Dwarf64 n word h = grind (arith, same_ok, size_8)

-- where 64 bits hold a number, it is written as a word of the format is
pub word_is : (is_big : Bool) (format : Format) (n : ℕ) → n < 2 ^ 64
    → udata is_big n (word_size format) ≡ format_word is_big format n
word_is is_big Dwarf32 n small = refl
word_is is_big Dwarf64 n small = grind (arith, lt-ltb)

-- a word of 0 fits
pub zero_word : (is_big : Bool) (format : Format) → udata is_big 0 (word_size format) ≡ Ok (open_word is_big format)
zero_word is_big Dwarf32 = refl
zero_word is_big Dwarf64 = refl

pub no_escape : (r : Result (List ℕ) Error) → r ≡ result_append (Ok []) r
no_escape (Ok bytes) = refl
no_escape (Err e) = refl
