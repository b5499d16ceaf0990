-- Calls that append, one after the other.
use Rattle.std.specs.Prelude.{◌≡◌, ◌⊎◌, ◌∷◌}
use Rattle.gimli_build.proofs
use proofs.Common
use Common.{List, ℕ, Ok, Err, IsTrue, refl, sym, ap, ◌∙◌, inl, inr, subst, OnOk, IfErr, Result, err_from_is_err_and}
use Common.{Hand, Placement, plain, Begins, Appends, Refuses, IsAppend, Error, OutOfMemory, Ghosts, result_append}
use Common.{result_concat, after_length, Writes, always, [], append-nil}
use Rattle.std.specs.Result.{IsErrAnd}
use Rattle.gimli_bytes.specs.Written.{IsOwn}
use Rattle.gimli_build.specs.Writes.{WritesOr, OfMemoryOr}
use proofs.writing.Joined.{SoFar, none_so_far, one_more, on_ok, if_err, or_wanted, or_both, part_refused}
use proofs.writing.Joined.{first_refused, second_refused, appends_joined}
use Rattle.gimli_bytes.proofs.Parts.{begins_self, begins_then}

-- an error of the writer, that came at once
pub own_at_once : {W : Type 0} {sink : Ghosts W} (old : W) (bytes : Result (List ℕ) Error) (e : Error)
    → sink.refuses old bytes e → IsOwn sink old e
own_at_once old bytes e returned = record {
  state = old;
  bytes = bytes;
  keeps = begins_self _;
  unrefused = λ unrefused. unrefused;
  returned = returned;
}

-- one that came after what is written so far
pub own_before : {W : Type 0} {sink : Ghosts W} {old mid : W} → Begins (sink.contents old) (sink.contents mid)
    → (IsTrue (sink.unrefused old) → IsTrue (sink.unrefused mid)) → (e : Error) → IsOwn sink mid e → IsOwn sink old e
own_before keeps unrefused e own = record {
  state = own.state;
  bytes = own.bytes;
  keeps = begins_then _ _ _ keeps own.keeps;
  unrefused = λ before. own.unrefused (unrefused before);
  returned = own.returned;
}

-- what a call leaves in one view of the writer, before and after
pub record Leaves {X : Type 0} (Own : Error → Type 0) (result : Result X Error) (wanted : Result (List ℕ) Error)
    (old new : List ℕ) : Type 0 where
  pub ok : OnOk result (Appends wanted old new)
  pub err : IfErr result (λ e. Own e ⊎ (wanted ≡ Err e))

-- in each view
pub record InViews {W X : Type 0} (sink : Ghosts W) (old new : W) (result : Result X Error)
    (wanted : Hand → Result (List ℕ) Error) : Type 0 where
  pub keeps : Begins (sink.contents old) (sink.contents new)
  pub ordered : sink.is_big new ≡ sink.is_big old
  pub stays : IsTrue (sink.completes old) → IsTrue (sink.completes new)
  pub unrefused : IsTrue (sink.unrefused old) → OnOk result (IsTrue (sink.unrefused new))
  pub held : IsTrue sink.keeps_bytes
      → Leaves (IsOwn sink old) result (wanted plain) (sink.contents old) (sink.contents new)
  pub memory : IsTrue sink.keeps_bytes → IsTrue sink.fails_for_memory_alone
      → Leaves (λ e. e ≡ OutOfMemory) result (wanted plain) (sink.contents old) (sink.contents new)
  pub linked : (at : Placement) → IsTrue (sink.completes old)
      → Leaves (IsOwn sink old) result (wanted (sink.hand at)) (sink.completed at old) (sink.completed at new)

pub writes_in : {W X : Type 0} {sink : Ghosts W} {old new : W} {r : Result X Error} {wanted : Hand
    → Result (List ℕ) Error}
    → InViews sink old new r wanted → Writes sink old new r wanted
writes_in so = record {
  keeps = so.keeps;
  ordered = so.ordered;
  stays = so.stays;
  unrefused = so.unrefused;
  ok = λ keeps_bytes. (so.held keeps_bytes).ok;
  err = λ keeps_bytes memory_alone. (so.memory keeps_bytes memory_alone).err;
  own = λ keeps_bytes. (so.held keeps_bytes).err;
  completed = λ at completes. (so.linked at completes).ok;
  completed_own = λ at completes. (so.linked at completes).err;
}

views_of : {W X : Type 0} {sink : Ghosts W} {old new : W} {r : Result X Error} {wanted : Hand → Result (List ℕ) Error}
    → Writes sink old new r wanted → InViews sink old new r wanted
views_of so = record {
  keeps = so.keeps;
  ordered = so.ordered;
  stays = so.stays;
  unrefused = so.unrefused;
  held = λ keeps_bytes. record { ok = so.ok keeps_bytes; err = so.own keeps_bytes };
  memory = λ keeps_bytes memory_alone. record { ok = so.ok keeps_bytes; err = so.err keeps_bytes memory_alone };
  linked = λ at completes. record { ok = so.completed at completes; err = so.completed_own at completes };
}

-- two calls
leaves_joined : {X Y : Type 0} {Own Later : Error → Type 0} {x : X} {r : Result Y Error} (a b : Result (List ℕ) Error)
    (old mid new : List ℕ) → ((e : Error) → Later e → Own e)
    → Leaves Own (let s : Result X Error = Ok x in s) a old mid → Leaves Later r b mid new
    → Leaves Own r (result_append a b) old new
leaves_joined {r = r} a b old mid new earlier first second = record {
  ok = on_ok r (appends_joined a b _ _ _ first.ok) second.ok;
  err = if_err r (λ e. or_both (earlier e) (second_refused a b _ _ e first.ok)) second.err;
}

pub joins : {W X Y : Type 0} {sink : Ghosts W} {old mid new : W} {x : X} {r : Result Y Error} {a b : Hand
    → Result (List ℕ) Error}
    → Writes sink old mid (Ok x) a → Writes sink mid new r b
    → Writes sink old new r (λ hand. result_append (a hand) (b hand))
joins {sink = sink} {a = a} {b = b} first second =
    let one = views_of first in
    let other = views_of second in
    writes_in (record {
      keeps = begins_then _ _ _ first.keeps second.keeps;
      ordered = second.ordered ∙ first.ordered;
      stays = λ completes. second.stays (first.stays completes);
      unrefused = λ unrefused. second.unrefused (first.unrefused unrefused);
      held = λ keeps_bytes.
          leaves_joined _ _ _ _ _ (own_before first.keeps first.unrefused) (one.held keeps_bytes)
          (other.held keeps_bytes);
      memory =
          λ keeps_bytes memory_alone.
          leaves_joined _ _ _ _ _ (λ e is. is) (one.memory keeps_bytes memory_alone)
          (other.memory keeps_bytes memory_alone);
      linked =
          λ at completes.
          leaves_joined _ _ _ _ _ (own_before first.keeps first.unrefused) (one.linked at completes)
          (other.linked at (first.stays completes));
    })

-- what is wanted, said otherwise
pub wanted_alike : {W X : Type 0} {sink : Ghosts W} {old new : W} {r : Result X Error} {a b : Hand
    → Result (List ℕ) Error}
    → ((hand : Hand) → a hand ≡ b hand)
    → Writes sink old new r a → Writes sink old new r b
wanted_alike {sink = sink} {old = old} {new = new} {r = r} same so =
    let views = views_of so in
    let alike =
    λ (Own : Error → Type 0) (hand : Hand) (before after : List ℕ).
    subst (λ w. Leaves Own r w before after) (same hand) in
    writes_in (record {
      keeps = so.keeps;
      ordered = so.ordered;
      stays = so.stays;
      unrefused = so.unrefused;
      held =
          λ keeps_bytes. alike (IsOwn sink old) plain (sink.contents old) (sink.contents new) (views.held keeps_bytes);
      memory = λ keeps_bytes memory_alone.
          alike (λ e. e ≡ OutOfMemory) plain (sink.contents old) (sink.contents new)
          (views.memory keeps_bytes memory_alone);
      linked =
          λ at completes.
          alike (IsOwn sink old) (sink.hand at) (sink.completed at old) (sink.completed at new)
          (views.linked at completes);
    })

for_it : (wanted : Result (List ℕ) Error) (e : Error) → Refuses wanted e → (e ≡ OutOfMemory) ⊎ (wanted ≡ Err e)
for_it (Ok bytes) e memory = inl memory
for_it (Err d) e is = inr (ap (λ x. let s : Result (List ℕ) Error = Err x in s) (sym is))

-- a call of the writer itself
pub writes : {W X : Type 0} {sink : Ghosts W} {old new : W} {r : Result X Error} (wanted : Hand → Result (List ℕ) Error)
    → IsAppend sink old new r wanted → Writes sink old new r wanted
writes {old = old} {r = r} wanted append = record {
  keeps = append.keeps;
  ordered = append.ordered;
  stays = append.stays;
  unrefused = append.unrefused;
  ok = append.ok;
  err = λ keeps_bytes memory_alone. if_err r (for_it _) (append.err memory_alone);
  own = λ keeps_bytes. if_err r (λ e. or_both (own_at_once old _ e) (λ is. is)) append.own;
  completed = append.completed;
  completed_own = λ at completes.
      if_err r (λ e. or_both (own_at_once old _ e) (λ is. is)) (append.completed_own at completes);
}

-- the same bytes, said otherwise
pub same_bytes : {W X : Type 0} {sink : Ghosts W} {old new : W} {r : Result X Error} {xs ys : List ℕ} → xs ≡ ys
    → Writes sink old new r (always (Ok xs))
    → Writes sink old new r (always (Ok ys))
same_bytes {sink = sink} {old = old} {new = new} {r = r} same so =
    subst (λ l. Writes sink old new r (always (Ok l))) same so

-- ---- refused

-- at the exit of a `?`
pub passed_on : {W X : Type 0} {sink : Ghosts W} {old new : W} {e : Error} {wanted : Hand → Result (List ℕ) Error}
    {r : Result X Error} → IsErrAnd r (λ d. d ≡ e) → Writes {X = X} sink old new (Err e) wanted
    → Writes sink old new r wanted
passed_on {r = r} is refused = let p = err_from_is_err_and r is in rw (p.1, p.2) refused

-- after what is written so far: what refuses it, refuses the whole
pub later_unwritten : {W X Y : Type 0} {sink : Ghosts W} {old mid new : W} {e : Error}
    (part whole : Hand → Result (List ℕ) Error)
    → Begins (sink.contents old) (sink.contents mid) → sink.is_big mid ≡ sink.is_big old
    → (IsTrue (sink.completes old) → IsTrue (sink.completes mid))
    → (IsTrue (sink.unrefused old) → IsTrue (sink.unrefused mid))
    → (IsTrue sink.keeps_bytes → part plain ≡ Err e → whole plain ≡ Err e)
    → ((at : Placement) → IsTrue (sink.completes old) → part (sink.hand at) ≡ Err e → whole (sink.hand at) ≡ Err e)
    → Writes {X = X} sink mid new (Err e) part → Writes {X = Y} sink old new (Err e) whole
later_unwritten {e = e} part whole begins same stays unrefused held linked refused = record {
  keeps = begins_then _ _ _ begins refused.keeps;
  ordered = refused.ordered ∙ same;
  stays = λ completes. refused.stays (stays completes);
  unrefused = λ before. tt;
  ok = λ keeps_bytes. tt;
  err = λ keeps_bytes memory_alone. or_wanted (held keeps_bytes) (refused.err keeps_bytes memory_alone);
  own = λ keeps_bytes. or_both (own_before begins unrefused e) (held keeps_bytes) (refused.own keeps_bytes);
  completed = λ at completes. tt;
  completed_own = λ at completes.
      or_both (own_before begins unrefused e) (linked at completes) (refused.completed_own at (stays completes));
}

-- with nothing before it
only_unwritten : {W X Y : Type 0} {sink : Ghosts W} {old new : W} {e : Error}
    (part whole : Hand → Result (List ℕ) Error)
    → ((hand : Hand) → part hand ≡ Err e → whole hand ≡ Err e)
    → Writes {X = X} sink old new (Err e) part → Writes {X = Y} sink old new (Err e) whole
only_unwritten {sink = sink} {old = old} part whole why refused =
    later_unwritten _ _ (begins_self _) refl (λ completes. completes) (λ unrefused. unrefused) (λ keeps_bytes.
    why plain)
    (λ at completes. why (sink.hand at)) refused

-- before anything is known of what is wanted after it
pub first_unwritten : {W X Y : Type 0} {sink : Ghosts W} {old new : W} {e : Error} {a : Hand → Result (List ℕ) Error}
    (b : Hand → Result (List ℕ) Error)
    → Writes {X = X} sink old new (Err e) a
    → Writes {X = Y} sink old new (Err e) (λ hand. result_append (a hand) (b hand))
first_unwritten {e = e} {a = a} b refused =
    only_unwritten a _ (λ hand. first_refused _ _ e) refused

-- where bytes are wanted, for memory, or as the writer refuses, whatever is wanted of the whole
never : {A : Type 0} {e : Error} {xs : List ℕ} → (let r : Result (List ℕ) Error = Ok xs in r) ≡ Err e → A
never is = absurd cc

pub bytes_unwritten : {W X Y : Type 0} {sink : Ghosts W} {old new : W} {e : Error} {xs : List ℕ} {wanted : Hand
    → Result (List ℕ) Error}
    → Writes {X = X} sink old new (Err e) (always (Ok xs)) → Writes {X = Y} sink old new (Err e) wanted
bytes_unwritten {xs = xs} {wanted = wanted} refused = only_unwritten _ _ (λ hand. never) refused

pub unwritten : {W X Y Z : Type 0} {sink : Ghosts W} {old mid new : W} {x : X} {e : Error} {ys : List ℕ} {first_wanted
    wanted : Hand
    → Result (List ℕ) Error}
    → Writes sink old mid (Ok x) first_wanted → Writes {X = Y} sink mid new (Err e) (always (Ok ys))
    → Writes {X = Z} sink old new (Err e) wanted
unwritten first refused =
    later_unwritten _ _ first.keeps first.ordered first.stays first.unrefused (λ keeps_bytes. never)
    (λ at completes. never) refused

-- what a length counts
pub counted_unwritten : {W X Y : Type 0} {sink : Ghosts W} {old mid new : W} {e : Error} {body : Hand
    → Result (List ℕ) Error}
    (full : ℕ → Result (List ℕ) Error) → Begins (sink.contents old) (sink.contents mid)
    → sink.is_big mid ≡ sink.is_big old
    → (IsTrue (sink.completes old) → IsTrue (sink.completes mid))
    → (IsTrue (sink.unrefused old) → IsTrue (sink.unrefused mid)) → Writes {X = X} sink mid new (Err e) body
    → Writes {X = Y} sink old new (Err e) (λ hand. after_length full (body hand))
counted_unwritten {body = body} full begins same stays unrefused refused =
    later_unwritten _ _ begins same stays unrefused (λ keeps_bytes. ap (after_length full))
    (λ at completes. ap (after_length full)) refused

-- ---- the parts of a list

-- the parts so far are written, and those of `left` aren't
pub record WritesSoFar {W A : Type 0} (sink : Ghosts W) (part : Hand → A → Result (List ℕ) Error) (all left : List A)
    (old new : W) : Type 0 where
  pub keeps : Begins (sink.contents old) (sink.contents new)
  pub ordered : sink.is_big new ≡ sink.is_big old
  pub stays : IsTrue (sink.completes old) → IsTrue (sink.completes new)
  pub unrefused : IsTrue (sink.unrefused old) → IsTrue (sink.unrefused new)
  pub held : IsTrue sink.keeps_bytes → SoFar (part plain) all left (sink.contents old) (sink.contents new)
  pub linked : (at : Placement) → IsTrue (sink.completes old)
      → SoFar (part (sink.hand at)) all left (sink.completed at old) (sink.completed at new)

pub none_written : {W A : Type 0} (sink : Ghosts W) (part : Hand → A → Result (List ℕ) Error) (all : List A) (old : W)
    → WritesSoFar sink part all all old old
none_written sink part all old = record {
  keeps = begins_self _;
  ordered = refl;
  stays = λ completes. completes;
  unrefused = λ unrefused. unrefused;
  held = λ keeps_bytes. none_so_far _ _ _;
  linked = λ at completes. none_so_far _ _ _;
}

pub one_written : {W A X : Type 0} {sink : Ghosts W} {part : Hand → A → Result (List ℕ) Error} {all left : List A}
    {x : A} {old mid new : W} {y : X}
    → WritesSoFar sink part all (x ∷ left) old mid → Writes sink mid new (Ok y) (λ hand. part hand x)
    → WritesSoFar sink part all left old new
one_written {sink = sink} {part = part} {all = all} {left = left} {x = x} so more = record {
  keeps = begins_then _ _ _ so.keeps more.keeps;
  ordered = more.ordered ∙ so.ordered;
  stays = λ completes. more.stays (so.stays completes);
  unrefused = λ unrefused. more.unrefused (so.unrefused unrefused);
  held = λ keeps_bytes. one_more _ _ _ x _ _ _ (so.held keeps_bytes) (more.ok keeps_bytes);
  linked = λ at completes. one_more _ _ _ x _ _ _ (so.linked at completes) (more.completed at (so.stays completes));
}

pub one_unwritten : {W A X Y : Type 0} {sink : Ghosts W} {part : Hand → A → Result (List ℕ) Error}
    {all left : List A} {x : A} {old mid new : W} {e : Error}
    → WritesSoFar sink part all (x ∷ left) old mid → Writes {X = X} sink mid new (Err e) (λ hand. part hand x)
    → Writes {X = Y} sink old new (Err e) (λ hand. result_concat (part hand) all)
one_unwritten {sink = sink} {part = part} {all = all} {left = left} {x = x} {e = e} so refused =
    later_unwritten _ _ so.keeps so.ordered so.stays so.unrefused
    (λ keeps_bytes. part_refused _ _ _ x _ _ e (so.held keeps_bytes))
    (λ at completes. part_refused _ _ _ x _ _ e (so.linked at completes)) refused

pub nothing : {W X : Type 0} {sink : Ghosts W} {w : W} {x : X} → Writes sink w w (Ok x) (always (Ok []))
nothing = record {
  keeps = begins_self _;
  ordered = refl;
  stays = λ completes. completes;
  unrefused = λ unrefused. unrefused;
  ok = λ keeps_bytes. sym (append-nil _);
  err = λ keeps_bytes memory_alone. tt;
  own = λ keeps_bytes. tt;
  completed = λ at completes. sym (append-nil _);
  completed_own = λ at completes. tt;
}

-- ---- a call that may be refused for memory of its own

own_or_memory : {A B C : Type 0} → B ⊎ C → (A ⊎ B) ⊎ C
own_or_memory (inl own) = inl (inr own)
own_or_memory (inr wanted) = inr wanted

pub refused_or_memory : {W X Y : Type 0} {sink : Ghosts W} {old new : W} {e : Error} {wanted : Hand
    → Result (List ℕ) Error}
    → Writes {X = X} sink old new (Err e) wanted
    → WritesOr {X = Y} sink (OfMemoryOr (IsOwn sink old)) old new (Err e) wanted
refused_or_memory so = record {
  keeps = so.keeps;
  ordered = so.ordered;
  stays = so.stays;
  unrefused = so.unrefused;
  ok = λ keeps_bytes. tt;
  err = so.err;
  own = λ keeps_bytes. own_or_memory (so.own keeps_bytes);
  completed = λ at completes. tt;
  completed_own = λ at completes. own_or_memory (so.completed_own at completes);
}
