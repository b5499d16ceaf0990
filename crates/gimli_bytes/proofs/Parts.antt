-- Appends one after the other.
use Rattle.std.specs.Prelude.{◌≡◌, ◌≤◌, ◌++◌, ◌⊎◌, min}
use Rattle.std.proofs.lemmas.List.{take-take}
use Rattle.gimli_bytes.specs.Written.{IsAppendInParts}
use Rattle.gimli_bytes.proofs.Common
use Common.{ℕ, Bool, List, Ok, Err, Result, Error, IsTrue, inl, inr, length, length-take, sym, ap, ◌∙◌, append_assoc}
use Common.{arith, take, take_all, Begins, IsAppend}
use Rattle.gimli_bytes.specs.declared.sink.Sink.{Ghosts}

-- where nothing is written
pub begins_self : (old : List ℕ) → Begins old old
begins_self old = take_all (length old) old (omega arith)

pub begins_then : (a b c : List ℕ) → Begins a b → Begins b c → Begins a c
begins_then a b c first second =
    let size : min (length a) (length b) ≡ length a = sym (length-take _ b) ∙ ap length first in
    let le : length a ≤ length b = omega (arith, size) in
    sym (take-take _ _ c le) ∙ ap (λ l. take (length a) l) second ∙ first

-- where bytes are wanted, the refusal is the writer's own
handed_on : {A : Type 0} {e : Error} {bytes : List ℕ}
    → A ⊎ ((let r : Result (List ℕ) Error = Ok bytes in r) ≡ Err e) → A
handed_on (inl own) = own
handed_on (inr is) = absurd cc

-- one that is refused, after what is written so far
pub refused_after : {W X Y : Type 0} {sink : Ghosts W} {old mid new : W} {e : Error} (part whole : List ℕ)
    → Begins (sink.contents old) (sink.contents mid) → sink.is_big mid ≡ sink.is_big old
    → (IsTrue (sink.completes old) → IsTrue (sink.completes mid))
    → (IsTrue (sink.unrefused old) → IsTrue (sink.unrefused mid))
    → IsAppend {X = X} sink mid new (Err e) (λ hand. Ok part)
    → IsAppendInParts {X = Y} sink old new (Err e) whole
refused_after {mid = mid} part whole keeps ordered stays unrefused refused = record {
  keeps = begins_then _ _ _ keeps refused.keeps;
  ordered = refused.ordered ∙ ordered;
  stays = λ completes. refused.stays (stays completes);
  unrefused = λ before. tt;
  ok = λ keeps_bytes. tt;
  completed = λ at completes. tt;
  err = refused.err;
  own = record {
    state = mid;
    bytes = Ok part;
    keeps = keeps;
    unrefused = unrefused;
    returned = handed_on refused.own;
  };
}

-- both are written
both : (old first second mid new : List ℕ) → mid ≡ old ++ first → new ≡ mid ++ second
    → new ≡ old ++ (first ++ second)
both old first second mid new before after =
    after ∙ ap (λ l. l ++ second) before ∙ append_assoc old first second

pub written_after : {W X Y Z : Type 0} {sink : Ghosts W} {old mid new : W} {x : X} {y : Y} {z : Z} (first : List ℕ)
    (second : Bool → List ℕ) → IsAppend sink old mid (Ok x) (λ hand. Ok first)
    → IsAppend sink mid new (Ok y) (λ hand. Ok (second (sink.is_big mid)))
    → IsAppendInParts sink old new (Ok z) (first ++ second (sink.is_big old))
written_after {sink = sink} {old = old} {mid = mid} {new = new} first second before after = record {
  keeps = begins_then _ _ _ before.keeps after.keeps;
  ordered = after.ordered ∙ before.ordered;
  stays = λ completes. after.stays (before.stays completes);
  unrefused = λ unrefused. after.unrefused (before.unrefused unrefused);
  ok = λ keeps_bytes. both (sink.contents old) first (second (sink.is_big old)) (sink.contents mid) (sink.contents new)
      (before.ok keeps_bytes)
      (after.ok keeps_bytes ∙ ap (λ (b : Bool). sink.contents mid ++ second b) before.ordered);
  completed = λ at completes. both (sink.completed at old) first (second (sink.is_big old)) (sink.completed at mid)
      (sink.completed at new) (before.completed at completes)
      (after.completed at (before.stays completes)
      ∙ ap (λ (b : Bool). sink.completed at mid ++ second b) before.ordered);
  err = λ memory_alone. tt;
  own = tt;
}
