-- Answers that take the place of what was asked, one after the other.
use Rattle.std.proofs.Common.{◌≡◌, ℕ, suc, ◌+◌, ◌<◌, ◌≤◌, List, [], ◌∷◌, ◌++◌, length, take, drop, set, get_or, sym, ap}
use Rattle.std.proofs.Common.{subst, ◌∙◌, refl, arith, append_assoc}
use Rattle.std.proofs.Common.{drop_of_length-le}
use Rattle.std.specs.List.{AllZip}
use Rattle.std.proofs.Math.Seq.{drop-cons, get_or-append_seam, set-append_seam}
use Rattle.std.proofs.lemmas.List.{length-take-le, take_all, take_more, append-nil}
use Rattle.std.proofs.lemmas.Slice.Zip.{all_zipped_more, AllZip-long}

-- the first so many of a list are answered, and the others are as they were
pub record AreAnswered {A : Type 0} (R : A → A → Type 0) (n : ℕ) (old now : List A) : Type 0 where
  pub answers : List A
  pub each : AllZip R (take n old) answers
  pub now_is : now ≡ answers ++ drop n old

pub none_answered : {A : Type 0} (R : A → A → Type 0) (old : List A) → AreAnswered R 0 old old
none_answered R old = record { answers = []; each = tt; now_is = refl }

module _ {A : Type 0} (R : A → A → Type 0) (old now : List A) (n : ℕ) (w : AreAnswered R n old now) where
  many : n ≤ length old → n ≡ length w.answers
  many le = omega (arith, AllZip-long R (take n old) w.answers w.each, length-take-le n old le)

  -- the next one is as it was
  split : (d : A) → n < length old → now ≡ w.answers ++ get_or old n d ∷ drop (suc n) old
  split d lt = w.now_is ∙ ap (λ xs. w.answers ++ xs) (drop-cons old n d lt)

  next_asked : (d : A) → n < length old → get_or now n d ≡ get_or old n d
  next_asked d lt =
      ap (λ xs. get_or xs n d) (split d lt)
      ∙ ap (λ k. get_or (w.answers ++ get_or old n d ∷ drop (suc n) old) k d) (many (omega (arith, lt)))
      ∙ get_or-append_seam w.answers (get_or old n d) (drop (suc n) old) d

  pub one_more_answered : (d y : A) → n < length old → R (get_or now n d) y → AreAnswered R (n + 1) old (set now n y)
  one_more_answered d y lt r = record {
    answers = w.answers ++ y ∷ [];
    each = subst (λ xs. AllZip R xs (w.answers ++ y ∷ [])) (sym (take_more old n d lt))
        (all_zipped_more R (take n old) w.answers (get_or old n d) y w.each (subst (λ x. R x y) (next_asked d lt) r));
    now_is =
        ap (λ xs. set xs n y) (split d lt)
        ∙ ap (λ k. set (w.answers ++ get_or old n d ∷ drop (suc n) old) k y) (many (omega (arith, lt)))
        ∙ set-append_seam w.answers (get_or old n d) (drop (suc n) old) y
        ∙ sym (append_assoc w.answers (y ∷ []) (drop (suc n) old))
        ∙ ap (λ k. (w.answers ++ y ∷ []) ++ drop k old) (let same : suc n ≡ n + 1 = omega arith in same);
  }

  pub all_answered : length old ≤ n → AllZip R old now
  all_answered le = subst (λ xs. AllZip R xs now) (take_all n old le)
      (subst (λ ys. AllZip R (take n old) ys)
      (sym (w.now_is ∙ ap (λ xs. w.answers ++ xs) (drop_of_length-le old le) ∙ append-nil w.answers)) w.each)

all_zipped_on : {A : Type 0} (R Q : A → A → Type 0) → ((x y : A) → R x y → Q x y) → (xs ys : List A)
    → AllZip R xs ys → AllZip Q xs ys
all_zipped_on R Q on [] [] w = tt
all_zipped_on R Q on [] (y ∷ ys) w = absurd w
all_zipped_on R Q on (x ∷ xs) [] w = absurd w
all_zipped_on R Q on (x ∷ xs) (y ∷ ys) w = (on x y w.0, all_zipped_on R Q on xs ys w.1)

-- answers of one kind that are of another one too
pub answered_on : {A : Type 0} (R Q : A → A → Type 0) → ((x y : A) → R x y → Q x y) → (n : ℕ) (old now : List A)
    → AreAnswered R n old now → AreAnswered Q n old now
answered_on R Q on n old now w = record {
  answers = w.answers;
  each = all_zipped_on R Q on (take n old) w.answers w.each;
  now_is = w.now_is;
}
