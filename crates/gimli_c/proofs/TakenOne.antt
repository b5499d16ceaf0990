-- Items that are taken one by one, and put into an array of the caller.
use Rattle.std.proofs.Common.{◌≡◌, ◌≤◌, ◌<◌, ℕ, ◌+◌, List, [], ◌∷◌, length, take, drop, get_or, refl, sym, ap, ◌∙◌, inr}
use Rattle.std.proofs.Common.{arith}
use Rattle.std.specs.Prelude.{Some, slice_get}
use Rattle.std.proofs.lemmas.List.{drop_more, length-drop}
use Rattle.std.proofs.lemmas.Option.{slice_get-get_or}
use Rattle.gimli_c.specs.Written.{slots_with}
use Rattle.gimli_c.proofs.Arrays.{written_take}

module _ {A : Type 0} (xs : List A) (n : ℕ) (x : A) (rest : List A) (is : drop n xs ≡ x ∷ rest) where
  pub within : n < length xs
  within = let count = ap (λ (ys : List A). length ys) is in omega (arith, count, length-drop n xs)

  -- the item that comes next, and what comes after it
  pub next_item : slice_get xs n ≡ Some x
  next_item =
      slice_get-get_or xs n x within
      ∙ ap (λ (y : A). Some y) (ap (λ (ys : List A). get_or ys 0 x) (sym (drop_more xs n x within) ∙ is))

  pub rest_items : rest ≡ drop (n + 1) xs
  rest_items = sym (ap (λ (ys : List A). drop 1 ys) (sym (drop_more xs n x within) ∙ is))

pub no_item : {A : Type 0} (xs : List A) (n : ℕ) → drop n xs ≡ [] → length xs ≤ n
no_item xs n is = let count = ap (λ (ys : List _). length ys) is in omega (arith, count, length-drop n xs)

-- an array keeps its length
slots_length : {A : Type 0} (xs old : List A) → length (slots_with xs old) ≡ length old
slots_length xs [] = refl
slots_length [] (o ∷ old) = refl
slots_length (x ∷ xs) (o ∷ old) = let rest = slots_length xs old in omega (arith, rest)

-- one more that there is no room for
pub past_room : {A : Type 0} (xs old now : List A) (n : ℕ) → length now ≤ n → now ≡ slots_with (take n xs) old
    → now ≡ slots_with (take (n + 1) xs) old
past_room xs old now n past so_far =
    let same = ap (λ (ys : List _). length ys) so_far ∙ slots_length (take n xs) old in
    so_far ∙ written_take n xs old (inr (omega (arith, same, past)))
    ∙ sym (written_take (n + 1) xs old (inr (omega (arith, same, past))))
