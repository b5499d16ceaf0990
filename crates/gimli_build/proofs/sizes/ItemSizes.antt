-- How many bytes items have.
use Rattle.std.specs.Prelude.{◌≡◌, ◌+◌, ◌-◌, ◌^◌, ◌<◌, ◌≤◌, ◌∷◌, ◌++◌}
use Rattle.gimli_build.proofs
use proofs.Common
use Common.{ℕ, Bool, List, [], length, map, min, Ok, Err, refl, sym, ap, ◌∙◌, arith, IsTrue, None, is_address_size}
use Common.{Encoding}
use Common.{LineEncoding, plain, Constant, Symbol, Error, Result, LineRow, BuiltItem, SetAddress, Row, End, uleb}
use Common.{uleb_one, udata, refusal, item_bytes, items_bytes, next_previous, size_of, result_map}
use Common.{initial_row, first_of, item_cause, Ins, SetDiscriminator, instruction_bytes, instructions_bytes}
use Rattle.std.proofs.lemmas.List.{length-append}
use Rattle.std.proofs.Math.Nat.{min-eq_left}
use Rattle.gimli_bytes.proofs.RelocationLemmas.{length-number}
use Rattle.gimli_build.specs.Refused.{items_seen, without_symbol}
use Rattle.gimli_build.specs.declared.unit.refusal.Symbols.{Symbols}
use Rattle.gimli_build.specs.declared.unit.refusal.Symbols.TheVariants.{Taken, Refused}
use Rattle.gimli_build.specs.inside.ItemSizes.{item_size, items_size}
use proofs.sizes.Saturated.{saturated}
use proofs.sizes.UnitSizes.{HasSize, size_as, size_of_ok, size_of_none, size_tested, size_joined}
use proofs.refusals.Causes.{items-refusal}
use proofs.writing.InstructionsWritten.{bytes_append}

-- ---- instructions

pub discriminator_size : (n size : ℕ) → size ≡ length (uleb n) → size ≤ 10
    → 3 + size ≡ length (instruction_bytes (SetDiscriminator n))
discriminator_size n size is short =
    rw (uleb_one (length (uleb n) + 1) (omega arith)) (omega arith)

pub four_sizes : (f g h k : List Ins) (a b c d : ℕ) → a ≡ length (instructions_bytes f)
    → b ≡ length (instructions_bytes g) → c ≡ length (instructions_bytes h) → d ≡ length (instructions_bytes k)
    → a + b + c + d ≡ length (instructions_bytes (f ++ g ++ h ++ k))
four_sizes f g h k a b c d first second third fourth =
    rw (bytes_append (f ++ g ++ h) k, bytes_append (f ++ g) h, bytes_append f g) (grind (arith, length-append))

-- ---- one item

small_size : (size : ℕ) → IsTrue (is_address_size size) → size < 10
small_size size known = grind arith

number_size : (is_big : Bool) (a size : ℕ) → HasSize (udata is_big a size) size
number_size is_big a size = grind (arith, length-number, size_as, size_tested, size_of_none)

opened_size : (size : ℕ) (operand : List ℕ) → size < 10
    → length (0 ∷ uleb (size + 1) ++ 2 ∷ operand) ≡ 3 + length operand
opened_size size operand small = rw (uleb_one (size + 1) (omega arith)) (omega arith)

seen_size : (size n : ℕ) (written : Result (List ℕ) Error) → size < 10 → HasSize written n
    → HasSize (result_map (λ operand. 0 ∷ uleb (size + 1) ++ 2 ∷ operand) written) (3 + n)
seen_size size n (Ok operand) small sized =
    size_as _ _ _ (opened_size size operand small ∙ ap (λ k. 3 + k) (sized operand refl))
    (size_of_ok _)
seen_size size n (Err e) small sized = size_of_none e _

module _ (is_big : Bool) (encoding : Encoding) (e : LineEncoding)
    (known : IsTrue (is_address_size encoding.address_size)) where
  one_size : (previous : LineRow) (item : BuiltItem)
      → HasSize (item_bytes plain is_big encoding e previous item) (item_size encoding e previous item)
  one_size previous (SetAddress (Constant a)) =
      let size = encoding.address_size in
      seen_size size size (udata is_big a size) (small_size size known) (number_size is_big a size)
  one_size previous (SetAddress (Symbol s d)) = size_of_none _ _
  one_size previous (Row r) = size_of_ok _
  one_size previous (End o i) = size_of_ok _

  -- ---- items

  all_sizes : (previous : LineRow) (items : List BuiltItem)
      → HasSize (items_bytes plain is_big encoding e previous items) (items_size encoding e previous items)
  all_sizes previous [] = size_of_ok _
  all_sizes previous (item ∷ items) = size_joined _ _ _ _ (one_size previous item)
      (all_sizes (next_previous encoding.version e.default_is_stmt previous item) items)

  sized : (written : Result (List ℕ) Error) (n : ℕ) → HasSize written n → refusal written ≡ None → size_of written ≡ n
  sized (Ok bytes) n has is = has bytes refl
  sized (Err d) n has is = absurd cc

  pub items-size : (previous : LineRow) (items : List BuiltItem)
      → first_of (map (item_cause encoding.address_size) items) ≡ None
      → size_of (items_bytes plain is_big encoding e previous items) ≡ items_size encoding e previous items
  items-size previous items none =
      sized _ _ (all_sizes previous items) (items-refusal is_big encoding e known previous items ∙ none)

-- the address 0 is as long as a symbol
taken_size : (encoding : Encoding) (e : LineEncoding) (previous : LineRow) (items : List BuiltItem)
    → items_size encoding e previous (map without_symbol items) ≡ items_size encoding e previous items
taken_size encoding e previous [] = refl
taken_size encoding e previous (SetAddress (Constant a) ∷ items) =
    let next : LineRow = record previous { address_offset = 0; op_index = 0 } in
    ap (λ n. 3 + encoding.address_size + n) (taken_size encoding e next items)
taken_size encoding e previous (SetAddress (Symbol s d) ∷ items) =
    let next : LineRow = record previous { address_offset = 0; op_index = 0 } in
    ap (λ n. 3 + encoding.address_size + n) (taken_size encoding e next items)
taken_size encoding e previous (Row r ∷ items) =
    ap (λ n. item_size encoding e previous (Row r) + n) (taken_size encoding e r items)
taken_size encoding e previous (End o i ∷ items) =
    let next = initial_row encoding.version e.default_is_stmt in
    ap (λ n. item_size encoding e previous (End o i) + n) (taken_size encoding e next items)

pub seen-size : (symbols : Symbols) (encoding : Encoding) (e : LineEncoding) (previous : LineRow)
    (items : List BuiltItem)
    → items_size encoding e previous (items_seen symbols items) ≡ items_size encoding e previous items
seen-size Taken encoding e previous items = taken_size encoding e previous items
seen-size Refused encoding e previous items = refl

-- a sum of items and of those that are left, one item later
pub nearer : (sum own rest new size : ℕ) → new ≡ min (sum + size) (2 ^ 64 - 1) → size ≡ own
    → min (new + rest) (2 ^ 64 - 1) ≡ min (sum + (own + rest)) (2 ^ 64 - 1)
nearer sum own rest new size is same =
    let m : ℕ = 2 ^ 64 - 1 in
    ap (λ n. min (n + rest) m) (is ∙ ap (λ n. min (sum + n) m) same) ∙ saturated (sum + own) rest m
    ∙ ap (λ n. min n m) (omega arith)

-- the sum of none
pub from_nothing : (n m : ℕ) → min (0 + n) m ≡ min n m
from_nothing n m = ap (λ k. min k m) (omega arith)

-- the sum of all
pub reached : (sum whole m : ℕ) → sum ≤ m → min (sum + 0) m ≡ min whole m → sum ≡ min whole m
reached sum whole m small is = sym (ap (λ k. min k m) (omega arith) ∙ min-eq_left small) ∙ is
