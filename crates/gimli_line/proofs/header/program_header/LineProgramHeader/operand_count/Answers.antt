use Rattle.std.specs.Prelude.{◌≡◌, ◌∷◌}
use Rattle.std.specs.Result.{result_unwrap_or}
use Rattle.std.proofs.lemmas.List.{get_or_past}
use Rattle.gimli_core.specs.Reading.{skip_at}
use Rattle.gimli_line.proofs
use proofs.Common.{read_of, ℕ, zero, suc, List, [], Result, Ok, Err, Error, Read, byte_at, drop, refl, ◌∙◌, arith}
use proofs.Common.{slice_index}
use proofs.header.program_header.LineProgramHeader.operand_count.Goals as goal

first : (xs : List ℕ) (n : ℕ) → result_unwrap_or (byte_at (drop n xs)).0 0 ≡ slice_index xs n
first [] zero = refl
first [] (suc n) = refl
first (x ∷ xs) zero = refl
first (x ∷ xs) (suc n) = first xs n

module _ (xs after : List ℕ) (n : ℕ) where
  counted : (r : Result ℕ Error) (left : List ℕ) → ◌≡◌ {A = Read (Unit {0})} (Ok tt, after) (skip_at n xs)
      → (r, left) ≡ byte_at after
      → result_unwrap_or r 0 ≡ slice_index xs n
  counted r left is one = let e : after ≡ drop n xs = grind arith in rw (← first xs n, ← e, ← one) refl

  missing : (e : Error) → ◌≡◌ {A = Read (Unit {0})} (Err e, after) (skip_at n xs) → 0 ≡ slice_index xs n
  missing e is = grind (arith, get_or_past)

pub returns-in-Ok : goal.returns-in-Ok
returns-in-Ok g c = rw (← c.self.view_is, ← c.from_u8.ensures)
    (c.unwrap_or.ensures ∙ counted _ _ _ _ _ (read_of c.in-Ok.ensures) (read_of c.read_u8.ensures))

pub returns-in-Err : goal.returns-in-Err
returns-in-Err g c = rw (← c.self.view_is, ← c.from_u8.ensures) (missing _ _ _ _ (read_of c.in-Err.ensures))
