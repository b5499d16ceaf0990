-- Signed LEB128 numbers of one byte and of two.
use Rattle.std.specs.Prelude.{◌≡◌, ◌+◌, ◌*◌, ◌%◌, ◌<◌, ◌≤◌, if◌then◌else◌, ◌-ℤ◌, ◌+ℤ◌, ◌*ℤ◌}
use Rattle.std.proofs.lemmas.Bool.{lt-ltb, le-ltb}
use Rattle.std.proofs.lemmas.Int.{ints}
use Rattle.gimli_core.proofs.Leb.{byte_ok}
use Rattle.gimli_core.specs.Reading.{byte_at, sleb_at, signed_at}
use Rattle.gimli_line.proofs.Common.{ℕ, ℤ, pos, Bool, true, false, List, Ok, refl, arith, to_z, of_z, w64, nat_le}

abbrev sign : ℕ → ℕ
sign b = if nat_le 64 b then 128 else 0

pub one_signed : (z : ℤ) (b : ℕ) (bytes rest : List ℕ) → b < 128 → z ≡ pos b -ℤ pos (sign b)
    → (Ok b, rest) ≡ byte_at bytes
    → (Ok (to_z w64 (of_z w64 z)), rest) ≡ signed_at bytes
unfolding sleb_at
one_signed z b bytes rest lt is e = rw (byte_ok b rest bytes e, lt-ltb b 128 lt, is, at b (nat_le 64 b) lt) refl
  where
    at : (b : ℕ) (negative : Bool) → b < 128
        → to_z w64 (of_z w64 (pos b -ℤ pos (if negative then 128 else 0))) ≡ pos b -ℤ pos (if negative then 128 else 0)
    at b true lt = omega (arith, ints, lt)
    at b false lt = omega (arith, ints, lt)

number : (a b : ℕ) (negative : Bool) → 128 ≤ a → a < 256 → b < 128
    → to_z w64 (of_z w64 (to_z w64 (of_z w64 (to_z w64 (of_z w64 (pos a)) -ℤ pos 128))
    +ℤ to_z w64 (of_z w64 (pos 128 *ℤ to_z w64 (of_z w64 (pos b -ℤ pos (if negative then 128 else 0)))))))
    ≡ pos (a % 128 + 128 * b) -ℤ pos (128 * (if negative then 128 else 0))
number a b true le below lt = omega (arith, ints)
number a b false le below lt = omega (arith, ints)

pub two_signed : (f z : ℤ) (a b : ℕ) (bytes middle rest : List ℕ) → 128 ≤ a → a < 256 → b < 128 → f ≡ pos a
    → z ≡ pos b -ℤ pos (sign b)
    → (Ok a, middle) ≡ byte_at bytes → (Ok b, rest) ≡ byte_at middle
    → (
      Ok (to_z w64 (of_z w64 (to_z w64 (of_z w64 (to_z w64 (of_z w64 f) -ℤ pos 128))
          +ℤ to_z w64 (of_z w64 (pos 128 *ℤ to_z w64 (of_z w64 z)))))),
      rest,
    )
    ≡ signed_at bytes
unfolding sleb_at
two_signed f z a b bytes middle rest le below lt first is e d =
    rw (
      byte_ok a middle bytes e,
      byte_ok b rest middle d,
      le-ltb a 128 le,
      lt-ltb b 128 lt,
      first,
      is,
      number a b (nat_le 64 b) le below lt,
    )
    refl
