-- Reading a text up to its zero byte.
use Rattle.std.proofs.Common.{◌≡◌, ℕ, ◌<◌, List, ◌++◌, length, take, Ok, Err, sym, ap, arith, inl, inr}
use Rattle.std.proofs.lemmas.Bool.{cases_lt, le-ltb, lt-ltb}
use Rattle.std.proofs.lemmas.List.{length-drop, take-append-drop}
use Rattle.gimli_core.specs.declared.error.Error.{Error}
use Rattle.gimli_core.specs.Reading.{Read, find_at, split_at, skip_at}

-- a byte that is found stands within the bytes
pub found_within : (byte n : ℕ) (bytes : List ℕ) → Ok n ≡ find_at byte bytes → n < length bytes
found_within byte n bytes e =
    grind (arith, cases_lt, lt-ltb, le-ltb)

-- what is left after a skip is an end of the bytes
pub skip_front : (n : ℕ) (bytes rest : List ℕ) → ◌≡◌ {A = Read (Unit {0})} (Ok tt, rest) (skip_at n bytes)
    → (front : List ℕ) × (bytes ≡ front ++ rest)
skip_front n bytes rest e = elim (cases_lt (length bytes) n) [
  | inl lt ↦ grind (arith, lt-ltb)
  | inr le ↦
      let left =
      ap (λ r. r.1) (rw (le-ltb (length bytes) n le, skip_at) at e) in
      (take n bytes, sym (rw left (take-append-drop n bytes)))
]

-- so the byte itself can be skipped, after those before it
pub skip_refuses_not : (n one : ℕ) (bytes text mid rest : List ℕ) (e : Error) → n < length bytes → one ≡ 1
    → ◌≡◌ {A = Read (List ℕ)} (Ok text, mid) (split_at n bytes)
    → ◌≡◌ {A = Read (Unit {0})} (Err e, rest) (skip_at one mid) → ⊥
skip_refuses_not n one bytes text mid rest e lt is taken refused =
    grind (arith, le-ltb, length-drop)
