-- Reading a signed LEB128 number, one byte after another.
use Rattle.std.proofs.Common.{◌≡◌, ℕ, zero, suc, ◌+◌, ◌-◌, ◌*◌, ◌%◌, ◌^◌, ◌<◌, ◌≤◌, Bool, true, false, if◌then◌else◌}
use Rattle.std.proofs.Common.{List, [], ◌∷◌, Ok, Err, refl, sym, ap, ◌∙◌, arith, nat_eq}
use Rattle.std.specs.Prelude.{ℤ, pos, ◌-ℤ◌, nat_le}
use Rattle.std.proofs.Math.Nat.{mul-zero}
use Rattle.std.proofs.lemmas.Bool.{le-ltb, lt-ltb, eqb-true}
use Rattle.std.proofs.lemmas.Int.{ints}
use Rattle.gimli_core.specs
use specs.declared.error.Error.{Error}
use specs.Reading.{Read, ◌>>=◌, Difference, byte_at, sleb_at, eof}
use specs.inside.Reading.{tenth_at}
use Rattle.gimli_core.proofs.Leb.{ok, err, byte_ok, byte_err, pow_next}

abbrev pub ok_z : List ℕ → ℤ → Read ℤ
ok_z rest z = (Ok z, rest)

abbrev pub err_z : Error → List ℕ → Read ℤ
err_z e rest = (Err e, rest)

abbrev pub difference : Difference → ℤ
difference z = pos z.0 -ℤ pos z.1

-- low bits below those that are still to be read
abbrev pub grown_z : ℕ → ℕ → Read Difference → Read ℤ
grown_z scale low (Ok high, rest) = (Ok (difference (low + scale * high.0, scale * high.1)), rest)
grown_z scale low (Err e, rest) = (Err e, rest)

grown_z_more : (scale low b : ℕ) (r : Read Difference)
    → grown_z scale low (r >>= λ high rest. (Ok (b % 128 + 128 * high.0, 128 * high.1), rest))
    ≡ grown_z (scale * 128) (low + scale * (b % 128)) r
grown_z_more scale low b (Ok x, rest) =
    grind arith
grown_z_more scale low b _ = refl

more_byte : (scale low b more : ℕ) (bytes : List ℕ) → 128 ≤ b →
    grown_z scale low (sleb_at (suc more) (b ∷ bytes))
    ≡ grown_z (scale * 128) (low + scale * (b % 128)) (sleb_at more bytes)
unfolding sleb_at
more_byte scale low b more bytes le = rw (le-ltb b 128 le) (grown_z_more scale low b (sleb_at more bytes))

last_byte : (scale low b more : ℕ) (bytes : List ℕ) → b < 128 →
    grown_z scale low (sleb_at (suc more) (b ∷ bytes))
    ≡ ok_z bytes (pos (low + scale * (b % 128)) -ℤ pos (if nat_le 64 b then scale * 128 else 0))
unfolding sleb_at
last_byte scale low b more bytes lt =
    let small : b % 128 ≡ b = omega arith in
    rw (lt-ltb b 128 lt, small) (sign scale low b (nat_le 64 b) bytes)
  where
    sign : (scale low b : ℕ) (negative : Bool) (bytes : List ℕ)
        → grown_z scale low (Ok (b, if negative then 128 else 0), bytes)
        ≡ ok_z bytes (pos (low + scale * b) -ℤ pos (if negative then scale * 128 else 0))
    sign scale low b true bytes = refl
    sign scale low b false bytes = rw mul-zero refl

at_end : (more : ℕ) → sleb_at more [] ≡ (Err (eof []), [])
unfolding sleb_at
at_end zero = refl
at_end (suc more) = refl

-- ---- the tenth byte

tenth : (value b : ℕ) (rest : List ℕ) (zero_last minus_one_last : Bool) → nat_eq b 0 ≡ zero_last
    → nat_eq b 127 ≡ minus_one_last
    → grown_z (2 ^ (7 * 9)) value (sleb_at 0 (b ∷ rest)) ≡ (tenth_at value b, rest)
unfolding sleb_at
tenth value b rest true m is is_m =
    let same : b ≡ 0 = eqb-true b 0 is in
    let sum : value + 2 ^ (7 * 9) * 0 ≡ value = omega arith in
    rw same (ap (λ (n : ℕ). ok_z rest (pos n -ℤ pos 0)) sum ∙ ap (ok_z rest) (minus_nothing value))
  where
    minus_nothing : (n : ℕ) → pos n -ℤ pos 0 ≡ pos n
    minus_nothing n = omega (arith, ints)
tenth value b rest false true is is_m =
    let same : b ≡ 127 = eqb-true b 127 is_m in
    rw same (ap (ok_z rest) (minus_one value))
  where
    minus_one : (n : ℕ) → pos (n + 2 ^ (7 * 9) * 127) -ℤ pos (2 ^ (7 * 9) * 128) ≡ pos n -ℤ pos (2 ^ 63)
    minus_one n = omega (arith, ints)
tenth value b rest false false is is_m = rw (is, is_m) refl

-- ---- the exits of the loop, and a turn

module _ (value : ℕ) (bytes : List ℕ) (total : Read ℤ) where
  pub ends_err : (group : ℕ) (x : Error) (rest : List ℕ)
      → grown_z (2 ^ (7 * group)) value (sleb_at (9 - group) bytes) ≡ total → err x rest ≡ byte_at bytes
      → err_z x rest ≡ total
  ends_err group x rest so_far e =
      let p = byte_err x rest bytes e in
      let q : grown_z _ value _ ≡ err_z _ [] = rw (p.0, at_end) refl in
      rw (p.1, p.2) (sym q ∙ so_far)

  pub ends_ok : (group b : ℕ) (rest : List ℕ) → grown_z (2 ^ (7 * group)) value (sleb_at (9 - group) bytes) ≡ total
      → group < 9 → b < 128
      → ok rest b ≡ byte_at bytes
      → ok_z rest (pos (value + 2 ^ (7 * group) * (b % 128)) -ℤ pos (if nat_le 64 b then 2 ^ (7 * (group + 1)) else 0))
      ≡ total
  ends_ok group b rest so_far lt small e =
      let p = byte_ok b rest bytes e in
      let k : 9 - group ≡ suc (9 - (group + 1)) = omega arith in
      let q : grown_z _ value _
      ≡ ok_z rest
      _ =
      rw (k, p) (last_byte _ value b _ rest small) in
      rw (pow_next group) (sym q ∙ so_far)

  pub goes_on : (group b : ℕ) (rest : List ℕ) → grown_z (2 ^ (7 * group)) value (sleb_at (9 - group) bytes) ≡ total
      → group < 9 → 128 ≤ b
      → ok rest b ≡ byte_at bytes
      → grown_z (2 ^ (7 * (group + 1))) (value + 2 ^ (7 * group) * (b % 128)) (sleb_at (9 - (group + 1)) rest) ≡ total
  goes_on group b rest so_far lt large e =
      let p = byte_ok b rest bytes e in
      let k : 9 - group ≡ suc (9 - (group + 1)) = omega arith in
      let q : grown_z _ value _
      ≡ grown_z _ _ _
      = rw (k, p) (more_byte _ value b _ rest large) in
      rw (pow_next group) (sym q ∙ so_far)

  pub ends_tenth : (group b : ℕ) (rest : List ℕ) → grown_z (2 ^ (7 * group)) value (sleb_at (9 - group) bytes) ≡ total
      → 9 ≤ group → group ≤ 9
      → ok rest b ≡ byte_at bytes
      → ◌≡◌ {A = Read ℤ} (tenth_at value b, rest) total
  ends_tenth group b rest so_far ge le e =
      let p = byte_ok b rest bytes e in
      let i : group ≡ 9 = omega arith in
      sym (tenth value b rest _ _ refl refl) ∙ (rw (i, p) at so_far)
