use Rattle.std.specs.Prelude.{◌≡◌, ◌<◌, ◌+ℤ◌, ◌-ℤ◌, ◌≤ℤ◌, ◌<ℤ◌, unsigned_abs, int_le, int_lt}
use Rattle.std.specs.Int.{w8}
use Rattle.std.proofs.lemmas.Bool.{and_parts}
use Rattle.std.proofs.lemmas.Int.{ints}
use Rattle.gimli_build.proofs
use proofs.Common.{Bool, true, refl, arith, ℤ, pos, to_z, of_z, w64, FitsSigned, LineEncoding, CanEncode}
use proofs.Common.{is_special_advance, to_z-of_z}
use proofs.writing.Writes.{bytes_unwritten, joins, nothing, passed_on}
use proofs.rows.encode.write_line_advance.Goals as goal

-- what the call answers of the word is so of the number
told : (e : LineEncoding) (d : ℤ) (answer b : Bool) → FitsSigned w64 d
    → answer ≡ is_special_advance e (to_z w64 (of_z w64 d)) → answer ≡ b
    → is_special_advance e d ≡ b
told e d answer b fits is same = rw (← same, is, to_z-of_z w64 d fits) refl

-- what the numbers of a special line advance have
record IsSpecial (e : LineEncoding) (d base : ℤ) : Type 0 where
  special : is_special_advance e d ≡ true
  base_is : to_z w64 (of_z w64 base) ≡ e.line_base
  back : to_z w64 (of_z w64 (d -ℤ e.line_base)) ≡ d -ℤ e.line_base
  fits : FitsSigned w64 (d -ℤ e.line_base)
  low : e.line_base ≤ℤ d
  lt : unsigned_abs (d -ℤ e.line_base) < e.line_range

is_special : (e : LineEncoding) (d base : ℤ) → CanEncode e → is_special_advance e d ≡ true
    → base ≡ to_z w8 (of_z w8 e.line_base) → IsSpecial e d base
is_special e d base can special same =
    let two = and_parts (int_le e.line_base d) (int_lt d (e.line_base +ℤ pos e.line_range)) special in
    let low : e.line_base ≤ℤ d = grind (arith, ints) in
    let high : d <ℤ (e.line_base +ℤ pos e.line_range) = grind (arith, ints) in
    let lt : unsigned_abs (d -ℤ e.line_base) < e.line_range = omega (arith, ints, low, high) in
    record {
      special = special;
      base_is = omega (arith, ints, can.base, can.above, can.range, same);
      back = omega (arith, ints, low, lt, can.range);
      fits = omega (arith, ints, low, lt, can.range);
      low = low;
      lt = lt;
    }

small_base : (e : LineEncoding) → CanEncode e → to_z w8 (of_z w8 e.line_base) ≡ e.line_base
small_base e can = omega (arith, ints, can.base, can.above, can.range)

pub returns-then-has_special-clause-opcode : goal.returns-then-has_special-clause-opcode
returns-then-has_special-clause-opcode g c =
    let e = c.args.line_encoding.now in
    let d = c.args.advance in
    let back = to_z-of_z w64 d c.ranges.advance in
    let special = told e d _ _ c.ranges.advance c.has_special.ensures c.if-has_special.true in
    let is = is_special e d _ c.requires.can special c.from.ensures in
    rw (back, is.base_is, is.back, special) refl

pub overflow_sub-result : goal.overflow_sub-result
overflow_sub-result g c =
    let e = c.args.line_encoding.now in
    let d = c.args.advance in
    let back = to_z-of_z w64 d c.ranges.advance in
    let special = told e d _ _ c.ranges.advance c.has_special.ensures c.if-has_special.true in
    let is = is_special e d _ c.requires.can special c.from.ensures in
    rw (back, is.base_is) is.fits

pub overflow_cast-result : goal.overflow_cast-result
overflow_cast-result g c =
    let e = c.args.line_encoding.now in
    let d = c.args.advance in
    let back = to_z-of_z w64 d c.ranges.advance in
    let special = told e d _ _ c.ranges.advance c.has_special.ensures c.if-has_special.true in
    let is = is_special e d _ c.requires.can special c.from.ensures in
    rw (back, is.base_is, is.back) (omega (arith, ints, is.low), omega (arith, is.lt, c.requires.can.range))

pub overflow_add-result : goal.overflow_add-result
overflow_add-result g c =
    let e = c.args.line_encoding.now in
    let d = c.args.advance in
    let back = to_z-of_z w64 d c.ranges.advance in
    let special = told e d _ _ c.ranges.advance c.has_special.ensures c.if-has_special.true in
    let is = is_special e d _ c.requires.can special c.from.ensures in
    rw (back, is.base_is, is.back) (omega (arith, is.lt, c.requires.can.range))

pub returns-clause-opcode : goal.returns-clause-opcode
returns-clause-opcode g c =
    let e = c.args.line_encoding.now in
    let d = c.args.advance in
    let other = told e d _ _ c.ranges.advance c.has_special.ensures c.if-has_special.false in
    rw (other, c.unsigned_abs.ensures.value, small_base e c.requires.can) refl

pub overflow_add-result-2 : goal.overflow_add-result-2
overflow_add-result-2 g c =
    let e = c.args.line_encoding.now in
    let can = c.requires.can in
    let lt : unsigned_abs e.line_base < e.line_range = omega (arith, ints, can.base, can.above) in
    rw (c.unsigned_abs.ensures.value, small_base e can) (omega (arith, lt, can.range))

pub returns-then-has_special-clause-writes : goal.returns-then-has_special-clause-writes
returns-then-has_special-clause-writes g c =
    let e = c.args.line_encoding.now in
    rw (told e c.args.advance _ _ c.ranges.advance c.has_special.ensures c.if-has_special.true) nothing

pub returns-in_err-write_instruction-clause-writes : goal.returns-in_err-write_instruction-clause-writes
returns-in_err-write_instruction-clause-writes g c =
    passed_on c.from_residual.ensures.1 (bytes_unwritten c.in_err-write_instruction.ensures)

pub returns-clause-writes : goal.returns-clause-writes
returns-clause-writes g c =
    let e = c.args.line_encoding.now in
    let d = c.args.advance in
    let put = rw (to_z-of_z w64 d c.ranges.advance) at c.in_ok-write_instruction.ensures in
    rw (told e d _ _ c.ranges.advance c.has_special.ensures c.if-has_special.false) (joins put nothing)
