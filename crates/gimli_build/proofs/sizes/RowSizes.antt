-- How many instructions and bytes a row has.
use Rattle.std.specs.Prelude.{◌≡◌, ◌+◌, ◌-◌, ◌*◌, ◌<◌, ◌≤◌, ◌∷◌, ◌++◌, if◌then◌else◌, ◌+ℤ◌, ◌-ℤ◌}
use Rattle.gimli_build.proofs.Common
use Common.{ℕ, Bool, true, false, [], length, ap, ◌∙◌, arith, nat_le, ℤ, pos, Some, unsigned_abs, ints}
use Common.{le-leb, Encoding, LineEncoding, AdvancePc, ConstAddPc, Ins, LineRow, CanEncode}
use Common.{operations, when, line_part, is_special_advance, row_maker, constant_advance}
use Common.{operation_part, row_instructions, instructions_bytes, built_rules}
use Rattle.std.proofs.Math.Nat.{div-add-mod'}
use Rattle.std.proofs.lemmas.List.{length-append}
use Rattle.gimli_line.specs.run.OperationPointer.{operation_advance}
use Rattle.gimli_build.specs.Sizes.{HasSpecial, OnlyMoves}

-- ---- instructions

four_short : (a b c d : Bool) (i j k l : Ins) → length (when a i ++ when b j ++ when c k ++ when d l) ≤ 4
four_short a b c d i j k l = grind arith

line_short : (e : LineEncoding) (d : ℤ) → length (line_part e d) ≤ 1
line_short e d = grind arith

operations_short : (e : LineEncoding) (s n : ℕ) → length (operation_part e s n) ≤ 2
operations_short e s n = grind arith

-- eleven at most
pub row_short : (version : ℕ) (e : LineEncoding) (previous built : LineRow)
    → length (row_instructions version e previous built) ≤ 11
row_short _ _ _ _ = grind (arith, four_short, line_short, operations_short, length-append)

-- ---- bytes

-- the parts of a special opcode
record Parts (e : LineEncoding) (d : ℤ) (n : ℕ) : Type 0 where
  above : ℕ
  within : above < e.line_range
  line : e.line_base +ℤ pos above ≡ d
  fits : 13 + above + n * e.line_range ≤ 255

some_same : {A : Type 0} (x y : A) → Some x ≡ Some y → x ≡ y
some_same x y e = cc

parts_of : (encoding : Encoding) (e : LineEncoding) (d : ℤ) (n : ℕ) → CanEncode e
    → HasSpecial (built_rules encoding e) d n → Parts e d n
parts_of _ _ _ _ can has = grind (arith, div-add-mod')

-- what is due for the line
special_line : (e : LineEncoding) (d : ℤ) (n : ℕ) (p : Parts e d n) → is_special_advance e d ≡ true
special_line e d n p = grind arith

-- the bytes of a row that only moves, where special opcodes have its line advance
module _ (encoding : Encoding) (e : LineEncoding) (previous built : LineRow) (can : CanEncode e)
    (only : OnlyMoves previous built) where
  abbrev advance : ℤ
  advance = pos built.line -ℤ pos previous.line

  abbrev count : ℕ
  count = operations e previous.address_offset previous.op_index built.address_offset built.op_index

  -- what is left of the row's instructions
  left : (u : ℕ) → is_special_advance e advance ≡ true → u ≡ unsigned_abs (advance -ℤ e.line_base)
      → row_instructions encoding.version e previous built ≡ operation_part e (13 + u) count
  left u t same = grind arith

  -- the line advance above the base
  above_is : (n : ℕ) (p : Parts e advance n) → p.above ≡ unsigned_abs (advance -ℤ e.line_base)
  above_is n p = omega (arith, ints)

  pub one_byte : HasSpecial (built_rules encoding e) advance count
      → length (instructions_bytes (row_instructions encoding.version e previous built)) ≡ 1
  one_byte has =
      let p = parts_of _ e _ _ can has in
      let whole = left _ (special_line e _ count p) (above_is count p) in
      let room = le-leb (13 + p.above + count * e.line_range) 255 p.fits in
      ap (λ is. length (instructions_bytes is)) whole ∙ rw room (one_maker _)
    where
      one_maker : (s : ℕ) → length (instructions_bytes (row_maker e s ∷ [])) ≡ 1
      one_maker s = grind arith

  pub two_bytes : (q : ℕ) → operation_advance (built_rules encoding e) ConstAddPc ≡ Some q
      → HasSpecial (built_rules encoding e) advance (count - q)
      → length (instructions_bytes (row_instructions encoding.version e previous built)) ≤ 2
  two_bytes q is has =
      let constant = some_same _ q is in
      let p = parts_of _ e _ _ can has in
      let whole = left _ (special_line e advance (count - q) p) (above_is (count - q) p) in
      let fits : 13 + p.above + (count - constant_advance e) * e.line_range ≤ 255 = rw constant p.fits in
      let room = le-leb (13 + p.above + (count - constant_advance e) * e.line_range) 255 fits in
      rw whole (by p.above room (nat_le (13 + p.above + count * e.line_range) 255))
    where
      one_maker : (s : ℕ) → length (instructions_bytes (row_maker e s ∷ [])) ≤ 1
      one_maker s = grind arith

      by : (u : ℕ) → nat_le (13 + u + (count - constant_advance e) * e.line_range) 255 ≡ true → (b : Bool)
          → length (instructions_bytes (if b then row_maker e (13 + u + count * e.line_range) ∷ []
          else (if nat_le (13 + u + (count - constant_advance e) * e.line_range) 255
          then ConstAddPc ∷ row_maker e (13 + u + (count - constant_advance e) * e.line_range) ∷ []
          else AdvancePc count ∷ row_maker e (13 + u) ∷ [])))
          ≤ 2
      by u room true = grind arith
      by u room false = grind arith
