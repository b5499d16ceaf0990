use Rattle.std.specs.Prelude.{◌≡◌, ◌∷◌}
use Rattle.gimli_build.proofs
use proofs.Common.{arith, ap, sym, ◌∙◌, [], ℕ, List, to_z, of_z, w64, ints, sleb, sleb_one}
use proofs.writing.Writes.{bytes_unwritten, joins, writes, same_bytes, passed_on}
use proofs.rows.instruction.write_signed.Goals as goal

pub returns-then-has_seven_bits : goal.returns-then-has_seven_bits
returns-then-has_seven_bits g c =
    let back : to_z w64 (of_z w64 c.args.operand) ≡ c.args.operand = omega (arith, ints) in
    let one = sleb_one _ (sym c.has_seven_bits.ensures ∙ c.if-has_seven_bits.true) in
    let operand : c.low_bits.result ∷ [] ≡ sleb c.args.operand =
    ap (λ (b : ℕ). b ∷ []) c.low_bits.ensures ∙ sym one ∙ ap sleb back in
    same_bytes (ap (λ (l : List ℕ). c.args.opcode.0 ∷ l) operand) (writes _ c.write.ensures)

pub returns : goal.returns
returns g c =
    let back : to_z w64 (of_z w64 c.args.operand) ≡ c.args.operand = omega (arith, ints) in
    let put = c.write_sleb128.ensures.appends in
    let second = rw back at (writes _ put) in
    joins c.in_ok-write_byte.ensures second

pub returns-in_err-write_byte : goal.returns-in_err-write_byte
returns-in_err-write_byte g c =
    passed_on c.from_residual.ensures.1 (bytes_unwritten c.in_err-write_byte.ensures)
