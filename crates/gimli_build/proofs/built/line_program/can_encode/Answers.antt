use Rattle.gimli_build.proofs
use proofs.Common.{true≢false, sym, inl, inr, arith, ints, le-leb, leb-true}
use proofs.built.line_program.can_encode.Goals as goal

pub returns-then-line_encoding-gt0 : goal.returns-then-line_encoding-gt0
returns-then-line_encoding-gt0 c = (
  λ is. absurd (true≢false (sym is)),
  λ can. absurd (elim c.then-line_encoding-gt0.either [
    | inl high ↦ omega (arith, ints, can.base, can.above, can.range, high)
    | inr wide ↦ omega (arith, can.range, wide.1)
  ]),
)

pub returns-then-line_encoding-ge1 : goal.returns-then-line_encoding-ge1
returns-then-line_encoding-ge1 c = (
  λ le. record {
    instruction_length = c.if-line_encoding-ge1.true;
    operations = leb-true _ _ le;
    base = omega (arith, ints);
    above = omega (arith, ints);
    range = c.if-line_encoding-gt127.false;
  },
  λ can. le-leb _ _ can.operations,
)
