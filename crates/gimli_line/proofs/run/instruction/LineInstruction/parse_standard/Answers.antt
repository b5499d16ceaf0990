use Rattle.std.specs.Prelude.{◌≡◌, ◌-◌, ◌<◌}
use Rattle.gimli_line.proofs.Common.{ℕ, List, ◌∙◌, arith, OrderAndLimit, Header, slice_index, read_of, order_of}
use Rattle.gimli_line.proofs.Common.{taken_of}
use Rattle.gimli_line.specs.run.InstructionGrammar.{standard_production, unknown_production}
use Rattle.gimli_line.proofs.run.instruction.LineInstruction.parse_standard.Goals as goal

above : (layout : OrderAndLimit) (h : Header) (n : ℕ) (bytes : List ℕ) → 12 < n
    → (unknown_production layout h n (slice_index h.operand_counts (n - 1))).read bytes
    ≡ (standard_production layout h n).read bytes
unfolding standard_production
above layout h n bytes lt = grind arith

pub returns-in_default-clause-read : goal.returns-in_default-clause-read
returns-in_default-clause-read g c =
    taken_of (read_of c.parse_unknown.ensures.read ∙ above _ _ _ _ (omega arith))
    (order_of c.parse_unknown.ensures.read)
