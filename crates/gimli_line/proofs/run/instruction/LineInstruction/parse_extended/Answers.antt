use Rattle.std.specs.Prelude.{◌≡◌}
use Rattle.gimli_core.specs.Seen.{taken, part_taken}
use Rattle.gimli_line.proofs
use proofs.Common
use Common.{ℕ, List, Result, Ok, ◌∙◌, Error, Seen, layout_of, below_limit, byte, some_bytes, unsigned, Header, Ins}
use Common.{read_of, order_of, taken_of, part_read_of, part_order_of}
use proofs.Order.{taken_part}
use Rattle.gimli_line.specs.run.InstructionGrammar.{extended_operands, extended_production}
use proofs.run.instruction.LineInstruction.parse_extended.Goals as goal

module _ (limit : ℕ) (h : Header) (first later part after operands : Seen) (size opcode : ℕ) (result : Result Ins Error)
  where
    -- a length, that many bytes, an opcode among them, and its operands
    extended : (Ok size, later) ≡ taken (below_limit (layout_of first.is_big limit) unsigned) first
        → (Ok part, after) ≡ part_taken (some_bytes size) later
        → (Ok opcode, operands) ≡ taken byte part
        → ((left : List ℕ) → (result, left)
        ≡ (extended_operands (layout_of operands.is_big limit) h opcode operands.bytes).read left)
        → (result, after) ≡ taken (extended_production (layout_of first.is_big limit) h) first
    unfolding extended_production
    extended sized parted opened ran =
        let order = order_of opened ∙ taken_part _ _ parted ∙ order_of sized in
        let read = rw order at (ran after.bytes) in
        taken_of (rw (← read_of sized, ← part_read_of parted, ← read_of opened) read)
        (part_order_of parted ∙ order_of sized)

pub returns-clause-read : goal.returns-clause-read
returns-clause-read g c =
    extended _ _ _ _ _ _ _ _ _ _ c.in_ok-length.ensures c.in_ok-inside.ensures c.in_ok-opcode.ensures
    c.parse_extended_operands.ensures.read
