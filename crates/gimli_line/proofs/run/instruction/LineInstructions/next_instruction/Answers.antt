use Rattle.gimli_line.proofs
use proofs.Common.{rules, ap, sym, read_of}
use proofs.InstructionLaws.{reads_instruction}
use proofs.run.instruction.LineInstructions.next_instruction.Goals as goal

pub returns-in-Ok-clause-next : goal.returns-in-Ok-clause-next
returns-in-Ok-clause-next g c =
    rw (← c.self.view_is)
    ((reads_instruction _ c.args.header.now.meaning).found _ _ _ (sym (read_of c.in-Ok.ensures.read)))

pub returns-in-Err-clause-refusal : goal.returns-in-Err-clause-refusal
returns-in-Err-clause-refusal g c = rw (← c.self.view_is) (
  λ none. absurd (search rules),
  ap (λ s. s.bytes) c.empty.ensures,
  (reads_instruction _ _).fault _ _
      (sym (ap (λ r. r.0) (read_of c.in-Err.ensures.read))),
)
