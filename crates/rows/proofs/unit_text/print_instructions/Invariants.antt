-- Each instruction takes bytes from those that are left.
use Rattle.std.proofs.Common.{length}
use Rattle.rows.proofs.unit_text.print_instructions.Given as goal

abbrev pub decreases-instructions : goal.decreases-instructions
decreases-instructions g l = length l.instructions.bytes
