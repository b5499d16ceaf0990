use Rattle.std.specs.Prelude.{◌≡◌, ◌<◌}
use Rattle.gimli_build.proofs
use proofs.Common.{ℕ, None, cause_of_item}
use Rattle.gimli_build.specs.Refused.{program_seen}
use proofs.built.line_program.LineProgram.first_item.Given as goal

abbrev pub invariant-loop-index : goal.invariant-loop-index
invariant-loop-index l = (i : ℕ) → i < l.index → cause_of_item (program_seen l.symbols l.self) i ≡ None
