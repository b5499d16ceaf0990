use Rattle.std.specs.Prelude.{◌≡◌, ◌<◌}
use Rattle.gimli_build.proofs
use proofs.Common.{ℕ, None, texts_in, cause_of_file}
use proofs.built.line_program.LineProgram.first_file.Given as goal

abbrev pub invariant-loop-index : goal.invariant-loop-index
invariant-loop-index l = (i : ℕ) → i < l.index → cause_of_file l.self (texts_in l.strings l.line_strings) i ≡ None
