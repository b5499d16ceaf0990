use Rattle.std.specs.Prelude.{◌∷◌}
use Rattle.gimli_build.proofs
use proofs.Common.{[], nat_eq, not, AdvancePc, EndSequence, when}
use proofs.writing.InstructionsWritten.{bytes_append}
use proofs.writing.Writes.{bytes_unwritten, joins, passed_on}
use proofs.rows.encode.write_end.Goals as goal

pub returns-in_err-write_if : goal.returns-in_err-write_if
returns-in_err-write_if g c = passed_on c.from_residual.ensures.1 (bytes_unwritten c.in_err-write_if.ensures)

pub returns : goal.returns
returns g c =
    rw (bytes_append (when (not (nat_eq c.args.count 0)) (AdvancePc c.args.count)) (EndSequence ∷ []))
    (joins c.in_ok-write_if.ensures c.write_instruction.ensures)
