use Rattle.gimli_build.proofs
use proofs.Common
use Common.{nat_eq, not, SetDiscriminator, SetBasicBlock, SetPrologueEnd, SetEpilogueBegin, when}
use proofs.writing.InstructionsWritten.{four_parts}
use proofs.writing.Writes.{bytes_unwritten, joins, unwritten, passed_on}
use proofs.rows.encode.write_each_mark.Goals as goal

pub returns-in_err-write_if-2 : goal.returns-in_err-write_if-2
returns-in_err-write_if-2 g c =
    passed_on c.from_residual-in_err-write_if-2.ensures.1
    (unwritten c.in_ok-write_if.ensures c.in_err-write_if-2.ensures)

pub returns-in_err-write_if-3 : goal.returns-in_err-write_if-3
returns-in_err-write_if-3 g c =
    passed_on c.from_residual-in_err-write_if-3.ensures.1
    (unwritten (joins c.in_ok-write_if.ensures c.in_ok-write_if-2.ensures) c.in_err-write_if-3.ensures)

pub returns-in_err-write_if-4 : goal.returns-in_err-write_if-4
returns-in_err-write_if-4 g c =
    passed_on c.from_residual-in_err-write_if-4.ensures.1
    (unwritten (joins (joins c.in_ok-write_if.ensures c.in_ok-write_if-2.ensures) c.in_ok-write_if-3.ensures)
    c.in_err-write_if-4.ensures)

pub returns : goal.returns
returns g c =
    let row = c.args.row.now in
    four_parts (when (not (nat_eq row.discriminator 0)) (SetDiscriminator row.discriminator))
    (when row.basic_block SetBasicBlock)
    (when row.prologue_end SetPrologueEnd) (when row.epilogue_begin SetEpilogueBegin)
    (joins (joins (joins c.in_ok-write_if.ensures c.in_ok-write_if-2.ensures) c.in_ok-write_if-3.ensures)
    c.in_ok-write_if-4.ensures)

pub returns-in_err-write_if : goal.returns-in_err-write_if
returns-in_err-write_if g c =
    passed_on c.from_residual.ensures.1 (bytes_unwritten c.in_err-write_if.ensures)
