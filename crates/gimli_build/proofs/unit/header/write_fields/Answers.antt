use Rattle.gimli_build.proofs
use proofs.Common.{◌∙◌}
use proofs.writing.Writes.{first_unwritten, joins, unwritten, writes, passed_on}
use proofs.unit.header.write_fields.Goals as goal

pub returns-clause-writes : goal.returns-clause-writes
returns-clause-writes g c =
    let first = rw (c.version.ensures, c.line_encoding.ensures, c.program-program.ensures.program) at
    c.in_ok-write_line_encoding.ensures in
    let put = c.in_ok-write.ensures in
    let second = writes _ put in
    let third = rw (put.ordered ∙ first.ordered) at c.write_tables.ensures.writes in
    joins first (joins second third)

pub returns-in_err-write_line_encoding-clause-writes : goal.returns-in_err-write_line_encoding-clause-writes
returns-in_err-write_line_encoding-clause-writes g c =
    let refused = rw (c.version.ensures, c.line_encoding.ensures, c.program-program.ensures.program) at
    c.in_err-write_line_encoding.ensures in
    passed_on c.from_residual.ensures.1 (first_unwritten _ refused)

pub returns-in_err-write-clause-writes : goal.returns-in_err-write-clause-writes
returns-in_err-write-clause-writes g c = passed_on c.from_residual-in_err-write.ensures.1
    (unwritten c.in_ok-write_line_encoding.ensures (writes _ c.in_err-write.ensures))
