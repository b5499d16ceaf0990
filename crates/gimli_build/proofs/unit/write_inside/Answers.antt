use Rattle.gimli_build.proofs
use proofs.Common.{◌∙◌}
use proofs.writing.Writes.{first_unwritten, joins, passed_on}
use proofs.unit.write_inside.Goals as goal

pub returns-clause-writes : goal.returns-clause-writes
returns-clause-writes g c =
    let first = rw (c.encoding.ensures.encoding, c.program-program.ensures.program) at c.in_ok-write_opening.ensures in
    let second = rw first.ordered at c.in_ok-write_header.ensures.writes in
    let third = rw (
      second.ordered ∙ first.ordered,
      c.encoding-2.ensures.encoding,
      c.line_encoding.ensures,
      c.built_items.ensures.items,
      c.program-program.ensures.program,
    )
    at
    c.write_items.ensures.writes in
    joins first (joins second third)

pub returns-in_err-write_opening-clause-writes : goal.returns-in_err-write_opening-clause-writes
returns-in_err-write_opening-clause-writes g c = passed_on c.from_residual.ensures.1 (first_unwritten _
    (rw (c.encoding.ensures.encoding, c.program-program.ensures.program) at c.in_err-write_opening.ensures))

pub returns-in_err-write_header-clause-writes : goal.returns-in_err-write_header-clause-writes
returns-in_err-write_header-clause-writes g c =
    let first = rw (c.encoding.ensures.encoding, c.program-program.ensures.program) at c.in_ok-write_opening.ensures in
    let refused = rw first.ordered at c.in_err-write_header.ensures.writes in
    passed_on c.from_residual-in_err-write_header.ensures.1 (joins first (first_unwritten _ refused))
