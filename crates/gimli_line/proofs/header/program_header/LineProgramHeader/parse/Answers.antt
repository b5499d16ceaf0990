use Rattle.gimli_line.proofs
use proofs.Common.{◌∙◌, read_of, order_of, part_read_of}
use proofs.Order.{taken_part}
use proofs.Opened.{header_answers}
use proofs.header.program_header.LineProgramHeader.parse.Goals as goal

pub returns-clause-read : goal.returns-clause-read
returns-clause-read g c =
    let order = taken_part _ _ c.in_ok-program_buf.ensures ∙ order_of c.read_initial_length.ensures in
    header_answers _ _ _ _ _ _ _ _ _ _ _ _ _ _ _ (read_of c.in_ok-unit_length.ensures)
    (part_read_of c.in_ok-program_buf.ensures) order
    (read_of c.in_ok-opening.ensures.read)
    (order_of c.parse.ensures.read ∙ order) c.parse_fields.ensures.read
