use Rattle.gimli_c.specs.Location.{location}
use Rattle.gimli_c.proofs.Units.{few_rows_of_unit, unit_given}
use Rattle.gimli_c.proofs.unit.gimli_line_proved_read_unit.Goals as goal

pub returns-in-Ok-read_unit-clause-ok : goal.returns-in-Ok-read_unit-clause-ok
returns-in-Ok-read_unit-clause-ok c = λ ok.
    let p = location c.args.section.now c.args.is_big c.args.address_size c.args.offset in
    unit_given p c.next_unit-next.result c.in-Ok.program.meaning c.in-Ok.program.layout c.in-Ok-read_unit.read
    c.in-Ok.ensures.unit c.in-Ok.ensures.layout
    c.next_unit-next.ensures c.in-Ok-read_unit.ensures.ok

pub returns-in-Ok-read_unit-clause-at_most : goal.returns-in-Ok-read_unit-clause-at_most
returns-in-Ok-read_unit-clause-at_most c = λ ok.
    let p = location c.args.section.now c.args.is_big c.args.address_size c.args.offset in
    few_rows_of_unit p c.in-Ok-read_unit.read
    (unit_given p c.next_unit-next.result c.in-Ok.program.meaning c.in-Ok.program.layout c.in-Ok-read_unit.read
    c.in-Ok.ensures.unit
    c.in-Ok.ensures.layout c.next_unit-next.ensures c.in-Ok-read_unit.ensures.ok)
