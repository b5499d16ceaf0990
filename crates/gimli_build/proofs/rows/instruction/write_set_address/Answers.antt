use Rattle.gimli_build.proofs
use proofs.Common.{◌∙◌}
use proofs.writing.InstructionsWritten.{address_parts}
use proofs.writing.Writes.{bytes_unwritten, joins, unwritten, wanted_alike, writes, passed_on}
use proofs.rows.instruction.write_set_address.Goals as goal

pub returns : goal.returns
returns g c =
    let is_big = g.W.Sink.is_big in
    let size = c.args.size in
    let first = c.in_ok-write_byte.ensures in
    let put = c.in_ok-write_uleb128.ensures.appends in
    let second = rw c.from.ensures at (writes _ put) in
    let third = c.in_ok-write_byte-2.ensures in
    let last = c.write_address.ensures in
    let address = writes _ last in
    let fourth = rw (third.ordered ∙ put.ordered ∙ first.ordered) at address in
    wanted_alike (λ hand. address_parts _ _)
    (joins first (joins second (joins third fourth)))

pub returns-in_err-write_byte : goal.returns-in_err-write_byte
returns-in_err-write_byte g c = passed_on c.from_residual.ensures.1 (bytes_unwritten c.in_err-write_byte.ensures)

pub returns-in_err-write_byte-2 : goal.returns-in_err-write_byte-2
returns-in_err-write_byte-2 g c =
    let put = c.in_ok-write_uleb128.ensures.appends in
    let second = writes _ put in
    passed_on c.from_residual-in_err-write_byte-2.ensures.1
    (unwritten (joins c.in_ok-write_byte.ensures second) c.in_err-write_byte-2.ensures)

pub returns-in_err-write_uleb128 : goal.returns-in_err-write_uleb128
returns-in_err-write_uleb128 g c = passed_on c.from_residual-in_err-write_uleb128.ensures.1
    (unwritten c.in_ok-write_byte.ensures (writes _ c.in_err-write_uleb128.ensures.appends))
