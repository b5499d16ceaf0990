use Rattle.std.proofs.Common.{◌∙◌, ap, sym, inr}
use Rattle.gimli_c.specs.Status.{error_status}
use Rattle.gimli_c.proofs.Locations.{same_unit, same_fault}
use Rattle.gimli_c.proofs.location.program_at.Goals as goal

pub returns-in-Ok-clause-unit : goal.returns-in-Ok-clause-unit
returns-in-Ok-clause-unit c =
    let size = sym c.if-not-is_address_size.ensures in
    let at =
    same_unit _ _ _ _ c.args.address_size c.args.offset c.in-Ok.program.meaning c.new-section.ensures.bytes
    (c.new-section.ensures.order ∙ c.order.ensures)
    (size, c.in-Ok.ensures.unit) in
    at.is

pub returns-in-Err-clause-refused : goal.returns-in-Err-clause-refused
returns-in-Err-clause-refused c = λ not_memory.
    let size = sym c.if-not-is_address_size.ensures in
    let fault = c.in-Err.ensures.refusal (λ is. not_memory (c.error_status.ensures.number ∙ ap error_status is)) in
    let at =
    same_fault _ _ _ _ c.args.address_size c.args.offset c.in-Err.e c.new-section.ensures.bytes
    (c.new-section.ensures.order ∙ c.order.ensures) fault in
    inr (size, c.in-Err.e, at.is, c.error_status.ensures.number)
