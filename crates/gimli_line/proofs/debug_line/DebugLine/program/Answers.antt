use Rattle.gimli_line.proofs
use proofs.Common.{err_from_is_err_and}
use proofs.HeaderLaws.{reads_header, unit_answered}
use proofs.debug_line.DebugLine.program.Goals as goal

pub returns-in_err-header-clause-refusal : goal.returns-in_err-header-clause-refusal
returns-in_err-header-clause-refusal g c =
    let p = err_from_is_err_and c.from_residual.result c.from_residual.ensures.1 in
    rw (p.1, p.2, ← c.input_at-input.ensures.bytes, ← c.input_at-input.ensures.order) (λ other.
    (reads_header _ _).fault _ _ (c.in_err-header.ensures.read other))

pub returns-clause-unit : goal.returns-clause-unit
returns-clause-unit g c = rw (← c.input_at-input.ensures.bytes, ← c.input_at-input.ensures.order)
    (unit_answered _ _ _ _ c.in_ok-header.ensures.read)
