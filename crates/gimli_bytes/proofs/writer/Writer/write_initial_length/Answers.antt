use Rattle.std.proofs.lemmas.Result.{err_from_is_err_and}
use Rattle.gimli_bytes.proofs
use proofs.Parts.{begins_self, refused_after, written_after}
use proofs.Common.{refl, number_bytes}
use proofs.writer.Writer.write_initial_length.Goals as goal

pub returns-in_err-write_u32-in-Dwarf32-clause-appends : goal.returns-in_err-write_u32-in-Dwarf32-clause-appends
returns-in_err-write_u32-in-Dwarf32-clause-appends g c =
    let p = err_from_is_err_and c.from_residual.result c.from_residual.ensures.1 in
    rw (p.1, p.2) (refused_after _ _ (begins_self _) refl (λ completes. completes)
    (λ unrefused. unrefused)
    c.in_err-write_u32-in-Dwarf32.ensures)

pub returns-in_err-write_u32-in-Dwarf64-clause-appends : goal.returns-in_err-write_u32-in-Dwarf64-clause-appends
returns-in_err-write_u32-in-Dwarf64-clause-appends g c =
    let p = err_from_is_err_and c.from_residual-in_err-write_u32-in-Dwarf64.result
    c.from_residual-in_err-write_u32-in-Dwarf64.ensures.1 in
    rw (p.1, p.2) (refused_after _ _ (begins_self _) refl (λ completes. completes)
    (λ unrefused. unrefused)
    c.in_err-write_u32-in-Dwarf64.ensures)

pub returns-in_err-write_u64-in-Dwarf64-clause-appends : goal.returns-in_err-write_u64-in-Dwarf64-clause-appends
returns-in_err-write_u64-in-Dwarf64-clause-appends g c =
    let p = err_from_is_err_and c.from_residual-in_err-write_u64-in-Dwarf64.result
    c.from_residual-in_err-write_u64-in-Dwarf64.ensures.1 in
    let escape = c.in_ok-write_u32-in-Dwarf64.ensures in
    rw (p.1, p.2) (refused_after _ _ escape.keeps escape.ordered escape.stays escape.unrefused
    c.in_err-write_u64-in-Dwarf64.ensures)

pub returns-in_ok-write_u64-in-Dwarf64-clause-appends : goal.returns-in_ok-write_u64-in-Dwarf64-clause-appends
returns-in_ok-write_u64-in-Dwarf64-clause-appends g c =
    rw c.in-Dwarf64.is (written_after _ (λ is_big. number_bytes is_big 8 0)
    c.in_ok-write_u32-in-Dwarf64.ensures c.in_ok-write_u64-in-Dwarf64.ensures)
