use Rattle.std.proofs.Common.{sym, ◌∙◌, rules}
use Rattle.gimli_compilation.proofs.UnitLaws.{rest_is_end, next_offset}
use Rattle.gimli_compilation.proofs.units.CompilationUnits.next.Goals as goal

pub offset_from-self-inside-requires : goal.offset_from-self-inside-requires
offset_from-self-inside-requires g c =
    rest_is_end _ _ _ _ _ c.info_at-rest.ensures.bytes (rw c.info_at-rest.ensures.order at c.skip_unit.ensures)

pub returns-then-is_empty-clause-end : goal.returns-then-is_empty-clause-end
returns-then-is_empty-clause-end g c =
    rw (← c.self.view_is) (sym c.info_at-rest.ensures.bytes ∙ c.is_empty.ensures.0 c.if-is_empty.true)

pub returns-clause-next : goal.returns-clause-next
returns-clause-next g c =
    let after = rw c.info_at-rest.ensures.order at c.skip_unit.ensures in
    rw (← c.self.view_is) (next_offset _ _ _ _ _ _ c.info_at-rest.ensures.bytes
    (λ none. let t = c.is_empty.ensures.1 none in absurd (search rules)) after
    c.offset_from-self-inside.ensures).follows

pub returns-clause-onward : goal.returns-clause-onward
returns-clause-onward g c =
    let after = rw c.info_at-rest.ensures.order at c.skip_unit.ensures in
    rw (← c.self.view_is) (next_offset _ _ _ _ _ _ c.info_at-rest.ensures.bytes
    (λ none. let t = c.is_empty.ensures.1 none in absurd (search rules)) after
    c.offset_from-self-inside.ensures).onward

pub returns-clause-within : goal.returns-clause-within
returns-clause-within g c =
    let after = rw c.info_at-rest.ensures.order at c.skip_unit.ensures in
    rw (← c.self.view_is) (next_offset _ _ _ _ _ _ c.info_at-rest.ensures.bytes
    (λ none. let t = c.is_empty.ensures.1 none in absurd (search rules)) after
    c.offset_from-self-inside.ensures).inside

pub returns-clause-compilation : goal.returns-clause-compilation
returns-clause-compilation g c = rw (← c.self.view_is, c.into_u64.ensures) c.in-Ok.ensures.compilation

pub returns-clause-refusal : goal.returns-clause-refusal
returns-clause-refusal g c = rw (← c.self.view_is, c.into_u64.ensures) c.in-Ok.ensures.refusal
