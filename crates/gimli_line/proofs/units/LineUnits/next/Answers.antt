use Rattle.std.specs.Prelude.{◌≡◌, ◌≢◌}
use Rattle.std.proofs.lemmas.Bool.{false≢true}
use Rattle.gimli_line.proofs
use proofs.Common.{Result, Ok, Err, IfErr, sym, ap, ◌∙◌, Error, OutOfMemory}
use proofs.UnitLaws.{offsets_none, offsets_step, rest_is_end}
use proofs.units.LineUnits.next.Goals as goal

-- where memory isn't missing, a refusal is one of the unit
refusal_is : {A : Type 0} (outcome : Result A Error) (IsRefusal : Error → Type 0) → (outcome ≡ Err OutOfMemory → ⊥)
    → IfErr outcome (λ e. e ≢ OutOfMemory → IsRefusal e) → IfErr outcome IsRefusal
refusal_is (Ok x) IsRefusal other refusal = refusal
refusal_is (Err e) IsRefusal other refusal = refusal (λ is. other (ap Err is))

pub offset_from-requires : goal.offset_from-requires
offset_from-requires g c =
    let after = rw (c.input_at-rest.ensures.bytes, c.input_at-rest.ensures.order) at c.skip_unit.ensures in
    rw c.reader.ensures (rest_is_end _ _ _ _ after)

pub returns-then-is_empty-clause-next : goal.returns-then-is_empty-clause-next
returns-then-is_empty-clause-next g c =
    let none = sym c.input_at-rest.ensures.bytes ∙ c.is_empty.ensures.0 c.if-is_empty.true in
    rw (← c.self.view_is) (offsets_none _ _ _ none, offsets_none _ _ _ none)

pub returns-clause-next : goal.returns-clause-next
returns-clause-next g c =
    let after = rw (c.input_at-rest.ensures.bytes, c.input_at-rest.ensures.order) at c.skip_unit.ensures in
    let ends = rw c.reader.ensures at c.offset_from.ensures in
    rw (← c.self.view_is)
    (offsets_step _ _ _ _ _
    (λ none. absurd
    (false≢true (sym c.if-is_empty.false ∙ c.is_empty.ensures.1 (c.input_at-rest.ensures.bytes ∙ none)))) after
    ends)

pub returns-clause-refusal : goal.returns-clause-refusal
returns-clause-refusal g c = refusal_is _ _
    (λ is. absurd (false≢true (sym c.if-is_out_of_memory.false ∙ c.is_out_of_memory.ensures.1 is)))
    (rw (← c.self.view_is) c.program-program.ensures.refusal)
