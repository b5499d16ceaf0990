use Rattle.std.proofs.Common.{refl, sym, inl, inr, ◌∙◌}
use Rattle.elf_sections.specs.Elf.{file_of}
use Rattle.gimli_c.specs.declared.status.TheConstants.{NO_ELF, NO_ROOM, OK}
use Rattle.gimli_c.proofs.Copied.{apart, copied, not_copied, not_copied_at}
use Rattle.gimli_c.proofs.build_id.gimli_line_proved_elf_build_id.Goals as goal

pub returns-in-Err : goal.returns-in-Err
returns-in-Err c =
    let is = c.in-Err.ensures.err.0 in
    not_copied _ _ _ _ _ (λ ok. apart NO_ELF OK refl (sym is ∙ ok)) (λ room. apart NO_ELF NO_ROOM refl (sym is ∙ room))
    (inr (inr c.in-Err.ensures.err))

pub returns-in-Ok-Some : goal.returns-in-Ok-Some
returns-in-Ok-Some c =
    let has = rw c.in-Ok-Some.field-0-is at (rw c.in-Ok-Some.is at c.build_id.ensures) in
    copied _ _ _ _ _ _ _ _ (record { file = file_of c.in-Ok.elf; is = c.in-Ok.ensures.ok; has = sym has })
    c.put_bytes.ensures

pub returns-in-Ok-None : goal.returns-in-Ok-None
returns-in-Ok-None c =
    let none = rw c.in-Ok-None.field-0-is at (rw c.in-Ok-None.is at c.build_id.ensures) in
    not_copied_at _ _ _ _ _ refl refl
    (inl (refl, record { file = file_of c.in-Ok.elf; is = c.in-Ok.ensures.ok; none = sym none }))

pub returns-in-Err-build_id : goal.returns-in-Err-build_id
returns-in-Err-build_id c =
    let refused = rw c.in-Err-build_id.is at c.build_id.ensures in
    not_copied_at _ _ _ _ _ refl refl
    (inr (inl (
      refl,
      record { file = file_of c.in-Ok.elf; is = c.in-Ok.ensures.ok; error = _; refused = sym refused },
    )))
