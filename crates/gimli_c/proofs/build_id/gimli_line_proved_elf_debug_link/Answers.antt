use Rattle.std.proofs.Common.{refl, sym, inl, inr, ◌∙◌}
use Rattle.elf_sections.specs.DebugFile.{link_of}
use Rattle.elf_sections.specs.Elf.{file_of}
use Rattle.gimli_c.specs.declared.status.TheConstants.{NO_ELF, NO_ROOM, OK}
use Rattle.gimli_c.proofs.Copied.{apart, copied, not_copied, not_copied_at}
use Rattle.gimli_c.proofs.build_id.gimli_line_proved_elf_debug_link.Goals as goal

pub returns-in-Err-clause-name : goal.returns-in-Err-clause-name
returns-in-Err-clause-name c =
    let is = c.in-Err.ensures.err.0 in
    not_copied _ _ _ _ _ (λ ok. apart NO_ELF OK refl (sym is ∙ ok)) (λ room. apart NO_ELF NO_ROOM refl (sym is ∙ room))
    (inr (inr c.in-Err.ensures.err))

pub returns-in-Ok-None-clause-name : goal.returns-in-Ok-None-clause-name
returns-in-Ok-None-clause-name c =
    let none = rw c.in-Ok-None.field-0-is at (rw c.in-Ok-None.is at c.debug_link.ensures) in
    not_copied_at _ _ _ _ _ refl refl
    (inl (refl, record { file = file_of c.in-Ok.elf; is = c.in-Ok.ensures.ok; none = sym none }))

pub returns-in-Err-debug_link-clause-name : goal.returns-in-Err-debug_link-clause-name
returns-in-Err-debug_link-clause-name c =
    let refused = rw c.in-Err-debug_link.is at c.debug_link.ensures in
    not_copied_at _ _ _ _ _ refl refl
    (inr (inl (
      refl,
      record { file = file_of c.in-Ok.elf; is = c.in-Ok.ensures.ok; error = _; refused = sym refused },
    )))

pub returns-then-status-ne-OK-clause-name : goal.returns-then-status-ne-OK-clause-name
returns-then-status-ne-OK-clause-name c =
    let has = rw c.in-Ok-Some.field-0-is at (rw c.in-Ok-Some.is at c.debug_link.ensures) in
    copied _ _ _ _ _ _ _ _
    (record {
      link = link_of c.in-Ok-Some.link;
      has = record { file = file_of c.in-Ok.elf; is = c.in-Ok.ensures.ok; has = sym has };
      name_is = refl;
    })
    c.put_bytes-status.ensures

pub returns-clause-name : goal.returns-clause-name
returns-clause-name c =
    let has = rw c.in-Ok-Some.field-0-is at (rw c.in-Ok-Some.is at c.debug_link.ensures) in
    copied _ _ _ _ _ _ _ _
    (record {
      link = link_of c.in-Ok-Some.link;
      has = record { file = file_of c.in-Ok.elf; is = c.in-Ok.ensures.ok; has = sym has };
      name_is = refl;
    })
    c.put_bytes-status.ensures

pub returns-clause-checksum : goal.returns-clause-checksum
returns-clause-checksum c = λ _.
    let has = rw c.in-Ok-Some.field-0-is at (rw c.in-Ok-Some.is at c.debug_link.ensures) in
    record {
      link = link_of c.in-Ok-Some.link;
      has = record { file = file_of c.in-Ok.elf; is = c.in-Ok.ensures.ok; has = sym has };
      checksum_is = refl;
    }
