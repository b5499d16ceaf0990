use Rattle.std.proofs.Common.{refl, sym, ap, ◌∙◌, inl, inr}
use Rattle.std.specs.Prelude.{Some, Ok}
use Rattle.elf_sections.specs.Elf.{file_of}
use Rattle.gimli_c.specs.declared.status.TheConstants.{NO_ELF, NO_ROOM, NO_SECTION, OK}
use Rattle.gimli_c.proofs.Copied.{apart}
use Rattle.gimli_c.proofs.elf.gimli_line_proved_elf_section.Goals as goal

pub returns-in-Err : goal.returns-in-Err
returns-in-Err c =
    let is = c.in-Err.ensures.err.0 in
    record {
      found = λ ok. absurd (apart NO_ELF OK refl (sym is ∙ ok));
      larger = λ no_room. absurd (apart NO_ELF NO_ROOM refl (sym is ∙ no_room));
      refused = λ _ _ _. inr (inr c.in-Err.ensures.err);
      kept = λ _. refl;
      no_size = λ _ _. refl;
    }

pub returns-then-whole-bytes : goal.returns-then-whole-bytes
returns-then-whole-bytes c =
    let holds = rw c.in-Ok-Some.field-0-is at c.in-Ok-Some.ensures in
    record {
      found = λ ok. absurd (apart NO_ROOM OK refl ok);
      larger = λ _. record {
        file = file_of c.in-Ok.elf;
        is = c.in-Ok.ensures.ok;
        has = inl (
          c.as_slice-whole.result.now,
          holds ∙ ap (λ bytes. Ok (Some bytes)) (sym c.as_slice-whole.ensures),
          refl,
          c.if-whole-bytes.true,
        );
      };
      refused = λ _ small. absurd (small refl);
      kept = λ _. refl;
      no_size = λ _ small. absurd (small refl);
    }

pub returns-else-whole-bytes : goal.returns-else-whole-bytes
returns-else-whole-bytes c =
    let holds = rw c.in-Ok-Some.field-0-is at c.in-Ok-Some.ensures in
    record {
      found = λ _. record {
        file = file_of c.in-Ok.elf;
        is = c.in-Ok.ensures.ok;
        whole = c.as_slice-whole.result.now;
        holds = holds ∙ ap (λ bytes. Ok (Some bytes)) (sym c.as_slice-whole.ensures);
        written = c.copy_bytes.ensures;
        size_is = refl;
        fits = c.if-whole-bytes.false;
      };
      larger = λ no_room. absurd (apart OK NO_ROOM refl no_room);
      refused = λ some _. absurd (some refl);
      kept = λ some. absurd (some refl);
      no_size = λ some _. absurd (some refl);
    }

pub returns-in-Ok-None : goal.returns-in-Ok-None
returns-in-Ok-None c =
    let none = rw c.in-Ok-None.field-0-is at c.in-Ok-None.ensures in
    record {
      found = λ ok. absurd (apart NO_SECTION OK refl ok);
      larger = λ no_room. absurd (apart NO_SECTION NO_ROOM refl no_room);
      refused = λ _ _ _.
          inl (refl, record { file = file_of c.in-Ok.elf; is = c.in-Ok.ensures.ok; none = none });
      kept = λ _. refl;
      no_size = λ _ _. refl;
    }

pub returns-in-Err-SectionTooLarge : goal.returns-in-Err-SectionTooLarge
returns-in-Err-SectionTooLarge c =
    let refused = rw c.in-Err-SectionTooLarge.field-0-is at c.in-Err-SectionTooLarge.ensures in
    record {
      found = λ ok. absurd (apart NO_ROOM OK refl ok);
      larger = λ _. record {
        file = file_of c.in-Ok.elf;
        is = c.in-Ok.ensures.ok;
        has = inr (refused (λ same. absurd cc));
      };
      refused = λ _ small. absurd (small refl);
      kept = λ _. refl;
      no_size = λ _ small. absurd (small refl);
    }

pub returns-in-Err-relocated : goal.returns-in-Err-relocated
returns-in-Err-relocated c = record {
  found = λ ok. absurd (c.section_status.ensures.bad ok);
  larger = λ no_room. absurd (c.section_status.ensures.other.0 no_room);
  refused = λ _ _ memory.
      let told = c.section_status.ensures.number memory in
      inr (inl (
        told.0,
        record {
          file = file_of c.in-Ok.elf;
          is = c.in-Ok.ensures.ok;
          error = c.in-Err-relocated.e;
          refused = c.in-Err-relocated.ensures told.1;
        },
      ));
  kept = λ _. refl;
  no_size = λ _ _. refl;
}
