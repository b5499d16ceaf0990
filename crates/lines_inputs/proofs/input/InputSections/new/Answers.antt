use Rattle.std.proofs.Common.{sym}
use Rattle.elf_sections.specs.Elf.{file_of}
use Rattle.lines_inputs.proofs.input.InputSections.new.Goals as goal

pub returns-in_ok-program-in-Elf-2 : goal.returns-in_ok-program-in-Elf-2
returns-in_ok-program-in-Elf-2 c = record {
  elf = λ k. record {
    file = file_of c.in_ok-elf-in-Elf-2.elf;
    is_file = sym c.in_ok-elf-in-Elf-2.ensures;
    is_split = c.in_ok-program-in-Elf-2.ensures.0;
    section = c.in_ok-program-in-Elf-2.ensures.1;
    is_section = c.in_ok-program-in-Elf-2.ensures.2;
  };
}
