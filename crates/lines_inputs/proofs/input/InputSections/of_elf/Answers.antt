use Rattle.elf_sections.specs.SectionBytes.{bytes_of}
use Rattle.lines_inputs.proofs.input.InputSections.of_elf.Goals as goal

pub returns : goal.returns
returns c = (c.in_ok-lines.is_split, bytes_of c.in_ok-lines.lines, c.in_ok-lines.ensures)
