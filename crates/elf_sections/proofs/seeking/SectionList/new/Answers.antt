use Rattle.std.proofs.Common.{sym, ◌∙◌}
use Rattle.elf_sections.proofs.SoughtFiles.{sought_is_whole}
use Rattle.elf_sections.proofs.seeking.SectionList.new.Goals as goal

pub returns-clause-whole : goal.returns-clause-whole
returns-clause-whole c = λ bytes is. c.of_parts.ensures ∙ sym is ∙ sought_is_whole bytes
