use Rattle.elf_sections.specs.SeekingViews.{list_of}
use Rattle.elf_sections.proofs.SoughtFiles.{by_range}
use Rattle.elf_sections.proofs.seeking.SectionList.range.Goals as goal

pub returns-clause-whole : goal.returns-clause-whole
returns-clause-whole c = λ bytes is.
    by_range (list_of c.args.self.now) c.args.name.now bytes c.range_named.result c.range_named.ensures is
