use Rattle.elf_sections.specs.SeekingViews.{list_of}
use Rattle.elf_sections.proofs.SoughtData.{found_data, refused_data}
use Rattle.elf_sections.proofs.seeking.SectionList.stored.Goals as goal

pub returns-clause-whole : goal.returns-clause-whole
returns-clause-whole c = λ bytes limit is.
    found_data (list_of c.args.self.now) c.args.name.now bytes limit c.stored_named.result c.stored_named.ensures is

pub returns-clause-refused : goal.returns-clause-refused
returns-clause-refused c = λ bytes limit is.
    refused_data (list_of c.args.self.now) c.args.name.now bytes limit c.stored_named.result c.stored_named.ensures is
