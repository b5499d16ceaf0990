use Rattle.std.proofs.Common.{rules}
use Rattle.elf_sections.proofs.Checksums.{by_table}
use Rattle.elf_sections.proofs.crc.byte_step.Goals as goal

pub returns : goal.returns
returns c = search (rules, by_table)
