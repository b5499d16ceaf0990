use Rattle.std.proofs.Common.{[], refl}
use Rattle.elf_sections.proofs.crc.crc32.Goals as goal

-- the checksum of no bytes is 0
pub returns : goal.returns
returns c = c.crc32_more.ensures [] refl
