use Rattle.std.proofs.Common.{◌≡◌, drop}
use Rattle.std.specs.List.{fold}
use Rattle.elf_sections.specs.Crc.{byte_step}
use Rattle.elf_sections.proofs.crc.crc32_more.Given as goal

-- the bytes from the index on are left
abbrev pub invariant-loop-byte : goal.invariant-loop-byte
invariant-loop-byte l = fold byte_step l.initial.crc l.bytes ≡ fold byte_step l.crc (drop l.byte-index l.bytes)
