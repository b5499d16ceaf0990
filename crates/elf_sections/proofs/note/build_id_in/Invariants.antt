use Rattle.std.proofs.Common.{◌≡◌, length}
use Rattle.elf_sections.specs.Notes.{build_id_in}
use Rattle.elf_sections.proofs.note.build_id_in.Given as goal

-- the build id is that of the rest
abbrev pub invariant-loop-note : goal.invariant-loop-note
invariant-loop-note l = build_id_in l.layout l.section ≡ build_id_in l.layout l.rest

abbrev pub decreases-loop-note : goal.decreases-loop-note
decreases-loop-note l = length l.rest
