-- What a note of the program is.
use Rattle.elf_sections.specs.Notes.{Note}
use Rattle.elf_sections.specs.declared.note.Note.{Note as ReadNote}

abbrev pub note_of : ReadNote → Note
note_of note = record { kind = note.kind; name = note.name.now; descriptor = note.descriptor.now }
