use Rattle.std.proofs.Common.{sym, ap, ◌∙◌, Option, Some, drop, cond, List, ℕ}
use Rattle.std.specs.List.{find}
use Rattle.std.specs.Option.{option_map}
use Rattle.elf_sections.specs.Notes.{Note, note_size, notes, is_build_id, build_id_in}
use Rattle.elf_sections.specs.NoteViews.{note_of}
use Rattle.elf_sections.proofs.NoteLists.{notes_more}
use Rattle.elf_sections.proofs.note.build_id_in.Goals as goal

-- another note is passed over
pub loop-note-preserved : goal.loop-note-preserved
loop-note-preserved c =
    let id : Option Note → Option (List ℕ) = option_map (λ (note : Note). note.descriptor) in
    c.loop-note.invariant
    ∙ ap (λ all. id (find is_build_id all))
    (notes_more c.args.layout c.loop-note.rest.now (note_of c.in-Some.note) (sym c.in-Some.ensures.note))
    ∙ ap (λ b.
    id (cond b (Some (note_of c.in-Some.note))
    (find is_build_id
    (notes c.args.layout (drop (note_size c.args.layout c.loop-note.rest.now) c.loop-note.rest.now)))))
    (sym c.is_build_id.ensures ∙ c.if-is_build_id.false)
    ∙ ap (build_id_in c.args.layout) (sym c.in-Some.ensures.rest)
