use Rattle.std.proofs.Common.{sym, ◌∙◌}
use Rattle.gimli_compilation.proofs.TextEnds.{found, not_found, size_in_front, size_past}
use Rattle.gimli_compilation.proofs.texts.size_before.Goals as goal

pub known_size-requires : goal.known_size-requires
known_size-requires g c =
    let bytes = (g.R.Reader.seen c.args.input.now).bytes in
    let none = rw c.in-Ok.ensures.bytes at c.in-Err-find.ensures in
    c.requires ∙ sym (size_past bytes c.args.gap c.in-Ok.ensures.within (not_found _ _ none))

pub returns-in-Ok-find : goal.returns-in-Ok-find
returns-in-Ok-find g c =
    let bytes = (g.R.Reader.seen c.args.input.now).bytes in
    let first = found _ _ (rw c.in-Ok.ensures.bytes at c.in-Ok-find.ensures) in
    first.0 ∙ sym (size_in_front bytes c.args.gap first.1)
