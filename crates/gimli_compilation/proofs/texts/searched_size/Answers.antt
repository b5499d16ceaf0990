use Rattle.std.proofs.Common.{sym, ◌∙◌}
use Rattle.gimli_compilation.proofs.TextEnds.{not_found}
use Rattle.gimli_compilation.proofs.texts.searched_size.Goals as goal

pub returns-in-Err : goal.returns-in-Err
returns-in-Err g c =
    c.len.ensures ∙ sym (not_found (g.R.Reader.seen c.args.input.now).bytes c.in-Err.field-0 c.in-Err.ensures)
