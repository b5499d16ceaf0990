use Rattle.gimli_core.proofs.Taken.{part_read_of}
use Rattle.gimli_compilation.proofs.TextEnds.{cut_empty}
use Rattle.gimli_compilation.proofs.texts.cut.Goals as goal

pub returns-then-is_empty : goal.returns-then-is_empty
returns-then-is_empty g c =
    let none = c.is_empty.ensures.0 c.if-is_empty.true in
    let read = rw none at (part_read_of c.in_ok-text.ensures) in
    rw c.into_u64.ensures (cut_empty (g.R.Reader.seen c.args.input).bytes _ _ read c.requires)
