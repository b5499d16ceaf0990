use Rattle.gimli_compilation.proofs.TextEnds.{size_known}
use Rattle.gimli_compilation.proofs.texts.Texts.size_at.Goals as goal

pub known_size-requires : goal.known_size-requires
known_size-requires g c =
    let section = (g.R.Reader.seen c.self.inside.section).bytes in
    rw (c.requires, ← c.self.view_is)
    (size_known section _ _ c.args.offset (c.self.invariant _ _ c.in-Some.ensures.kept) c.if-start-offset.true
    c.in-Some.ensures.after)
