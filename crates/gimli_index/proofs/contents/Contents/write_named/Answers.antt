use Rattle.std.proofs.Common.{List, subst, sym}
use Rattle.gimli_index.specs.Made.{HasOrder, contents_of}
use Rattle.gimli_index.specs.declared.contents.Statement.{Statement}
use Rattle.gimli_index.proofs.contents.Contents.write_named.Goals as goal

pub write_by-requires-clause-ordered : goal.write_by-requires-clause-ordered
write_by-requires-clause-ordered c =
    subst (λ (xs : List Statement). HasOrder (contents_of c.args.self.now xs)) (sym c.as_slice-5.ensures.value)
    c.in_ok-statements.ensures.ordered
