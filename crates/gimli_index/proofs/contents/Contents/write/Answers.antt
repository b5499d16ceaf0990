use Rattle.std.proofs.Common.{◌∙◌, ◌++◌, List, ap, subst}
use Rattle.gimli_index.specs.Contents.{index_bytes, Fits}
use Rattle.gimli_index.specs.Made.{contents_of}
use Rattle.gimli_index.specs.declared.contents.Statement.{Statement}
use Rattle.gimli_index.proofs.contents.Contents.write.Goals as goal

pub returns-clause-written : goal.returns-clause-written
returns-clause-written c =
    let ordered : List Statement = c.in_ok-statements.statements.items in
    record {
      statements = ordered;
      bytes =
          c.in_ok-write_parts.ensures.bytes
          ∙ ap (λ (xs : List Statement). c.args.out.now.items ++ index_bytes (contents_of c.args.self.now xs))
          c.deref-3.ensures.value;
      fits =
          subst (λ (xs : List Statement). Fits (contents_of c.args.self.now xs)) c.deref-3.ensures.value
          c.in_ok-write_parts.ensures.fits;
      ordered = c.in_ok-statements.ensures.ordered;
      same = c.in_ok-statements.ensures.same;
    }
