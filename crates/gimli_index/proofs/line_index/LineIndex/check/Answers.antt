use Rattle.gimli_index.specs.Views.{index_of}
use Rattle.gimli_index.proofs.Ascending.{numbers_ascend, starts_ascend}
use Rattle.gimli_index.proofs.line_index.LineIndex.check.Goals as goal

pub returns-then-not-starts_ascend-clause-err : goal.returns-then-not-starts_ascend-clause-err
returns-then-not-starts_ascend-clause-err c =
    λ ascending.
    c.starts_ascend.ensures.no c.if-not-starts_ascend.true (numbers_ascend (index_of c.args.self.now) ascending)

pub returns-clause-ok : goal.returns-clause-ok
returns-clause-ok c = record {
  ascending = starts_ascend (index_of c.args.self.now) (c.starts_ascend.ensures.yes c.if-not-starts_ascend.false);
  inside = c.paths_are_inside.ensures.yes c.if-not-paths_are_inside.false;
  ordered = c.is_ordered.ensures.yes c.if-not-is_ordered.false;
}
