use Rattle.std.proofs.Common.{refl, sym}
use Rattle.gimli_index.specs.Views.{index_of}
use Rattle.lines_answers.proofs.opened_index.open_index.Goals as goal

pub returns-then-is_stale-clause-err : goal.returns-then-is_stale-clause-err
returns-then-is_stale-clause-err c =
    (index_of c.in_ok-index.index, sym c.in_ok-index.ensures.index, c.if-is_stale.ensures.0 refl)
