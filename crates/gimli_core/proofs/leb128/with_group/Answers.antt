use Rattle.gimli_core.proofs.Leb.{group_fits}
use Rattle.gimli_core.proofs.leb128.with_group.Goals as goal

pub overflow_add-result : goal.overflow_add-result
overflow_add-result c =
    rw c.from.ensures
    (group_fits c.args.value c.args.byte c.args.group c.requires.low c.requires.group c.requires.last).0

pub returns : goal.returns
returns c =
    rw c.from.ensures
    (group_fits c.args.value c.args.byte c.args.group c.requires.low c.requires.group c.requires.last).1
