use Rattle.std.proofs.Common.{nat_eq, sym, ◌∙◌}
use Rattle.std.proofs.lemmas.List.Filters.{dedup_is}
use Rattle.gimli_lookup.proofs.AscendingOnce.{ascending_once_dedup, ascending_once_permutation}
use Rattle.gimli_lookup.proofs.statements.put_in_order.Goals as goal

pub returns : goal.returns
returns c =
    let sorted = c.sort_unstable.new.self.items in
    dedup_is nat_eq sorted c.dedup.new.self.items c.dedup.ensures.filtered
    ∙ ascending_once_dedup sorted c.sort_unstable.ensures.sorted
    ∙ sym (ascending_once_permutation c.args.numbers.now.items sorted c.sort_unstable.ensures.permutation)
