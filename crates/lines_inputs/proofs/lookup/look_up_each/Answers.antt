use Rattle.std.proofs.Common.{get_or}
use Rattle.std.proofs.lemmas.List.{get_or_default}
use Rattle.lines_inputs.proofs.lookup.look_up_each.Goals as goal

pub returns-in-Ok-clause-each : goal.returns-in-Ok-clause-each
returns-in-Ok-clause-each g c =
    λ k d lt. (k, lt, get_or_default c.args.addresses.items k (get_or c.args.addresses.items k d) d lt)
