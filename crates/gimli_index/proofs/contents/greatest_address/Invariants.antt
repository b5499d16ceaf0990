use Rattle.std.proofs.Common.{◌≡◌, take}
use Rattle.gimli_index.specs.Made.{all_addresses, greatest}
use Rattle.gimli_index.proofs.contents.greatest_address.Given as goal

abbrev pub invariant-loop-statement : goal.invariant-loop-statement
invariant-loop-statement l = l.found ≡ greatest (all_addresses l.entries (take l.statement-index l.statements))
