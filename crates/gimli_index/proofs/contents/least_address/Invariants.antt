use Rattle.std.proofs.Common.{◌≡◌, take}
use Rattle.gimli_index.specs.Made.{all_addresses}
use Rattle.gimli_index.specs.inside.Ranks.{least_of}
use Rattle.gimli_index.proofs.contents.least_address.Given as goal

abbrev pub invariant-loop-statement : goal.invariant-loop-statement
invariant-loop-statement l = l.found ≡ least_of (all_addresses l.entries (take l.statement-index l.statements))
