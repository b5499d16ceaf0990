use Rattle.std.proofs.Common.{◌≡◌, ◌++◌, drop}
use Rattle.gimli_lookup.specs.Statements.{addresses_in}
use Rattle.gimli_lookup.proofs.StatementRuns.{addresses_on}
use Rattle.gimli_lookup.specs.inside.Statements.{is_among}
use Rattle.gimli_lookup.proofs.statements.append_in.Given as goal

abbrev pub invariant-loop-index : goal.invariant-loop-index
invariant-loop-index l =
    l.addresses.items ++ addresses_on (is_among l.files) l.line l.has_address (drop l.index l.rows)
    ≡ l.initial.addresses.items ++ addresses_in (is_among l.files) l.line l.rows
