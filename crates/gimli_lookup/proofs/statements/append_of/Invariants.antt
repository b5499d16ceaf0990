use Rattle.std.proofs.Common.{◌≡◌, ◌++◌, take}
use Rattle.gimli_lookup.specs.Statements.{addresses_of}
use Rattle.gimli_lookup.specs.inside.Statements.{is_among}
use Rattle.gimli_lookup.proofs.statements.append_of.Given as goal

abbrev pub invariant-loop-rows : goal.invariant-loop-rows
invariant-loop-rows l =
    l.addresses.items
    ≡ l.initial.addresses.items ++ addresses_of (is_among l.files) (take l.rows-index l.sequences) l.line
