use Rattle.std.proofs.Common.{ℕ, Bool, List, IfOk, nat_eq, subst}
use Rattle.gimli_line.specs.declared.run.row.LineRow.{LineRow}
use Rattle.gimli_lookup.specs.Statements.{addresses_of, AreAddressesFrom}
use Rattle.gimli_lookup.proofs.StatementRuns.{among_one}
use Rattle.gimli_lookup.proofs.section_lookup.SectionLookup.addresses_of_file.Goals as goal

pub returns-clause-ok : goal.returns-clause-ok
returns-clause-ok g c =
    λ d.
    subst (λ (sequences : List (List LineRow)).
    IfOk c.addresses_from.result (AreAddressesFrom (addresses_of (nat_eq c.args.file) sequences) c.args.line))
    (c.sequences_of.ensures d)
    (subst (λ (is_file : ℕ → Bool).
    IfOk c.addresses_from.result (AreAddressesFrom (addresses_of is_file c.sequences_of.result.now) c.args.line))
    (among_one c.args.file) c.addresses_from.ensures.ok)
