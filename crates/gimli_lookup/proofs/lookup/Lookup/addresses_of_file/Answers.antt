use Rattle.std.proofs.Common.{ℕ, Bool, IfOk, subst}
use Rattle.gimli_lookup.specs.Statements.{addresses_of, AreAddressesFrom}
use Rattle.gimli_lookup.proofs.StatementRuns.{among_one}
use Rattle.gimli_lookup.proofs.lookup.Lookup.addresses_of_file.Goals as goal

pub returns-clause-ok : goal.returns-clause-ok
returns-clause-ok g c =
    rw (← c.self.view_is, ← c.deref.ensures.value)
    (subst (λ (is_file : ℕ → Bool).
    IfOk c.addresses_from.result (AreAddressesFrom (addresses_of is_file c.deref.result.now) c.args.line))
    (among_one c.args.file) c.addresses_from.ensures.ok)
