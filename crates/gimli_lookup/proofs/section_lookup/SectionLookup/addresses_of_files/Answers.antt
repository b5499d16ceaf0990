use Rattle.std.proofs.Common.{List, IfOk, subst}
use Rattle.gimli_line.specs.declared.run.row.LineRow.{LineRow}
use Rattle.gimli_lookup.specs.Statements.{addresses_of, AreAddressesFrom}
use Rattle.gimli_lookup.specs.inside.Statements.{is_among}
use Rattle.gimli_lookup.proofs.section_lookup.SectionLookup.addresses_of_files.Goals as goal

pub returns-clause-ok : goal.returns-clause-ok
returns-clause-ok g c =
    λ d.
    subst
    (λ (sequences : List (List LineRow)). IfOk c.addresses_from.result
    (AreAddressesFrom (addresses_of (is_among c.args.files.now) sequences) c.args.line))
    (c.sequences_of.ensures d) c.addresses_from.ensures.ok
