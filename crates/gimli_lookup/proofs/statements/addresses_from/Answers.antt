use Rattle.gimli_lookup.specs.Statements.{addresses_of}
use Rattle.gimli_lookup.specs.inside.Statements.{is_among}
use Rattle.gimli_lookup.proofs.statements.addresses_from.Goals as goal

pub returns-clause-ok : goal.returns-clause-ok
returns-clause-ok c =
    c.in_order.ensures (addresses_of (is_among c.args.files.now) c.args.sequences.now) c.args.asked
    c.in_ok-collect_from.ensures.ok
