use Rattle.gimli_build.proofs
use proofs.sizes.UnitLengths.{header-counted}
use proofs.unit.refused.header_length.Goals as goal

pub returns : goal.returns
returns c = λ texts.
    header-counted c.args.program.now texts _ _ _ (c.tables_size.ensures texts)
    (rw c.version.ensures at c.fixed_size.ensures) c.saturating_add.ensures
