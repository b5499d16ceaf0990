use Rattle.std.proofs.Common.{◌-◌, arith}
use Rattle.gimli_index.specs.Meaning.{statement_at}
use Rattle.gimli_index.specs.Views.{index_of}
use Rattle.gimli_index.proofs.LineStatements.{few_picked}
use Rattle.gimli_index.proofs.addresses.Addresses.most.Goals as goal

pub returns : goal.returns
returns c =
    let found = c.args.self.now in
    omega (
      arith,
      few_picked found.path.now found.line (statement_at (index_of found.index)) (found.end - found.next) found.next
          found.last,
      c.saturating_sub.ensures,
    )
