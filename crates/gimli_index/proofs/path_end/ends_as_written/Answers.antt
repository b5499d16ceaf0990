use Rattle.std.proofs.Common.{◌∙◌, sym, rules}
use Rattle.gimli_index.proofs.WrittenEnds.{ends_as_written}
use Rattle.gimli_index.proofs.path_end.ends_as_written.Goals as goal

pub returns : goal.returns
returns c =
    λ _.
    ends_as_written c.args.path.now (search rules) (sym c.is_separator.ensures ∙ c.if-is_separator.false) (search rules)
