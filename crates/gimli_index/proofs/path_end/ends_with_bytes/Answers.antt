use Rattle.std.proofs.Common.{◌∙◌}
use Rattle.std.proofs.lemmas.Slice.Eq.{bytes_eq-Decides}
use Rattle.gimli_index.proofs.WrittenEnds.{last_bytes}
use Rattle.gimli_index.proofs.path_end.ends_with_bytes.Goals as goal

pub returns : goal.returns
returns c =
    λ front is.
    c.eq.ensures ∙ (bytes_eq-Decides _ c.args.end.now).1 (last_bytes c.args.path.now front c.args.end.now is)
