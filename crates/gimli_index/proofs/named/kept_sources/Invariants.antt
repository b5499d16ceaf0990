use Rattle.std.proofs.Common.{◌≡◌, ◌++◌, drop}
use Rattle.gimli_index.specs.inside.Kept.{kept}
use Rattle.gimli_index.proofs.named.kept_sources.Given as goal

abbrev pub invariant-loop-index : goal.invariant-loop-index
invariant-loop-index l = l.some.items ++ kept (drop l.index l.named) (drop l.index l.sources) ≡ kept l.named l.sources
