use Rattle.std.proofs.Common.{◌≡◌, ◌<◌, ℕ, Err}
use Rattle.gimli_index.specs.Meaning.{path_of, source_at}
use Rattle.gimli_index.specs.Views.{index_of}
use Rattle.gimli_index.specs.declared.place.NoPath.TheVariants.{Outside}
use Rattle.gimli_index.proofs.line_index.LineIndex.paths_are_inside.Given as goal

abbrev pub invariant-loop-index : goal.invariant-loop-index
invariant-loop-index l =
    (k : ℕ) → k < l.index → path_of l.self.path_bytes.now (source_at (index_of l.self) k) ≡ Err Outside → ⊥
