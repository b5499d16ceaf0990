use Rattle.std.proofs.Common.{◌≡◌, ◌<◌, ◌++◌, ℕ, List, map, take, get_or}
use Rattle.std.specs.Prelude.{flat_map}
use Rattle.gimli_index.specs.Contents.{source_bytes, source_path, FitsSource}
use Rattle.gimli_index.specs.Order.{path_number}
use Rattle.gimli_index.specs.declared.contents.Source.{Source}
use Rattle.gimli_index.proofs.contents.put_sources.Given as goal

abbrev pub invariant-loop-index : goal.invariant-loop-index
invariant-loop-index l = record {
  bytes : (paths : List ℕ) → l.names ≡ map (λ s. path_number (source_path paths s)) l.sources
      → l.out.items ≡ l.initial.out.items ++ flat_map (source_bytes paths) (take l.index l.sources);
  fits : (k : ℕ) (d : Source) → k < l.index → FitsSource (get_or l.sources k d);
}
