use Rattle.std.proofs.Common.{◌≡◌, ◌<◌, ◌^◌, map, take}
use Rattle.std.specs.Prelude.{All}
use Rattle.gimli_index.specs.Contents.{source_path}
use Rattle.gimli_index.specs.Order.{path_number}
use Rattle.gimli_index.proofs.contents.Contents.names.Given as goal

abbrev pub invariant-loop-source : goal.invariant-loop-source
invariant-loop-source l = record {
  numbers : l.names.items
      ≡ map (λ s. path_number (source_path l.self.paths.now s)) (take l.source-index l.self.sources.now);
  few : All (λ n. n < 2 ^ 31) l.names.items;
}
