use Rattle.std.proofs.Common.{◌≡◌, [], map, take}
use Rattle.std.specs.Prelude.{All}
use Rattle.gimli_index.specs.Made.{contents_of}
use Rattle.gimli_index.specs.declared.ordering.Ranked.{Ranked}
use Rattle.gimli_index.specs.inside.Ranks.{IsRanked}
use Rattle.gimli_index.proofs.contents.Contents.all_ranked.Given as goal

abbrev pub invariant-loop-statement : goal.invariant-loop-statement
invariant-loop-statement l = record {
  each : All (IsRanked (contents_of l.self [])) l.all.items;
  all : map (λ (r : Ranked). r.statement) l.all.items ≡ take l.statement-index l.self.statements.now;
}
