use Rattle.std.proofs.Common.{◌∙◌, List, ◌&&◌, nat_eq, ap}
use Rattle.std.specs.Prelude.{slice_index_or}
use Rattle.gimli_index.specs.declared.contents.Source.{Source}
use Rattle.gimli_index.proofs.Sources.{one_path}
use Rattle.gimli_index.proofs.TurnSteps.{here_at}
use Rattle.gimli_index.proofs.statements.have_one_path.Goals as goal

pub returns : goal.returns
returns c =
    λ t units limit are.
    let table = c.args.table.now in
    let m = c.args.first in
    let n = c.args.second in
    let d : Source = record { unit = 0; first = 0; size = 0; reason = 0 } in
    c.is_one_span.ensures
    ∙ ap (λ (ss : List Source).
    nat_eq (slice_index_or ss m d).reason 0 && nat_eq (slice_index_or ss n d).reason 0
    && nat_eq (slice_index_or ss m d).first (slice_index_or ss n d).first
    && nat_eq (slice_index_or ss m d).size (slice_index_or ss n d).size) c.sources-sources.ensures
    ∙ one_path t units table m n (slice_index_or table.sources m d) (slice_index_or table.sources n d) are
    (here_at table.sources m d c.requires.first) (here_at table.sources n d c.requires.second)
