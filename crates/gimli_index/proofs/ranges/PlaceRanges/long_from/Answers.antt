use Rattle.std.proofs.Common.{◌∙◌, ◌+◌, ◌∷◌, Bool, List, ap, arith, drop, if◌then◌else◌, sym}
use Rattle.gimli_index.specs.Meaning.{start_at, starts_of}
use Rattle.gimli_index.specs.Ranges.{Range, first_start, ranges_of}
use Rattle.gimli_index.specs.Views.{index_of}
use Rattle.gimli_index.proofs.Starts.{no_start, start_here}
use Rattle.gimli_index.proofs.ranges.PlaceRanges.long_from.Goals as goal

pub loop-index-preserved : goal.loop-index-preserved
loop-index-preserved c =
    let index = index_of c.args.self.now.index in
    let i = c.loop-index.index in
    let start = start_at index i in
    let rest = drop (i + 1) (starts_of index) in
    let here : List Range =
    (record { start = start.address; end = first_start rest; place = start.place }) ∷ ranges_of rest in
    sym (ap ranges_of (start_here index i c.loop-index-test.true)
    ∙ ap (λ (b : Bool). if b then ranges_of rest else here) (sym c.is_empty_at.ensures ∙ c.if-not-is_empty_at.false))
    ∙ c.loop-index.invariant

pub returns-clause-same : goal.returns-clause-same
returns-clause-same c =
    let index = index_of c.args.self.now.index in
    ap ranges_of (no_start index c.args.self.now.index.starts (omega arith))
    ∙ sym (ap ranges_of (no_start index c.loop-index.index c.loop-index-test.false)) ∙ c.loop-index.invariant
