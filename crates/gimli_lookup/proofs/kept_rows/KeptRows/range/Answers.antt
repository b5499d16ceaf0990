use Rattle.std.proofs.Common.{◌≡◌, ◌∙◌, ◌-◌, ◌<◌, ℕ, length, ap, arith}
use Rattle.std.specs.Prelude.{slice_index_or}
use Rattle.gimli_lookup.proofs.CoveringPairs.{range_is}
use Rattle.gimli_lookup.proofs.kept_rows.KeptRows.range.Goals as goal

pub returns-clause-ends : goal.returns-clause-ends
returns-clause-ends c =
    let rows = c.self.inside.rows in
    let bounds = c.in_ok-last.ensures in
    let some : 0 < length rows = omega (arith, bounds.0, c.len.ensures) in
    let there : c.in_ok-last.last ≡ length rows - 1 = omega (arith, bounds.1, c.len.ensures) in
    rw (← c.self.view_is)
    (range_is rows c.address.result c.address-2.result some c.address.ensures (λ d.
    c.address-2.ensures d ∙ ap (λ (k : ℕ). (slice_index_or rows k d).address) there))
