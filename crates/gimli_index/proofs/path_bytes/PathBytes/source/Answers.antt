use Rattle.std.proofs.Common.{length, ap, arith, List, ℕ}
use Rattle.gimli_index.proofs.PathLists.{span_short}
use Rattle.gimli_index.proofs.path_bytes.PathBytes.source.Goals as goal

pub overflow_cast-result : goal.overflow_cast-result
overflow_cast-result c =
    let placed = c.in_ok-first-in-Ok.ensures.placed in
    let short = span_short c.place.new.self c.in_ok-first-in-Ok.first c.as_slice.result.now placed.are placed.span in
    omega (arith, short, ap (λ (xs : List ℕ). length xs) c.as_slice.ensures.value, c.len.ensures, c.in-Ok.path.ok.0)
