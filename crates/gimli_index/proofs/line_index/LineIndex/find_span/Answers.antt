use Rattle.std.proofs.Common.{◌≡◌, ◌+◌, ◌≤◌, ◌<◌, sym, ◌∙◌, ap, option_map, arith}
use Rattle.gimli_index.specs.Views.{index_of}
use Rattle.gimli_index.specs.Spans.{place_among}
use Rattle.gimli_index.proofs.Ascending.{numbers_ascend}
use Rattle.gimli_index.proofs.Finds.{at_start, below_base, below_starts, found_around}
use Rattle.gimli_index.proofs.line_index.LineIndex.find_span.Goals as goal

pub returns-in_err-number-clause-place : goal.returns-in_err-number-clause-place
returns-in_err-number-clause-place c =
    let index = index_of c.args.self.now in
    let below : c.args.address < index.base = omega (arith, c.in_err-number.ensures) in
    λ ascending.
    ap (option_map (place_among c.args.self.now.path_bytes.now)) c.from_residual.ensures
    ∙ sym (below_base index c.args.address below)

pub returns-in_err-index-clause-place : goal.returns-in_err-index-clause-place
returns-in_err-index-clause-place c =
    let index = index_of c.args.self.now in
    let number = c.in_ok-number.number in
    let is : c.args.address ≡ index.base + number = omega (arith, c.in_ok-number.ensures) in
    λ ascending. ap (option_map (place_among c.args.self.now.path_bytes.now)) c.from_residual-in_err-index.ensures
    ∙ sym (below_starts index c.args.address number is
    (λ k within. let above : c.starts_up_to.result ≤ k = omega (arith, c.in_err-index.ensures) in
    c.starts_up_to.ensures.after (numbers_ascend index ascending) k above within))

pub returns-clause-place : goal.returns-clause-place
returns-clause-place c =
    let index = index_of c.args.self.now in
    let number = c.in_ok-number.number in
    let i = c.in_ok-index.index in
    let is : c.args.address ≡ index.base + number = omega (arith, c.in_ok-number.ensures) in
    let last : i + 1 ≡ c.starts_up_to.result = omega (arith, c.in_ok-index.ensures) in
    λ ascending. c.entry_span.ensures.place
    ∙ sym (at_start index c.args.address number i is (omega (arith, c.starts_up_to.ensures.within))
    (c.starts_up_to.ensures.before (numbers_ascend index ascending) i (omega arith))
    (λ k later within. c.starts_up_to.ensures.after (numbers_ascend index ascending) k (omega arith) within))

pub returns-clause-range : goal.returns-clause-range
returns-clause-range c =
    let index = index_of c.args.self.now in
    let number = c.in_ok-number.number in
    let i = c.in_ok-index.index in
    let is : c.args.address ≡ index.base + number = omega (arith, c.in_ok-number.ensures) in
    let last : i + 1 ≡ c.starts_up_to.result = omega (arith, c.in_ok-index.ensures) in
    λ ascending.
    found_around index c.args.address number i c.entry_span.result is (omega (arith, c.starts_up_to.ensures.within))
    (c.starts_up_to.ensures.before (numbers_ascend index ascending) i (omega arith)) (numbers_ascend index ascending)
    (λ k later within. c.starts_up_to.ensures.after (numbers_ascend index ascending) k (omega arith) within)
    c.entry_span.ensures.range
