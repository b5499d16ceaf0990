use Rattle.std.proofs.Common.{◌∙◌, ◌+◌, ◌∷◌, Bool, List, ℕ, Option, ap, drop, if◌then◌else◌, sym}
use Rattle.gimli_index.specs.Meaning.{Place, start_at, starts_of}
use Rattle.gimli_index.specs.Ranges.{Range, first_start, ranges_of}
use Rattle.gimli_index.specs.Views.{index_of}
use Rattle.gimli_index.proofs.Starts.{no_start, start_here}
use Rattle.gimli_index.proofs.ranges.PlaceRanges.next_range.Goals as goal

pub returns-then-index-self : goal.returns-then-index-self
returns-then-index-self c =
    let none = ap ranges_of (no_start (index_of c.args.self.now.index) c.long_from-index.result c.if-index-self.true) in
    (sym c.long_from-index.ensures.same ∙ none, none)

pub returns : goal.returns
returns c =
    let index = index_of c.args.self.now.index in
    let i = c.long_from-index.result in
    let start = start_at index i in
    let rest = drop (i + 1) (starts_of index) in
    let range : ℕ → Option ℕ → Option Place → List Range = λ a end place.
    (record { start = a; end = end; place = place }) ∷ ranges_of rest in
    sym c.long_from-index.ensures.same
    ∙ ap ranges_of (start_here index i c.if-index-self.false)
    ∙ ap (λ (b : Bool). if b then ranges_of rest else range start.address (first_start rest) start.place)
    (c.long_from-index.ensures.long c.if-index-self.false)
    ∙ sym (ap (λ a. range a (first_start rest) start.place) c.address_at.ensures)
    ∙ sym (ap (λ e. range c.address_at.result e start.place) c.address_from.ensures)
    ∙ sym (ap (range c.address_at.result c.address_from.result) c.entry_place.ensures)
