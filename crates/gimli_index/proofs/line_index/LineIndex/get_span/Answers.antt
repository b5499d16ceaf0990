use Rattle.std.proofs.Common.{sym, ◌∙◌, ap, Some, option_map}
use Rattle.gimli_index.specs.Meaning.{start_at}
use Rattle.gimli_index.specs.Spans.{place_among}
use Rattle.gimli_index.specs.Views.{index_of}
use Rattle.gimli_index.proofs.Finds.{place_around}
use Rattle.gimli_index.proofs.Values.{value_at, no_value_at}
use Rattle.gimli_index.proofs.line_index.LineIndex.get_span.Goals as goal

pub returns-then-index-self-clause-start : goal.returns-then-index-self-clause-start
returns-then-index-self-clause-start c =
    sym (no_value_at (start_at (index_of c.args.self.now)) c.args.self.now.starts c.args.index c.if-index-self.true)

pub returns-clause-start : goal.returns-clause-start
returns-clause-start c =
    let index = index_of c.args.self.now in
    let place = option_map (place_among c.args.self.now.path_bytes.now) c.entry_span.result in
    ap (λ n. Some (record { address = n; place = place })) c.address_at.ensures
    ∙ ap (λ p. Some (record { address = (start_at index c.args.index).address; place = p })) c.entry_span.ensures.place
    ∙ sym (value_at (start_at index) c.args.self.now.starts c.args.index c.if-index-self.false)

pub returns-clause-around : goal.returns-clause-around
returns-clause-around c =
    place_around (index_of c.args.self.now) c.args.index _ _ c.entry_span.result c.if-index-self.false
    c.address_at.ensures c.address_from.ensures c.entry_span.ensures.range
