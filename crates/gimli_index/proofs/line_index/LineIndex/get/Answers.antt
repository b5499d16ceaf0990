use Rattle.std.proofs.Common.{sym, ◌∙◌, ap, Some, option_map}
use Rattle.gimli_index.specs.Meaning.{start_at}
use Rattle.gimli_index.specs.Views.{index_of, place_of}
use Rattle.gimli_index.proofs.Values.{value_at, no_value_at}
use Rattle.gimli_index.proofs.line_index.LineIndex.get.Goals as goal

pub returns-then-index-self : goal.returns-then-index-self
returns-then-index-self c =
    sym (no_value_at (start_at (index_of c.args.self.now)) c.args.self.now.starts c.args.index c.if-index-self.true)

pub returns : goal.returns
returns c =
    let index = index_of c.args.self.now in
    ap (λ n. Some (record { address = n; place = option_map place_of c.entry_place.result })) c.address_at.ensures
    ∙ ap (λ p. Some (record { address = (start_at index c.args.index).address; place = p })) c.entry_place.ensures
    ∙ sym (value_at (start_at index) c.args.self.now.starts c.args.index c.if-index-self.false)
