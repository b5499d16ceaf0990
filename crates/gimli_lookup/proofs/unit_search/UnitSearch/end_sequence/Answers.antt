use Rattle.std.proofs.Common.{◌≡◌, ℕ, length, ap, ◌∙◌, rules}
use Rattle.gimli_lookup.specs.inside.UnitSearch.{UnitSearch}
use Rattle.gimli_lookup.proofs.UnitSearches.{sequence_ended}
use Rattle.gimli_lookup.proofs.unit_search.UnitSearch.end_sequence.Goals as goal

pub returns : goal.returns
returns c = λ unit addresses cut sees.
    let i = c.self.inside in
    let seen : UnitSearch = record {
      unit = i.unit;
      lowest = i.lowest;
      pairs = i.pairs.items;
      ended = i.ended;
      last = i.last;
      clear = i.clear;
    } in
    let size : c.len-self-inside.result ≡ length i.pairs.items = search rules in
    sequence_ended unit addresses cut c.end_part.new.self _
    (ap (λ (n : ℕ). record seen { ended = n }) size
    ∙ ap (λ (s : UnitSearch). record s { ended = length s.pairs }) c.self.view_is)
    (c.end_part.ensures unit addresses cut sees)
