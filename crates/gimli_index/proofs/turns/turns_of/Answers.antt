use Rattle.std.proofs.Common.{rules, List, map, subst}
use Rattle.std.specs.List.Sorted.{IsPermutation}
use Rattle.std.proofs.lemmas.List.Sorted.{All-permutation, IsNonDecreasingBy-from_sort_by_key, IsPermutation-map}
use Rattle.gimli_lookup.specs.Section.{KeptUnit}
use Rattle.gimli_index.specs.declared.turns.Turn.{Turn}
use Rattle.gimli_index.specs.inside.Turns.{IsTurn, UnitRows, turn_rows}
use Rattle.gimli_index.proofs.turns.turns_of.Goals as goal

pub returns-clause-turns : goal.returns-clause-turns
returns-clause-turns g c =
    let units : List KeptUnit = c.args.lookup.now in
    let old : List Turn = c.in_ok-turns.turns.items in
    let new : List Turn = c.sort_by_key.new.self.items in
    let shuffled : IsPermutation old new = c.sort_by_key.ensures.permutation in
    record {
      each = All-permutation (IsTurn units) old new shuffled c.in_ok-turns.ensures.each;
      all = λ d.
          subst (λ (xs : List UnitRows). IsPermutation xs (map (turn_rows units d) new)) (c.in_ok-turns.ensures.all d)
          (IsPermutation-map (turn_rows units d) old new shuffled);
    }

pub returns-clause-order : goal.returns-clause-order
returns-clause-order g c =
    IsNonDecreasingBy-from_sort_by_key (λ (turn : Turn). turn.key) _ c.in_ok-sort_by_key.ensures.sorted (λ a r q k.
    search rules)
