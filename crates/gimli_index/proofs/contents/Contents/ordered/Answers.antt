use Rattle.std.proofs.Common.{◌≡◌, ◌∙◌, [], List, Ok, Err, Result, ap, arith, get_or, length, rules, subst}
use Rattle.std.proofs.Common.{sym}
use Rattle.std.specs.Prelude.{IfOk}
use Rattle.std.specs.List.{Contains}
use Rattle.std.specs.List.Sorted.{IsPermutation}
use Rattle.std.proofs.lemmas.List.{length-map}
use Rattle.std.proofs.lemmas.List.Sorted.{
  All-permutation,
  Contains-permutation,
  IsNonDecreasingBy-from_sort_by_key,
  IsPermutation-map,
  IsPermutation-sym,
  length_permutation,
}
use Rattle.gimli_index.specs.Made.{contents_of, SayTheSameLines}
use Rattle.gimli_index.specs.declared.contents.Statement.{Statement}
use Rattle.gimli_index.specs.declared.ordering.Ranked.{Ranked}
use Rattle.gimli_index.specs.inside.Ranks.{AreRanked, IsRanked}
use Rattle.gimli_index.proofs.KeptStatements.{moved_same, statements_of_ranked}
use Rattle.gimli_index.proofs.contents.Contents.ordered.Goals as goal

then_ok : {T E : Type 0} (r : Result T E) (P Q : T → Type 0) → ((x : T) → P x → Q x) → IfOk r P → IfOk r Q
then_ok (Ok x) P Q f is = f x is
then_ok (Err e) P Q f is = tt

moved_by : (all sorted : List Ranked) (statements : List Statement) → IsPermutation all sorted
    → statements_of_ranked all ≡ statements → IsPermutation statements (statements_of_ranked sorted)
moved_by all sorted statements moved are =
    subst (λ (xs : List Statement). IsPermutation xs (statements_of_ranked sorted)) are
    (IsPermutation-map (λ (r : Ranked). r.statement) all sorted moved)

pub distinct-requires : goal.distinct-requires
distinct-requires c =
    let contents = contents_of c.args.self.now [] in
    let old : List Ranked = c.in_ok-ranked.ranked.items in
    let new : List Ranked = c.sort_by_key.new.self.items in
    subst (AreRanked contents) (sym c.deref.ensures.value) (record {
      each = All-permutation (IsRanked contents) old new c.sort_by_key.ensures.permutation c.in_ok-ranked.ensures.each;
      rise =
          IsNonDecreasingBy-from_sort_by_key (λ (r : Ranked). r.rank) _ c.in_ok-sort_by_key.ensures.sorted (λ a r q k.
          search rules);
    })

pub returns-clause-same : goal.returns-clause-same
returns-clause-same c =
    let contents = contents_of c.args.self.now [] in
    let statements : List Statement = c.args.self.now.statements.now in
    let old : List Ranked = c.in_ok-ranked.ranked.items in
    let new : List Ranked = c.sort_by_key.new.self.items in
    let moved = moved_by old new statements c.sort_by_key.ensures.permutation c.in_ok-ranked.ensures.all in
    then_ok c.distinct.result _ _ (λ s is path line.
    moved_same contents statements (statements_of_ranked new) moved path line
    ∙ subst (λ (rs : List Ranked). SayTheSameLines contents (statements_of_ranked rs) s.items) c.deref.ensures.value is
    path line)
    c.distinct.ensures.same

pub returns-clause-few : goal.returns-clause-few
returns-clause-few c =
    let statements : List Statement = c.args.self.now.statements.now in
    let old : List Ranked = c.in_ok-ranked.ranked.items in
    let new : List Ranked = c.sort_by_key.new.self.items in
    then_ok c.distinct.result _ _ (λ s is. omega (
      arith,
      is,
      ap (λ (rs : List Ranked). length rs) c.deref.ensures.value,
      length_permutation old new c.sort_by_key.ensures.permutation,
      length-map old (λ (r : Ranked). r.statement),
      ap (λ (xs : List Statement). length xs) c.in_ok-ranked.ensures.all,
    ))
    c.distinct.ensures.few

pub returns-clause-within : goal.returns-clause-within
returns-clause-within c =
    let statements : List Statement = c.args.self.now.statements.now in
    let old : List Ranked = c.in_ok-ranked.ranked.items in
    let new : List Ranked = c.sort_by_key.new.self.items in
    let moved = moved_by old new statements c.sort_by_key.ensures.permutation c.in_ok-ranked.ensures.all in
    then_ok c.distinct.result _ _ (λ s is k d inside.
    Contains-permutation (statements_of_ranked new) statements (get_or s.items k d)
    (IsPermutation-sym statements (statements_of_ranked new) moved)
    (subst (λ (rs : List Ranked). Contains (statements_of_ranked rs) (get_or s.items k d)) c.deref.ensures.value
    (is k d inside)))
    c.distinct.ensures.within
