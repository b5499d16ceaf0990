use Rattle.std.proofs.Common.{[], ◌∷◌, refl}
use Rattle.std.proofs.lemmas.Bool.{false≢true}
use Rattle.gimli_lookup.proofs.PairSearches.{first_stays, pair_comes_after, none_comes_after}
use Rattle.gimli_lookup.proofs.run.PairSearch.with_row.Goals as goal

pub returns-then-is_between : goal.returns-then-is_between
returns-then-is_between c = λ ended unended known.
    let k = rw c.in-After.is at known in
    let between = c.if-is_between.ensures.0 refl in
    (k.0, pair_comes_after c.args.a unended k.2 c.in-After.last c.args.row k.1 k.3 between.0 between.1)

pub returns-else-is_between : goal.returns-else-is_between
returns-else-is_between c = λ ended unended known.
    let k = rw c.in-After.is at known in (
      k.0,
      none_comes_after c.args.a unended k.2 c.in-After.last c.args.row k.1 k.3 (λ from before.
          absurd (false≢true (c.if-is_between.ensures.1 (from, before)))),
      unended,
      refl,
    )

pub returns-in-Open : goal.returns-in-Open
returns-in-Open c = λ ended unended known.
    let k = rw c.in-Open.is at known in
    (k.0, first_stays c.args.a unended (c.args.row ∷ []) c.in-Open.first c.in-Open.second k.1)
