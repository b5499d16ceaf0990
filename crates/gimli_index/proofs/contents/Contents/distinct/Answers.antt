use Rattle.std.proofs.Common.{◌<◌, ◌≤◌, ◌+◌, ◌∙◌, [], List, ap, arith, length, subst, sym, Vec, Global}
use Rattle.gimli_index.specs.Made.{contents_of}
use Rattle.gimli_index.specs.declared.contents.Statement.{Statement}
use Rattle.gimli_index.specs.declared.ordering.Ranked.{Ranked}
use Rattle.gimli_index.proofs.KeptStatements.{all_kept, none_kept, one_dropped, one_kept, AreKept}
use Rattle.gimli_index.proofs.contents.Contents.distinct.Goals.{then-not-is_repeated_at+in_ok-push}
use Rattle.gimli_index.proofs.contents.Contents.distinct.Goals.{else-not-is_repeated_at}
use Rattle.gimli_index.proofs.contents.Contents.distinct.Goals as goal

pub loop-index-preserved : goal.loop-index-preserved
loop-index-preserved c =
    let contents = contents_of c.args.self.now [] in
    let ranked : List Ranked = c.args.ranked.now in
    let index = c.loop-index.index in
    let old : List Statement = c.loop-index.distinct.items in
    let inside : index < length ranked = omega arith in
    elim c.if-not-is_repeated_at.branch [
      | then-not-is_repeated_at+in_ok-push w ↦
          subst (AreKept contents ranked (index + 1))
          (sym (ap (λ (v : Vec Statement Global). v.items) w.distinct-is ∙ w.in_ok-push.ensures.items))
          (one_kept contents ranked c.requires index old c.loop-index.invariant inside)
      | else-not-is_repeated_at w ↦
          subst (AreKept contents ranked (index + 1)) (sym (ap (λ (v : Vec Statement Global). v.items) w.distinct-is))
          (one_dropped contents ranked c.requires index old c.loop-index.invariant inside
          (c.is_repeated_at.ensures.some w.if-not-is_repeated_at.false)
          (c.is_repeated_at.ensures.same w.if-not-is_repeated_at.false))
    ]

pub returns-clause-same : goal.returns-clause-same
returns-clause-same c =
    let end : length c.args.ranked.now ≤ c.loop-index.index = omega arith in
    (all_kept (contents_of c.args.self.now []) c.args.ranked.now c.loop-index.index c.loop-index.distinct.items end
    c.loop-index.invariant).0

pub returns-clause-few : goal.returns-clause-few
returns-clause-few c =
    let end : length c.args.ranked.now ≤ c.loop-index.index = omega arith in
    (all_kept (contents_of c.args.self.now []) c.args.ranked.now c.loop-index.index c.loop-index.distinct.items end
    c.loop-index.invariant).1

pub loop-index-init : goal.loop-index-init
loop-index-init c =
    let contents = contents_of c.args.self.now [] in
    let ranked : List Ranked = c.args.ranked.now in
    subst (AreKept contents ranked 0) (sym c.new-distinct.ensures.items) (none_kept contents ranked)
