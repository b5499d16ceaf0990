use Rattle.std.proofs.Common.{rules}
use Rattle.std.proofs.lemmas.List.Sorted.{IsPartitionPoint-from_clause}
use Rattle.std.proofs.lemmas.Bool.{ltb-true}
use Rattle.gimli_bytes.proofs
use proofs.Common.{sym, ◌∙◌, arith}
use proofs.AscendingLemmas.{past_first, none_touched, first_touched}
use Rattle.gimli_bytes.specs.inside.Ascending.{is_past}
use proofs.relocatable_vec.is_one_touched.Goals as goal

pub returns-in-Some : goal.returns-in-Some
returns-in-Some c =
    let places = c.args.places.now in
    let r = c.in-Some.place.now in
    let point = IsPartitionPoint-from_clause (is_past c.args.offset) places c.partition_point-first.result
    c.partition_point-first.ensures.partitioned (past_first places c.args.offset c.requires)
    (λ x b f' k. search rules) in
    c.touches.ensures
    ∙ first_touched places c.args.offset c.args.size c.partition_point-first.result r c.requires point
    (ltb-true _ _ (sym c.in-Some.ensures.lookup.0)) c.in-Some.ensures.lookup.1

pub returns-in-None : goal.returns-in-None
returns-in-None c =
    let places = c.args.places.now in
    let point = IsPartitionPoint-from_clause (is_past c.args.offset) places c.partition_point-first.result
    c.partition_point-first.ensures.partitioned (past_first places c.args.offset c.requires)
    (λ x b f' k. search rules) in
    sym (none_touched places c.args.offset c.args.size c.partition_point-first.result point (grind (arith)))
