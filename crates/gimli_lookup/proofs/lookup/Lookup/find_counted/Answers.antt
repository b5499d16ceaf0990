use Rattle.std.proofs.Common.{◌<◌, ◌^◌, List, length, subst, sym, ap, inl, inr, arith}
use Rattle.std.specs.Prelude.{All, None, Some, sum_by}
use Rattle.std.proofs.lemmas.Bool.{cases_lt}
use Rattle.std.proofs.lemmas.List.{take_all}
use Rattle.std.proofs.lemmas.List.Elements.{All-more}
use Rattle.std.proofs.lemmas.List.Sums.{sum_by_more, sum_by_more_le_part}
use Rattle.gimli_line.specs.declared.run.row.LineRow.{LineRow}
use Rattle.gimli_lookup.specs.inside.FirstPair.{HasNoPair}
use Rattle.gimli_lookup.specs.Scan.{most_probes}
use Rattle.gimli_lookup.proofs.Digits.{probes_few}
use Rattle.gimli_lookup.proofs.FirstPairs.{found_first}
use Rattle.gimli_lookup.proofs.Pairs.{first_found}
use Rattle.gimli_lookup.proofs.lookup.Lookup.find_counted.Goals as goal

pub find-requires : goal.find-requires
find-requires g c =
    let items = c.deref-rows-items.result.now in
    let i = c.loop-rows.rows-index in
    let lt : i < length items = omega arith in
    let total : sum_by length items
    < 2
    ^ 64 = subst (λ (xs : List (List LineRow)). sum_by length xs < 2 ^ 64) (sym c.deref-rows-items.ensures.value)
    (omega (arith, c.self.invariant.steps.countable)) in
    record {
      count = omega (
        arith,
        c.loop-rows.invariant.at_most,
        sum_by_more_le_part most_probes length items i c.rows-item.result lt probes_few,
        ap (λ (r : List LineRow). length r) c.rows-item.is,
        total,
      );
    }

pub returns-in-Some-clause-pair : goal.returns-in-Some-clause-pair
returns-in-Some-clause-pair g c =
    let items = c.deref-rows-items.result.now in
    let i = c.loop-rows.rows-index in
    let lt : i < length items = omega arith in
    rw (← c.self.view_is, ← c.deref-rows-items.ensures.value)
    (found_first c.args.a items (Some c.in-Some.pair)
    (first_found c.args.a items i c.rows-item.result c.in-Some.pair.0 c.in-Some.pair.1 lt c.rows-item.is
    c.loop-rows.invariant.none c.in-Some.ensures.pair))

pub loop-rows-preserved : goal.loop-rows-preserved
loop-rows-preserved g c =
    let items = c.deref-rows-items.result.now in
    let i = c.loop-rows.rows-index in
    let lt : i < length items = omega arith in
    let before = c.loop-rows.invariant in
    let rows = c.rows-item.result in
    let size = ap (λ (r : List LineRow). length r) c.rows-item.is in
    let sizes = sum_by_more length items i rows lt in
    record {
      none =
          All-more (HasNoPair c.args.a) items i rows lt before.none
          (subst (HasNoPair c.args.a) c.rows-item.is c.in_default.ensures.pair);
      at_least = λ some. elim (cases_lt 0 (length rows)) [
        | inl more ↦ omega (arith, c.find.ensures.at_least more)
        | inr empty ↦ omega (arith, before.at_least (omega (arith, some, sizes, size, empty)), c.find.ensures.grows)
      ];
      at_most =
          omega (
            arith,
            before.at_most,
            c.find.ensures.at_most,
            sum_by_more most_probes items i rows lt,
            ap most_probes c.rows-item.is,
          );
    }

pub returns-clause-pair : goal.returns-clause-pair
returns-clause-pair g c =
    let items = c.deref-rows-items.result.now in
    let i = c.loop-rows.rows-index in
    rw (← c.self.view_is, ← c.deref-rows-items.ensures.value)
    (found_first c.args.a items None
    (subst (All (HasNoPair c.args.a)) (take_all i items (omega (arith, c.loop-rows-test.false)))
    c.loop-rows.invariant.none))
