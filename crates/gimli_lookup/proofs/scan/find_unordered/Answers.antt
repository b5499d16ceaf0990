use Rattle.std.proofs.Common.{◌+◌, ◌<◌, ℕ, List, length, drop, subst, arith}
use Rattle.std.specs.Prelude.{slice_index_or}
use Rattle.std.proofs.lemmas.List.{drop_more, drop_all}
use Rattle.gimli_lookup.proofs.Unordered.{Scanned, next_within, next_fits, none_before_end, first_unordered}
use Rattle.gimli_lookup.proofs.Unordered.{more_at_most, scan_more, none_scanned}
use Rattle.gimli_lookup.proofs.Unordered.{end_at_least}
use Rattle.gimli_lookup.proofs.scan.find_unordered.Goals as goal

pub returns-then-end-index-clause-found : goal.returns-then-end-index-clause-found
returns-then-end-index-clause-found c =
    let l = c.loop-index in
    let indexes = c.args.indexes.now in
    let sequences = c.args.sequences.now in
    let index = slice_index_or indexes l.index-index 0 in
    let within : l.index-index < length indexes = omega arith in
    let scanned =
    subst (λ (left : List ℕ). Scanned c.args.a sequences left c.args.probes.now l.probes)
    (drop_more indexes l.index-index 0 within) l.invariant in
    none_before_end c.args.a sequences index (drop (l.index-index + 1) indexes) c.args.probes.now l.probes scanned
    c.args.end c.if-end-index.true

pub returns-then-end-index-clause-at_least : goal.returns-then-end-index-clause-at_least
returns-then-end-index-clause-at_least c = λ is_all some.
    let l = c.loop-index in
    let indexes = c.args.indexes.now in
    let sequences = c.args.sequences.now in
    let index = slice_index_or indexes l.index-index 0 in
    let within : l.index-index < length indexes = omega arith in
    let scanned =
    subst (λ (left : List ℕ). Scanned c.args.a sequences left c.args.probes.now l.probes)
    (drop_more indexes l.index-index 0 within) l.invariant in
    let inside =
    next_within c.args.a sequences index (drop (l.index-index + 1) indexes) c.args.probes.now l.probes scanned in
    absurd (omega (arith, inside, is_all, c.if-end-index.true))

pub find_by_scan-requires : goal.find_by_scan-requires
find_by_scan-requires c =
    let l = c.loop-index in
    let indexes = c.args.indexes.now in
    let sequences = c.args.sequences.now in
    let index = slice_index_or indexes l.index-index 0 in
    let within : l.index-index < length indexes = omega arith in
    let scanned =
    subst (λ (left : List ℕ). Scanned c.args.a sequences left c.args.probes.now l.probes)
    (drop_more indexes l.index-index 0 within) l.invariant in
    record {
      count =
          next_fits c.args.a sequences index (drop (l.index-index + 1) indexes) c.args.probes.now l.probes scanned
          c.index-sequences-index.result
          c.index-sequences-index.is c.requires.count;
    }

pub returns-in-Some-clause-found : goal.returns-in-Some-clause-found
returns-in-Some-clause-found c =
    let l = c.loop-index in
    let indexes = c.args.indexes.now in
    let sequences = c.args.sequences.now in
    let index = slice_index_or indexes l.index-index 0 in
    let within : l.index-index < length indexes = omega arith in
    let scanned =
    subst (λ (left : List ℕ). Scanned c.args.a sequences left c.args.probes.now l.probes)
    (drop_more indexes l.index-index 0 within) l.invariant in
    first_unordered c.args.a sequences index (drop (l.index-index + 1) indexes) c.args.probes.now l.probes scanned
    c.args.end c.index-sequences-index.result
    c.in-Some.row c.in-Some.next c.if-end-index.false c.index-sequences-index.is c.in-Some.ensures.pair

pub returns-in-Some-clause-at_most : goal.returns-in-Some-clause-at_most
returns-in-Some-clause-at_most c =
    let l = c.loop-index in
    let indexes = c.args.indexes.now in
    let sequences = c.args.sequences.now in
    let index = slice_index_or indexes l.index-index 0 in
    let within : l.index-index < length indexes = omega arith in
    let scanned =
    subst (λ (left : List ℕ). Scanned c.args.a sequences left c.args.probes.now l.probes)
    (drop_more indexes l.index-index 0 within) l.invariant in
    more_at_most c.args.a sequences index (drop (l.index-index + 1) indexes) c.args.probes.now l.probes scanned
    c.index-sequences-index.result
    c.index-sequences-index.is
    c.find_by_scan.new.probes c.find_by_scan.ensures.grows c.find_by_scan.ensures.at_least
    c.find_by_scan.ensures.at_most

pub loop-index-preserved : goal.loop-index-preserved
loop-index-preserved c =
    let l = c.loop-index in
    let indexes = c.args.indexes.now in
    let sequences = c.args.sequences.now in
    let index = slice_index_or indexes l.index-index 0 in
    let within : l.index-index < length indexes = omega arith in
    let scanned =
    subst (λ (left : List ℕ). Scanned c.args.a sequences left c.args.probes.now l.probes)
    (drop_more indexes l.index-index 0 within) l.invariant in
    scan_more c.args.a sequences index (drop (l.index-index + 1) indexes) c.args.probes.now l.probes scanned
    c.index-sequences-index.result
    c.index-sequences-index.is
    c.find_by_scan.new.probes c.find_by_scan.ensures.grows c.find_by_scan.ensures.at_least
    c.find_by_scan.ensures.at_most c.in_default.ensures.pair

pub returns-clause-found : goal.returns-clause-found
returns-clause-found c =
    let l = c.loop-index in
    let indexes = c.args.indexes.now in
    let sequences = c.args.sequences.now in
    let scanned = subst (λ (left : List ℕ). Scanned c.args.a sequences left c.args.probes.now l.probes)
    (drop_all l.index-index indexes (omega (arith, c.loop-index-test.false))) l.invariant in
    none_scanned c.args.a sequences c.args.probes.now l.probes scanned c.args.end c.requires.end

pub returns-clause-at_least : goal.returns-clause-at_least
returns-clause-at_least c = λ is_all some.
    let l = c.loop-index in
    let indexes = c.args.indexes.now in
    let sequences = c.args.sequences.now in
    let scanned = subst (λ (left : List ℕ). Scanned c.args.a sequences left c.args.probes.now l.probes)
    (drop_all l.index-index indexes (omega (arith, c.loop-index-test.false))) l.invariant in
    end_at_least c.args.a sequences c.args.probes.now l.probes scanned some
