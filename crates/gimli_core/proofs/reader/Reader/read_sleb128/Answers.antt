use Rattle.gimli_core.proofs.Taken.{read_of, taken_of}
use Rattle.std.proofs.Common.{rules, ◌≡◌, arith, to_z, of_z, w64}
use Rattle.std.proofs.lemmas.Int.{ints}
use Rattle.std.proofs.lemmas.Result.{err_from_is_err_and}
use Rattle.gimli_core.proofs
use proofs.Leb.{low_grows}
use proofs.SignedLeb.{ends_err, ends_ok, goes_on, ends_tenth}
use proofs.reader.Reader.read_sleb128.Goals as goal

pub returns-in_err-byte : goal.returns-in_err-byte
returns-in_err-byte g c =
    let p = err_from_is_err_and c.from_residual.result c.from_residual.ensures.1 in
    rw (p.1, p.2)
    (taken_of (ends_err _ _ _ c.loop-group.group _ _ c.loop-group.invariant.so_far (read_of c.in_err-byte.ensures))
    (search rules))

pub sign_extended-requires-clause-low : goal.sign_extended-requires-clause-low
sign_extended-requires-clause-low g c = rw c.with_group-value.ensures (low_grows _ _ _ c.loop-group.invariant.low)

pub returns-then-byte-lt128 : goal.returns-then-byte-lt128
returns-then-byte-lt128 g c =
    taken_of (
    let back : to_z w64 (of_z w64 c.sign_extended.result) ≡ c.sign_extended.result = omega (arith, ints) in
    rw (back, c.sign_extended.ensures, c.with_group-value.ensures)
    (ends_ok _ _ _ c.loop-group.group c.in_ok-byte.byte _ c.loop-group.invariant.so_far c.loop-group-test.true
    c.if-byte-lt128.true (read_of c.in_ok-byte.ensures)))
    (search rules)

pub loop-group-preserved : goal.loop-group-preserved
loop-group-preserved g c = record {
  so_far =
      rw c.with_group-value.ensures
      (goes_on _ _ _ c.loop-group.group c.in_ok-byte.byte _ c.loop-group.invariant.so_far c.loop-group-test.true
      c.if-byte-lt128.false (read_of c.in_ok-byte.ensures));
  order = search rules;
  low = rw c.with_group-value.ensures (low_grows _ _ _ c.loop-group.invariant.low);
}

pub returns-in_err-last : goal.returns-in_err-last
returns-in_err-last g c =
    let p = err_from_is_err_and c.from_residual-in_err-last.result c.from_residual-in_err-last.ensures.1 in
    rw (p.1, p.2)
    (taken_of (ends_err _ _ _ c.loop-group.group _ _ c.loop-group.invariant.so_far (read_of c.in_err-last.ensures))
    (search rules))

pub returns : goal.returns
returns g c =
    taken_of (
    rw c.with_tenth.ensures
    (ends_tenth _ _ _ c.loop-group.group c.in_ok-last.last _ c.loop-group.invariant.so_far c.loop-group-test.false
    (omega arith) (read_of c.in_ok-last.ensures)))
    (search rules)
