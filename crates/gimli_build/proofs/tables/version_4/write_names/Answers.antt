use Rattle.std.specs.Prelude.{◌<◌}
use Rattle.gimli_build.proofs
use proofs.Common.{length, arith}
use proofs.writing.Joined.{next_seen}
use proofs.writing.Writes.{one_written, one_unwritten, passed_on}
use proofs.tables.version_4.write_names.Goals as goal

pub returns-in_err-write_name : goal.returns-in_err-write_name
returns-in_err-write_name g c =
    let names = c.args.names.now in
    let name = c.name-item.result in
    let i = c.loop-name.name-index in
    let lt : i < length names = omega arith in
    let so = rw (next_seen _ _ _ _ lt c.name-item.is) at c.loop-name.invariant.so in
    passed_on c.from_residual.ensures.1 (one_unwritten so c.in_err-write_name.ensures)

pub loop-name-preserved : goal.loop-name-preserved
loop-name-preserved g c =
    let names = c.args.names.now in
    let name = c.name-item.result in
    let i = c.loop-name.name-index in
    let lt : i < length names = omega arith in
    record {
      so = one_written (rw (next_seen _ _ _ _ lt c.name-item.is) at c.loop-name.invariant.so)
          c.in_ok-write_name.ensures;
    }
