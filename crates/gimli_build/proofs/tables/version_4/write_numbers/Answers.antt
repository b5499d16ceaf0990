use Rattle.gimli_build.proofs
use proofs.writing.Writes.{joins, passed_on, unwritten, writes}
use proofs.tables.version_4.write_numbers.Goals as goal

pub returns-clause-writes : goal.returns-clause-writes
returns-clause-writes g c =
    let put = c.in_ok-write_uleb128.ensures.appends in
    let first = rw c.index.ensures at (writes _ put) in
    let next = c.in_ok-write_uleb128-2.ensures.appends in
    let second = writes _ next in
    let last = c.write_uleb128-3.ensures.appends in
    let third = writes _ last in
    joins (joins first second) third

pub returns-in_err-write_uleb128-2-clause-writes : goal.returns-in_err-write_uleb128-2-clause-writes
returns-in_err-write_uleb128-2-clause-writes g c = passed_on c.from_residual-in_err-write_uleb128-2.ensures.1
    (unwritten (writes _ c.in_ok-write_uleb128.ensures.appends) (writes _ c.in_err-write_uleb128-2.ensures.appends))
