use Rattle.gimli_build.proofs
use proofs.writing.Writes.{passed_on, joins, unwritten, writes}
use proofs.tables.version_5.write_details.Goals as goal

pub returns-in_err-write_number_if-clause-writes : goal.returns-in_err-write_number_if-clause-writes
returns-in_err-write_number_if-clause-writes g c =
    let put = c.in_ok-write_uleb128.ensures.appends in
    let first = writes _ put in
    passed_on c.from_residual-in_err-write_number_if.ensures.1 (unwritten first c.in_err-write_number_if.ensures)

pub returns-in_err-write_number_if-2-clause-writes : goal.returns-in_err-write_number_if-2-clause-writes
returns-in_err-write_number_if-2-clause-writes g c =
    let put = c.in_ok-write_uleb128.ensures.appends in
    let first = writes _ put in
    passed_on c.from_residual-in_err-write_number_if-2.ensures.1
    (unwritten (joins first c.in_ok-write_number_if.ensures) c.in_err-write_number_if-2.ensures)

pub returns-clause-writes : goal.returns-clause-writes
returns-clause-writes g c =
    let put = c.in_ok-write_uleb128.ensures.appends in
    let first = rw c.index.ensures at (writes _ put) in
    rw (← c.program.view_is) (joins
    (joins (joins first c.in_ok-write_number_if.ensures) c.in_ok-write_number_if-2.ensures) c.write_digest_if.ensures)
