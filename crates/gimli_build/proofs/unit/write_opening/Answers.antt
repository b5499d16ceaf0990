use Rattle.gimli_build.proofs
use proofs.Common.{le-leb, lt-leb}
use proofs.writing.Writes.{first_unwritten, joins, nothing, writes, passed_on}
use proofs.unit.write_opening.Goals as goal

pub returns-in_err-write_version : goal.returns-in_err-write_version
returns-in_err-write_version g c =
    passed_on c.from_residual.ensures.1 (first_unwritten _ c.in_err-write_version.ensures)

pub returns-then-encoding-le4 : goal.returns-then-encoding-le4
returns-then-encoding-le4 g c =
    rw (le-leb _ _ c.if-encoding-le4.true) (joins c.in_ok-write_version.ensures nothing)

pub returns : goal.returns
returns g c = rw (lt-leb _ _ c.if-encoding-le4.false) (joins c.in_ok-write_version.ensures (writes _ c.write.ensures))
