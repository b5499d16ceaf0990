use Rattle.gimli_build.proofs
use proofs.writing.Writes.{joins, writes}
use proofs.tables.version_5.write_format.Goals as goal

pub returns : goal.returns
returns g c =
    let put = c.in_ok-write_uleb128.ensures.appends in
    let first = rw c.from.ensures at (writes _ put) in
    let last = c.write_uleb128-2.ensures.appends in
    let second = rw c.from-2.ensures at (writes _ last) in
    joins first second
