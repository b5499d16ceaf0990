use Rattle.std.specs.Prelude.{◌≡◌}
use Rattle.gimli_build.proofs
use proofs.Common.{rules, true, nat_le}
use proofs.unit.header.write_tables.Goals as goal

pub returns-then-version-le4-clause-writes : goal.returns-then-version-le4-clause-writes
returns-then-version-le4-clause-writes g c =
    let old : nat_le c.args.input.now.program.encoding.version 4 ≡ true = search rules in
    rw old (rw (c.tables.ensures.directories, c.tables.ensures.files, c.program-program.ensures.program) at
    c.write_version_4_tables.ensures.writes)
