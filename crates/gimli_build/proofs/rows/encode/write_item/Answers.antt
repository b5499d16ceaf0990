use Rattle.gimli_build.proofs.rows.encode.write_item.Goals as goal

pub returns-in-Row-clause-writes : goal.returns-in-Row-clause-writes
returns-in-Row-clause-writes g c = rw c.in-Row.is c.write_row.ensures.writes

pub returns-in-End-clause-writes : goal.returns-in-End-clause-writes
returns-in-End-clause-writes g c =
    let written = rw c.operation_advance-count.ensures at c.write_end.ensures in
    rw c.in-End.is written
