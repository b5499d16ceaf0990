use Rattle.gimli_line.proofs.Backwards.{refused_after, tombstone_after, row_after}
use Rattle.gimli_line.proofs.laws.registers_look_back.Goals as goal

pub returns-clause-refused : goal.returns-clause-refused
returns-clause-refused c = refused_after

pub returns-clause-tombstone : goal.returns-clause-tombstone
returns-clause-tombstone c = tombstone_after

pub returns-clause-row : goal.returns-clause-row
returns-clause-row c = row_after
