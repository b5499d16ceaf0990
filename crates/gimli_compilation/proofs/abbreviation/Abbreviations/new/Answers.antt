use Rattle.gimli_core.proofs.Taken.{part_read_of}
use Rattle.gimli_compilation.proofs.AbbreviationTables.{table_new, table_outside}
use Rattle.gimli_compilation.proofs.abbreviation.Abbreviations.new.Goals as goal
use Rattle.gimli_compilation.proofs.abbreviation.Abbreviations.new.Goals.{in-Ok, in-Err}

pub returns-clause-table : goal.returns-clause-table
returns-clause-table g c = elim c.match-split.branch [
  | in-Ok w ↦
      rw (w.result-is, c.into_u64.ensures) (table_new _ _ _ _ c.new.ensures.empty _ _ (part_read_of w.in-Ok.ensures))
  | in-Err w ↦
      rw (w.result-is, c.into_u64.ensures)
      (table_outside _ _ _ _ c.new.ensures.empty _ _ (part_read_of w.in-Err.ensures))
]
