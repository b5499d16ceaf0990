use Rattle.gimli_compilation.proofs.AbbreviationTables.{table_more, table_end, table_refused, smaller_more, smaller_end}
use Rattle.gimli_compilation.proofs.abbreviation.Abbreviations.read_on.Goals as goal
use Rattle.gimli_compilation.proofs.abbreviation.Abbreviations.read_on.Goals.{
  in-Ok-Some+in_ok-keep_first-in-Ok-Some,
  in-Ok-None,
  in-Err,
}

pub returns-clause-table : goal.returns-clause-table
returns-clause-table g c = λ section table. elim c.match-next_declaration.branch [
  | in-Ok-Some+in_ok-keep_first-in-Ok-Some w ↦
      let found = rw w.in-Ok-Some.field-0-is at w.in-Ok-Some.ensures in
      rw (w.self-is, w.self2-is)
      (table_more _ _ _ _ c.requires _ _ _ _ found.declared found.read w.in_ok-keep_first-in-Ok-Some.ensures.ok table)
  | in-Ok-None w ↦
      let found = rw w.in-Ok-None.field-0-is at w.in-Ok-None.ensures in
      rw (w.self-is, w.self2-is) (table_end _ _ _ _ c.requires _ found.read table)
  | in-Err w ↦ rw (w.self-is, w.self2-is) (table_refused _ _ _ _ c.requires _ _ w.in-Err.ensures.read table)
]

pub returns-clause-smaller : goal.returns-clause-smaller
returns-clause-smaller g c = elim c.match-next_declaration.branch [
  | in-Ok-Some+in_ok-keep_first-in-Ok-Some w ↦
      let found =
      rw w.in-Ok-Some.field-0-is at w.in-Ok-Some.ensures in rw w.self2-is
      (smaller_more g.R.Reader.seen _ _ _ _ c.requires found.read)
  | in-Ok-None w ↦ rw w.self2-is (smaller_end g.R.Reader.seen _ _ c.requires)
  | in-Err w ↦ rw w.self2-is (smaller_end g.R.Reader.seen _ _ c.requires)
]
