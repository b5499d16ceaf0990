use Rattle.gimli_write.proofs.SourceReadings.{start_reads}
use Rattle.gimli_write.proofs.convert.run.SourceRun.start.Goals as goal

pub returns-clause-reads : goal.returns-clause-reads
returns-clause-reads g c =
    rw (c.new-row.ensures, c.instructions-instructions.ensures, c.header-header.ensures)
    (λ sections first. start_reads _ _ _ _ _)
