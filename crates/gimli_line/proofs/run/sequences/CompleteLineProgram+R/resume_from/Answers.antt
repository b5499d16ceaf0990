use Rattle.gimli_line.proofs
use proofs.Common.{false, source_of}
use proofs.EventsWithFilesLaws.{started_events, started_files}
use proofs.ResumedRuns.{gives_run, gives_rows_alone}
use proofs.run.sequences.CompleteLineProgram+R.resume_from.Goals as goal

pub returns-clause-events : goal.returns-clause-events
returns-clause-events g c =
    let p = c.args.self.now in
    rw (c.start.ensures, c.clone.ensures)
    (started_events false p.meaning (source_of g.R.Reader.seen g.R.Offset.ReaderOffset.number p)
    c.args.sequence.now.instructions)

pub returns-clause-files : goal.returns-clause-files
returns-clause-files g c =
    let p = c.args.self.now in
    rw (c.start.ensures, c.clone.ensures)
    (started_files false p.meaning (source_of g.R.Reader.seen g.R.Offset.ReaderOffset.number p)
    c.args.sequence.now.instructions).given

-- what the bytes give by looking back is what is to come
pub returns-clause-run : goal.returns-clause-run
returns-clause-run g c = λ run has.
    let p = c.args.self.now in
    rw (c.start.ensures, c.clone.ensures)
    (gives_run p.meaning (source_of g.R.Reader.seen g.R.Offset.ReaderOffset.number p) c.args.sequence.now.instructions
    run has)

pub returns-clause-unrefused : goal.returns-clause-unrefused
returns-clause-unrefused g c = λ alone.
    let p = c.args.self.now in
    rw (c.start.ensures, c.clone.ensures)
    (gives_rows_alone p.meaning (source_of g.R.Reader.seen g.R.Offset.ReaderOffset.number p)
    c.args.sequence.now.instructions alone.rows alone.given)
