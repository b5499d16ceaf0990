use Rattle.gimli_line.proofs
use proofs.Common.{true, ap, ◌∙◌, source_of, Unread}
use proofs.EventsWithFilesLaws.{started_events, started_files, started_made}
use proofs.run.rows.IncompleteLineProgram+R.rows.Goals as goal

pub returns-clause-events : goal.returns-clause-events
returns-clause-events g c =
    let s : Unread = record { bytes = c.args.self.meaning.program; layout = c.args.self.layout } in
    rw (
      c.start.ensures,
      c.instructions-instructions.ensures
          ∙ ap (λ v. (let s : Unread = record { bytes = v.meaning.program; layout = v.layout } in s))
          c.self.view_is,
    )
    (started_events true c.args.self.meaning (source_of g.R.Reader.seen g.R.Offset.ReaderOffset.number c.args.self) s)

pub returns-clause-made : goal.returns-clause-made
returns-clause-made g c =
    let s : Unread = record { bytes = c.args.self.meaning.program; layout = c.args.self.layout } in
    rw (
      c.start.ensures,
      c.instructions-instructions.ensures
          ∙ ap (λ v. (let s : Unread = record { bytes = v.meaning.program; layout = v.layout } in s))
          c.self.view_is,
    )
    (started_made true c.args.self.meaning (source_of g.R.Reader.seen g.R.Offset.ReaderOffset.number c.args.self) s)

pub returns-clause-files : goal.returns-clause-files
returns-clause-files g c =
    let s : Unread = record { bytes = c.args.self.meaning.program; layout = c.args.self.layout } in
    rw (
      c.start.ensures,
      c.instructions-instructions.ensures
          ∙ ap (λ v. (let s : Unread = record { bytes = v.meaning.program; layout = v.layout } in s))
          c.self.view_is,
    )
    (started_files true c.args.self.meaning (source_of g.R.Reader.seen g.R.Offset.ReaderOffset.number c.args.self) s)
