use Rattle.gimli_core.proofs.Taken.{read_of}
use Rattle.gimli_compilation.specs.Sections.{sections_of}
use Rattle.gimli_compilation.proofs.UnitLaws.{compilation_is, refusal_is, content_done, frame_refused}
use Rattle.gimli_compilation.proofs.sections.CompilationSections.compilation.Goals as goal

pub returns-in-Err-clause-refusal : goal.returns-in-Err-clause-refusal
returns-in-Err-clause-refusal g c =
    let read = rw c.info_at-input.ensures.order at (read_of c.in-Err.ensures.read) in
    frame_refused (sections_of g.R.Reader.seen g.R.Offset.ReaderOffset.limit c.args.self.now)
    (g.R.Offset.ReaderOffset.number c.args.offset) _ _ _ c.info_at-input.ensures.bytes read

pub returns-clause-compilation : goal.returns-clause-compilation
returns-clause-compilation g c =
    let read = rw c.info_at-input.ensures.order at (read_of c.in-Ok.ensures.read) in
    compilation_is _ _ _ _ _ c.info_at-input.ensures.bytes _ _
    (content_done _ _ _ _ _ _ read c.in_ok-outcome.ensures.read) c.answer.ensures

pub returns-clause-refusal : goal.returns-clause-refusal
returns-clause-refusal g c =
    let read = rw c.info_at-input.ensures.order at (read_of c.in-Ok.ensures.read) in
    refusal_is _ _ _ _ _ c.info_at-input.ensures.bytes _ _ (content_done _ _ _ _ _ _ read c.in_ok-outcome.ensures.read)
    c.answer.ensures
