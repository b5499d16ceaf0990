use Rattle.gimli_write.proofs
use proofs.Common
use Common.{sym, ap, ◌∙◌, err_from_is_err_and, file_seen, tables_with, defines, defines_first, after_definitions}
use Common.{without_built, source_left}
use Rattle.gimli_write.specs.convert.TablesAtEnd.{unless_refused, tables_at_end}
use proofs.SourceSteps.{none_left}
use proofs.TablesAtEnd.{none_last}
use proofs.ReadLemmas.{reads_then}
use proofs.Conversions.{conversion, file_taken, file_refusal}
use proofs.convert.conversion.Conversion.next_source_row.Goals as goal

pub returns-in-Done-clause-ok : goal.returns-in-Done-clause-ok
returns-in-Done-clause-ok g c =
    let a = c.steps.self-inside in
    let tables = without_built (tables_with c.steps.line_strings a.tables) in
    let read = rw c.in-Done.is at c.in_ok-step.ensures.reading in
    let over = rw c.in-Done.is at c.in_ok-step.ensures.shorter in (
      sym c.steps.invariant.left ∙ ap after_definitions (read a.sections tables),
      none_left a.sections tables c.step.new.self over,
    )

pub steps-preserved : goal.steps-preserved
steps-preserved g c =
    let a = c.steps.self-inside in
    let f = file_seen g.R.Reader.seen g.R.Offset.ReaderOffset.number c.in-Defines.file in
    let before = tables_with c.steps.line_strings a.tables in
    let after = tables_with c.add_file.new.line_strings c.add_file.new.self in
    let read = rw c.in-Defines.is at c.in_ok-step.ensures.reading in
    let leaves = rw c.in-Defines.is at c.in_ok-step.ensures.tables in
    record {
      left =
          sym (ap after_definitions (read a.sections (without_built before)
          ∙ ap defines (file_taken a.sections c.step.new.self before f c.in_ok-add_file-in-Defines.ensures.ok)))
          ∙ c.steps.invariant.left;
      first = λ more. c.steps.invariant.first (ap defines_first (read a.sections (without_built before)));
      version = ap (λ h. h.parameters.encoding.version) c.in_ok-step.ensures.header ∙ c.steps.invariant.version;
      sections = c.steps.invariant.sections;
      address = c.steps.invariant.address;
      held = c.steps.invariant.held;
      failed = c.steps.invariant.failed;
      reads_on = reads_then c.steps.invariant.reads_on (record {
        adds = c.in_ok-add_file-in-Defines.ensures.adds;
        keeps = c.in_ok-add_file-in-Defines.ensures.keeps;
        texts = c.in_ok-add_file-in-Defines.ensures.stays;
        writable = c.in_ok-add_file-in-Defines.ensures.writable;
      });
      last =
          sym (leaves a.sections before
          ∙ ap (λ there. unless_refused before there (λ next. tables_at_end a.sections c.step.new.self next))
          c.in_ok-add_file-in-Defines.ensures.ok) ∙ c.steps.invariant.last;
    }

pub returns-in_err-add_file-in-Defines-clause-err : goal.returns-in_err-add_file-in-Defines-clause-err
returns-in_err-add_file-in-Defines-clause-err g c =
    let a = c.steps.self-inside in
    let f = file_seen g.R.Reader.seen g.R.Offset.ReaderOffset.number c.in-Defines.file in
    let before = tables_with c.steps.line_strings a.tables in
    let read = rw c.in-Defines.is at c.in_ok-step.ensures.reading in
    let now = conversion a.sections a.source a.tables a.address a.held a.failed in
    let p =
    err_from_is_err_and c.from_residual-in_err-add_file-in-Defines.result
    c.from_residual-in_err-add_file-in-Defines.ensures.1 in
    rw (p.1, p.2) (file_refusal a.sections c.step.new.self before f
    (source_left c.args.self.now c.args.line_strings.now) c.in_err-add_file-in-Defines.field-0.0
    (read a.sections (without_built before)) c.steps.invariant.left c.steps.invariant.first
    c.in_err-add_file-in-Defines.ensures.err)

pub returns-in-Done-clause-leaves : goal.returns-in-Done-clause-leaves
returns-in-Done-clause-leaves g c =
    let a = c.steps.self-inside in
    let tables = tables_with c.steps.line_strings a.tables in
    let leaves = rw c.in-Done.is at c.in_ok-step.ensures.tables in
    let over = rw c.in-Done.is at c.in_ok-step.ensures.shorter in
    let there = sym (leaves a.sections tables) ∙ c.steps.invariant.last in
    record {
      last = none_last a.sections tables c.step.new.self over ∙ there;
      ended = λ _. there;
      stopped = tt;
    }

pub returns-in_err-add_file-in-Defines-clause-reads_on : goal.returns-in_err-add_file-in-Defines-clause-reads_on
returns-in_err-add_file-in-Defines-clause-reads_on g c =
    reads_then c.steps.invariant.reads_on (record {
      adds = c.in_err-add_file-in-Defines.ensures.adds;
      keeps = c.in_err-add_file-in-Defines.ensures.keeps;
      texts = c.in_err-add_file-in-Defines.ensures.stays;
      writable = c.in_err-add_file-in-Defines.ensures.writable;
    })
