use Rattle.std.specs.Prelude.{◌<◌, ◌^◌}
use Rattle.gimli_write.proofs
use proofs.Common.{length, ap, subst, List, ℕ, ◌∙◌, err_from_is_err_and, texts_in}
use proofs.ReadUnits.{can_read, program_answered, program_refused, unread_refused}
use proofs.BuiltAnswers.{built, never_read}
use proofs.read_back.read_unit.Goals as goal

pub returns-in_err-sections-clause-err : goal.returns-in_err-sections-clause-err
returns-in_err-sections-clause-err g c =
    let p = err_from_is_err_and c.from_residual.result c.from_residual.ensures.1 in
    let lt = subst (λ (xs : List ℕ). length xs < 2 ^ 64) c.slice-bytes.ensures c.slice-bytes.type_inv.0 in
    rw p.1 (unread_refused (g.E.Endianity.is_big c.args.section.now.endian) c.args.program.now
    (texts_in c.args.strings.now c.args.line_strings.now) c.args.section.now.bytes
    c.args.offset.0 c.requires.unit lt c.in_err-sections.ensures.held (p.2 ∙ c.in_err-sections.ensures.err))

pub read_section-requires-clause-unit : goal.read_section-requires-clause-unit
read_section-requires-clause-unit g c =
    let lt = subst (λ xs. length xs < 2 ^ 64) c.slice-bytes.ensures c.slice-bytes.type_inv.0 in
    can_read (g.E.Endianity.is_big c.args.section.now.endian) (g.E.Endianity.is_big c.endian-endian.result)
    c.args.program.now
    (texts_in c.args.strings.now c.args.line_strings.now) c.args.section.now.bytes c.slice-bytes.result.now
    c.args.offset.0 c.encoding.result.address_size c.working_directory.result.now c.in_ok-sections.sections
    (ap g.E.Endianity.is_big c.endian-endian.ensures) c.slice-bytes.ensures
    (ap (λ e. e.address_size) c.encoding.ensures.encoding) c.working_directory.ensures
    c.in_ok-sections.ensures.ok c.requires.unit lt c.in_ok-sections.ensures.held

pub returns-clause-ok : goal.returns-clause-ok
returns-clause-ok g c =
    let lt = subst (λ xs. length xs < 2 ^ 64) c.slice-bytes.ensures c.slice-bytes.type_inv.0 in
    program_answered (g.E.Endianity.is_big c.args.section.now.endian) (g.E.Endianity.is_big c.endian-endian.result)
    c.args.program.now
    (texts_in c.args.strings.now c.args.line_strings.now) c.args.section.now.bytes c.slice-bytes.result.now
    c.args.offset.0 c.encoding.result.address_size c.working_directory.result.now c.in_ok-sections.sections
    (ap g.E.Endianity.is_big c.endian-endian.ensures) c.slice-bytes.ensures
    (ap (λ e. e.address_size) c.encoding.ensures.encoding) c.working_directory.ensures
    c.in_ok-sections.ensures.ok c.requires.unit lt c.in_ok-sections.ensures.held _ c.read_section.ensures.ok

pub returns-clause-err : goal.returns-clause-err
returns-clause-err g c =
    let lt = subst (λ xs. length xs < 2 ^ 64) c.slice-bytes.ensures c.slice-bytes.type_inv.0 in
    program_refused (g.E.Endianity.is_big c.args.section.now.endian) (g.E.Endianity.is_big c.endian-endian.result)
    c.args.program.now
    (texts_in c.args.strings.now c.args.line_strings.now) c.args.section.now.bytes c.slice-bytes.result.now
    c.args.offset.0 c.encoding.result.address_size c.working_directory.result.now c.in_ok-sections.sections
    (ap g.E.Endianity.is_big c.endian-endian.ensures) c.slice-bytes.ensures
    (ap (λ e. e.address_size) c.encoding.ensures.encoding) c.working_directory.ensures
    c.in_ok-sections.ensures.ok c.requires.unit lt c.in_ok-sections.ensures.held _ c.read_section.ensures.err

pub returns-clause-built : goal.returns-clause-built
returns-clause-built g c =
    let lt = subst (λ xs. length xs < 2 ^ 64) c.slice-bytes.ensures c.slice-bytes.type_inv.0 in
    built (g.E.Endianity.is_big c.args.section.now.endian) c.args.program.now
    (texts_in c.args.strings.now c.args.line_strings.now) c.args.section.now.bytes
    c.args.offset.0 c.requires.unit lt c.in_ok-sections.ensures.held _ (returns-clause-ok g c)

pub returns-clause-never_read : goal.returns-clause-never_read
returns-clause-never_read g c held =
    let lt = subst (λ xs. length xs < 2 ^ 64) c.slice-bytes.ensures c.slice-bytes.type_inv.0 in
    never_read (g.E.Endianity.is_big c.args.section.now.endian) c.args.program.now
    (texts_in c.args.strings.now c.args.line_strings.now) c.args.section.now.bytes
    c.args.offset.0 c.requires.unit lt c.in_ok-sections.ensures.held _ (returns-clause-err g c) held
