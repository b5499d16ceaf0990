use Rattle.std.specs.Prelude.{◌≤◌, ◌<◌, ◌-◌}
use Rattle.gimli_line.proofs
use proofs.Common.{◌∙◌, sym, ap, arith, slice_get}
use proofs.LookUps.{entry_above, entry_new, entry_first, file_above, copied_own, lent_entry, lent_whole}
use proofs.header.program_header.LineProgramHeader.file.Goals as goal

pub returns-then-file-gt0-clause-file : goal.returns-then-file-gt0-clause-file
returns-then-file-gt0-clause-file g c =
    let old : c.args.self.now.meaning.parameters.encoding.version ≤ 4 = omega (arith) in
    let there = c.entry-then-file-gt0.ensures
    ∙ ap (λ items. slice_get items (c.args.file - 1)) c.deref-then-file-gt0.ensures.value in
    let table = ap (λ h. slice_get h.meaning.files (c.args.file - 1)) c.self.view_is in
    lent_entry _ c.self.inside.file_names.items _ (c.args.file - 1) there ∙ table
    ∙ sym (file_above c.args.self.now.meaning c.args.file old c.if-file-gt0.true)

pub returns-then-file-gt0-clause-own : goal.returns-then-file-gt0-clause-own
returns-then-file-gt0-clause-own g c =
    let old : c.args.self.now.meaning.parameters.encoding.version ≤ 4 = omega (arith) in
    let there = c.entry-then-file-gt0.ensures
    ∙ ap (λ items. slice_get items (c.args.file - 1)) c.deref-then-file-gt0.ensures.value in
    let table = ap (λ h. slice_get h.file_names.items (c.args.file - 1)) c.self.view_is in
    there ∙ table ∙ sym (entry_above _ c.args.self.now.comp_file _ c.args.file old c.if-file-gt0.true)

pub returns-then-version-gt4-clause-file : goal.returns-then-version-gt4-clause-file
returns-then-version-gt4-clause-file g c =
    let new : 4 < c.args.self.now.meaning.parameters.encoding.version = omega (arith) in
    let there = c.entry.ensures ∙ ap (λ items. slice_get items c.args.file) c.deref.ensures.value in
    let table = ap (λ h. slice_get h.meaning.files c.args.file) c.self.view_is in
    lent_entry _ c.self.inside.file_names.items _ c.args.file there ∙ table ∙ sym (entry_new _ _ _ c.args.file new)

pub returns-then-version-gt4-clause-own : goal.returns-then-version-gt4-clause-own
returns-then-version-gt4-clause-own g c =
    let new : 4 < c.args.self.now.meaning.parameters.encoding.version = omega (arith) in
    let there = c.entry.ensures ∙ ap (λ items. slice_get items c.args.file) c.deref.ensures.value in
    let table = ap (λ h. slice_get h.file_names.items c.args.file) c.self.view_is in
    there ∙ table ∙ sym (entry_new _ c.args.self.now.comp_file _ c.args.file new)

pub returns-clause-file : goal.returns-clause-file
returns-clause-file g c =
    let old : c.args.self.now.meaning.parameters.encoding.version ≤ 4 = omega (arith) in
    lent_whole _ c.as_ref.result _ c.as_ref.ensures.value ∙ ap (λ h. h.meaning.comp_file) c.self.view_is
    ∙ sym (entry_first _ _ c.args.self.now.meaning.files c.args.file old c.if-file-gt0.false)

pub returns-clause-own : goal.returns-clause-own
returns-clause-own g c =
    let old : c.args.self.now.meaning.parameters.encoding.version ≤ 4 = omega (arith) in
    sym (copied_own c.as_ref.result) ∙ c.as_ref.ensures.value ∙ ap (λ h. h.comp_file) c.self.view_is
    ∙ sym (entry_first _ _ c.args.self.now.file_names.items c.args.file old c.if-file-gt0.false)
