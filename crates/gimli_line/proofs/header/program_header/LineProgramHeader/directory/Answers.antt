use Rattle.std.specs.Prelude.{◌≤◌, ◌<◌, ◌-◌}
use Rattle.gimli_line.proofs
use proofs.Common.{◌∙◌, sym, ap, arith, slice_get, option_map, String}
use proofs.LookUps.{directory_above, entry_above, entry_new, copied_own, copied_entry}
use proofs.header.program_header.LineProgramHeader.directory.Goals as goal

pub returns-then-directory-gt0-clause-directory : goal.returns-then-directory-gt0-clause-directory
returns-then-directory-gt0-clause-directory g c =
    let old : c.args.self.now.meaning.parameters.encoding.version ≤ 4 = omega (arith) in
    let there = c.entry-then-directory-gt0.ensures
    ∙ ap (λ items. slice_get items (c.args.directory - 1)) c.deref-then-directory-gt0.ensures.value in
    let table = ap (λ h. slice_get h.meaning.directories (c.args.directory - 1)) c.self.view_is in
    rw c.copied-then-directory-gt0.ensures
    (copied_entry _ c.self.inside.include_directories.items _ (c.args.directory - 1) there ∙ table
    ∙ sym (directory_above c.args.self.now.meaning c.args.directory old c.if-directory-gt0.true))

pub returns-then-directory-gt0-clause-own : goal.returns-then-directory-gt0-clause-own
returns-then-directory-gt0-clause-own g c =
    let old : c.args.self.now.meaning.parameters.encoding.version ≤ 4 = omega (arith) in
    let there = c.entry-then-directory-gt0.ensures
    ∙ ap (λ items. slice_get items (c.args.directory - 1)) c.deref-then-directory-gt0.ensures.value in
    let table = ap (λ h. slice_get h.include_directories.items (c.args.directory - 1)) c.self.view_is in
    rw c.copied-then-directory-gt0.ensures (copied_own _ ∙ there ∙ table
    ∙ sym (entry_above _ (option_map String c.args.self.now.comp_dir) _ c.args.directory old c.if-directory-gt0.true))

pub returns-then-version-gt4-clause-directory : goal.returns-then-version-gt4-clause-directory
returns-then-version-gt4-clause-directory g c =
    let new : 4 < c.args.self.now.meaning.parameters.encoding.version = omega (arith) in
    let there = c.entry.ensures ∙ ap (λ items. slice_get items c.args.directory) c.deref.ensures.value in
    let table = ap (λ h. slice_get h.meaning.directories c.args.directory) c.self.view_is in
    rw c.copied.ensures
    (copied_entry _ c.self.inside.include_directories.items _ c.args.directory there ∙ table
    ∙ sym (entry_new _ _ _ c.args.directory new))

pub returns-then-version-gt4-clause-own : goal.returns-then-version-gt4-clause-own
returns-then-version-gt4-clause-own g c =
    let new : 4 < c.args.self.now.meaning.parameters.encoding.version = omega (arith) in
    let there = c.entry.ensures ∙ ap (λ items. slice_get items c.args.directory) c.deref.ensures.value in
    let table = ap (λ h. slice_get h.include_directories.items c.args.directory) c.self.view_is in
    rw c.copied.ensures (copied_own _ ∙ there ∙ table
    ∙ sym (entry_new _ (option_map String c.args.self.now.comp_dir) _ c.args.directory new))
