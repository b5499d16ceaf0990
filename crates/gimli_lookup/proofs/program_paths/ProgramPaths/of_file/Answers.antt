use Rattle.std.proofs.Common.{◌≡◌, ◌≢◌, ℕ, List, Option, None, Some, Ok, Err, IfOk, IfErr, sym, ap, subst, ◌∙◌}
use Rattle.std.specs.Option.{option_map}
use Rattle.gimli_compilation.specs.Directories.{directory_for}
use Rattle.gimli_line.specs.header.File.{file_seen}
use Rattle.gimli_lookup.specs.Paths.{file_path}
use Rattle.gimli_lookup.specs.Strings.{strings}
use Rattle.gimli_lookup.specs.declared.path_error.PathError.TheVariants.{OutOfMemory}
use Rattle.gimli_lookup.specs.inside.Paths.{paths_in}
use Rattle.gimli_lookup.proofs.program_paths.ProgramPaths.of_file.Goals as goal

pub returns-in_default-clause-ok : goal.returns-in_default-clause-ok
returns-in_default-clause-ok g c =
    let seen = g.R.Reader.seen in
    let number = g.R.Offset.ReaderOffset.number in
    let directory = directory_for c.args.self.now.1 in
    let h = c.args.header.now in
    let f = file_seen seen number c.args.file.now in
    let none : directory (number h.offset.0) ≡ None =
    ap (λ o. directory (number o.0)) (sym c.offset.ensures) ∙ ap directory (sym c.into_u64-offset.ensures)
    ∙ sym c.directory_of.ensures ∙ c.in_default.is in
    subst (λ v. IfOk c.of_file.result (λ path.
    file_path (paths_in (strings seen v.0) h.meaning (option_map (λ r. (seen r).bytes) (directory (number h.offset.0))))
    f
    ≡ Ok path.items))
    c.self.view_is
    (subst (λ (known : Option (List ℕ)). IfOk c.of_file.result (λ path.
    file_path (paths_in (strings seen c.self.inside.strings) h.meaning known) f ≡ Ok path.items))
    (sym (ap (option_map (λ r. (seen r).bytes)) none)) c.of_file.ensures.ok)

pub returns-in_default-clause-err : goal.returns-in_default-clause-err
returns-in_default-clause-err g c =
    let seen = g.R.Reader.seen in
    let number = g.R.Offset.ReaderOffset.number in
    let directory = directory_for c.args.self.now.1 in
    let h = c.args.header.now in
    let f = file_seen seen number c.args.file.now in
    let none : directory (number h.offset.0) ≡ None =
    ap (λ o. directory (number o.0)) (sym c.offset.ensures) ∙ ap directory (sym c.into_u64-offset.ensures)
    ∙ sym c.directory_of.ensures ∙ c.in_default.is in
    subst (λ v. IfErr c.of_file.result (λ e. e ≢ OutOfMemory →
    file_path (paths_in (strings seen v.0) h.meaning (option_map (λ r. (seen r).bytes) (directory (number h.offset.0))))
    f
    ≡ Err e))
    c.self.view_is
    (subst (λ (known : Option (List ℕ)). IfErr c.of_file.result (λ e. e ≢ OutOfMemory →
    file_path (paths_in (strings seen c.self.inside.strings) h.meaning known) f ≡ Err e))
    (sym (ap (option_map (λ r. (seen r).bytes)) none)) c.of_file.ensures.err)

pub returns-clause-ok : goal.returns-clause-ok
returns-clause-ok g c =
    let seen = g.R.Reader.seen in
    let number = g.R.Offset.ReaderOffset.number in
    let directory = directory_for c.args.self.now.1 in
    let h = c.args.header.now in
    let f = file_seen seen number c.args.file.now in
    let some : directory (number h.offset.0) ≡ Some c.in-Some.directory =
    ap (λ o. directory (number o.0)) (sym c.offset.ensures) ∙ ap directory (sym c.into_u64-offset.ensures)
    ∙ sym c.directory_of.ensures ∙ c.in-Some.is in
    let handed = ap (λ (xs : List ℕ). Some xs) (c.deref.ensures.value ∙ c.in-Ok.ensures.ok) in
    subst (λ v. IfOk c.of_file-2.result (λ path.
    file_path (paths_in (strings seen v.0) h.meaning (option_map (λ r. (seen r).bytes) (directory (number h.offset.0))))
    f
    ≡ Ok path.items))
    c.self.view_is
    (subst (λ (known : Option (List ℕ)). IfOk c.of_file-2.result (λ path.
    file_path (paths_in (strings seen c.self.inside.strings) h.meaning known) f ≡ Ok path.items))
    (handed ∙ sym (ap (option_map (λ r. (seen r).bytes)) some)) c.of_file-2.ensures.ok)

pub returns-clause-err : goal.returns-clause-err
returns-clause-err g c =
    let seen = g.R.Reader.seen in
    let number = g.R.Offset.ReaderOffset.number in
    let directory = directory_for c.args.self.now.1 in
    let h = c.args.header.now in
    let f = file_seen seen number c.args.file.now in
    let some : directory (number h.offset.0) ≡ Some c.in-Some.directory =
    ap (λ o. directory (number o.0)) (sym c.offset.ensures) ∙ ap directory (sym c.into_u64-offset.ensures)
    ∙ sym c.directory_of.ensures ∙ c.in-Some.is in
    let handed = ap (λ (xs : List ℕ). Some xs) (c.deref.ensures.value ∙ c.in-Ok.ensures.ok) in
    subst (λ v. IfErr c.of_file-2.result (λ e. e ≢ OutOfMemory →
    file_path (paths_in (strings seen v.0) h.meaning (option_map (λ r. (seen r).bytes) (directory (number h.offset.0))))
    f
    ≡ Err e))
    c.self.view_is
    (subst (λ (known : Option (List ℕ)). IfErr c.of_file-2.result (λ e. e ≢ OutOfMemory →
    file_path (paths_in (strings seen c.self.inside.strings) h.meaning known) f ≡ Err e))
    (handed ∙ sym (ap (option_map (λ r. (seen r).bytes)) some)) c.of_file-2.ensures.err)
