use Rattle.std.proofs.Common.{◌≡◌, sym, ◌∙◌, subst, IfOk, string_bytes, ◌++◌, codes, append-nil}
use Rattle.debug_files.proofs.Folders.{at_last_slash, without_slash}
use Rattle.debug_files.proofs.debug_paths.folder.Goals as goal

pub returns-in-Some : goal.returns-in-Some
returns-in-Some c =
    let last = at_last_slash c.args.path.now (c.in-Some.before, c.in-Some.field-0-1) c.in-Some.ensures.cases in
    subst (λ bytes. IfOk c.joined.result (λ text. string_bytes text ≡ bytes))
    (append-nil (c.in-Some.before.now ++ codes "/") ∙ sym last) c.joined.ensures

pub returns-in-None : goal.returns-in-None
returns-in-None c = c.new.ensures.bytes ∙ sym (without_slash c.args.path.now c.in-None.ensures.cases)
