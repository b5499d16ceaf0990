use Rattle.std.proofs.Common.{List, ℕ, subst, sym}
use Rattle.gimli_lookup.specs.Strings.{Strings}
use Rattle.gimli_c.specs.Listed.{GivesFiles}
use Rattle.gimli_c.specs.Location.{location}
use Rattle.gimli_c.specs.Path.{texts_handed}
use Rattle.gimli_c.proofs.Copied.{copied, not_copied}
use Rattle.gimli_c.proofs.PathsOfFiles.{same_texts}
use Rattle.gimli_c.proofs.listed.gimli_line_proved_read_files.Goals as goal

pub returns-in-Err-clause-files : goal.returns-in-Err-clause-files
returns-in-Err-clause-files c =
    not_copied _ _ _ _ _ c.in-Err.ensures.other.0 c.in-Err.ensures.other.1 c.in-Err.ensures.refused

pub returns-in-Ok-clause-files : goal.returns-in-Ok-clause-files
returns-in-Ok-clause-files c =
    let p = location c.args.section.now c.args.is_big c.args.address_size c.args.offset in
    let handed = texts_handed c.args.line_strings.now c.args.strings.now in
    let same =
    same_texts _ _ c.args.line_strings.now c.args.strings.now c.new.ensures.bytes c.new-2.ensures.bytes in
    let now = c.files_of.new.files in
    copied _ _ _ _ _ _ _ _
    (subst (λ (xs : List ℕ). GivesFiles p handed c.args.comp_dir.now c.args.files.now now xs)
    (sym c.as_slice.ensures.value)
    (subst (λ (texts : Strings). GivesFiles p texts c.args.comp_dir.now c.args.files.now now c.in-Ok.whole.items) same
    c.in-Ok.ensures.ok))
    c.put_bytes.ensures
