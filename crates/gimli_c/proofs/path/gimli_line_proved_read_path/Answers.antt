use Rattle.std.proofs.Common.{List, ℕ, subst, sym}
use Rattle.gimli_lookup.specs.Strings.{Strings}
use Rattle.gimli_c.specs.Location.{location}
use Rattle.gimli_c.specs.Path.{GivesPath, HasNoPath, texts_handed}
use Rattle.gimli_c.proofs.Copied.{copied, not_copied}
use Rattle.gimli_c.proofs.PathsOfFiles.{same_texts}
use Rattle.gimli_c.proofs.path.gimli_line_proved_read_path.Goals as goal

pub returns-in-Err-clause-path : goal.returns-in-Err-clause-path
returns-in-Err-clause-path c =
    not_copied _ _ _ _ _ c.in-Err.ensures.other.0 c.in-Err.ensures.other.1
    (λ memory.
    subst
    (λ (texts : Strings).
    HasNoPath (location c.args.section.now c.args.is_big c.args.address_size c.args.offset) texts c.args.number
    c.args.comp_dir.now c.in-Err.status)
    (same_texts _ _ c.args.line_strings.now c.args.strings.now c.new.ensures.bytes c.new-2.ensures.bytes)
    (c.in-Err.ensures.err memory))

pub returns-in-Ok-clause-path : goal.returns-in-Ok-clause-path
returns-in-Ok-clause-path c =
    let p = location c.args.section.now c.args.is_big c.args.address_size c.args.offset in
    let handed = texts_handed c.args.line_strings.now c.args.strings.now in
    let same =
    same_texts _ _ c.args.line_strings.now c.args.strings.now c.new.ensures.bytes c.new-2.ensures.bytes in
    copied _ _ _ _ _ _ _ _
    (subst (λ (xs : List ℕ). GivesPath p handed c.args.number c.args.comp_dir.now xs) (sym c.as_slice.ensures.value)
    (subst (λ (texts : Strings). GivesPath p texts c.args.number c.args.comp_dir.now c.in-Ok.whole.items) same
    c.in-Ok.ensures.ok))
    c.put_bytes.ensures
