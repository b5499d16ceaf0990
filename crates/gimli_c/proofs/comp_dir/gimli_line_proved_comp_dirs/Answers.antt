use Rattle.std.proofs.Common.{◌^◌, List, ℕ, refl, subst, sym}
use Rattle.std.specs.Option.{option_map}
use Rattle.gimli_compilation.specs.Directories.{directory_for}
use Rattle.gimli_compilation.specs.Sections.{sections_of}
use Rattle.gimli_c.specs.CompDir.{sections_handed}
use Rattle.gimli_c.specs.Listed.{GivesCompDirs}
use Rattle.gimli_c.proofs.CompDirs.{all_told}
use Rattle.gimli_c.proofs.Copied.{copied, not_copied_at}
use Rattle.gimli_c.specs.Location.{slice_seen}
use Rattle.gimli_c.proofs.comp_dir.gimli_line_proved_comp_dirs.Goals as goal

pub returns-in_default : goal.returns-in_default
returns-in_default c = not_copied_at _ _ _ _ _ refl refl refl

pub returns-in_default-list_comp_dirs : goal.returns-in_default-list_comp_dirs
returns-in_default-list_comp_dirs c = not_copied_at _ _ _ _ _ refl refl refl

pub returns : goal.returns
returns c =
    let sections =
    sections_handed c.args.info.now c.args.abbreviations.now c.args.line_strings.now c.args.strings.now
    c.args.string_offsets.now c.args.is_big in
    let now = c.list_comp_dirs.new.directories in
    copied _ _ _ _ _ _ _ _
    (subst (λ (xs : List ℕ). GivesCompDirs sections c.args.directories.now now xs)
    (sym c.as_slice.ensures.value)
    (all_told (sections_of slice_seen (2 ^ 64) c.sections_in-sections.result)
    sections (λ line. option_map (λ s. s.slice.now) (directory_for c.in-Ok.compilations line)) c.args.directories.now
    now c.in-Ok-list_comp_dirs.whole.items c.sections_in-sections.ensures c.in-Ok.ensures.ok
    c.in-Ok-list_comp_dirs.ensures.ok))
    c.put_bytes.ensures
