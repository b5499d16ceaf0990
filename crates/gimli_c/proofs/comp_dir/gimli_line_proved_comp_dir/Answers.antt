use Rattle.std.proofs.Common.{◌^◌, Some, None, refl, sym, ap, ◌∙◌, inl, inr}
use Rattle.std.specs.Option.{option_map}
use Rattle.gimli_compilation.specs.Directories.{directory_for}
use Rattle.gimli_compilation.specs.Sections.{sections_of}
use Rattle.gimli_c.specs.CompDir.{sections_handed}
use Rattle.gimli_c.proofs.CompDirs.{tells}
use Rattle.gimli_c.proofs.Copied.{copied, not_copied_at}
use Rattle.gimli_c.specs.Location.{slice_seen}
use Rattle.gimli_c.proofs.comp_dir.gimli_line_proved_comp_dir.Goals as goal

pub returns-in_default : goal.returns-in_default
returns-in_default c = not_copied_at _ _ _ _ _ refl refl (inr refl)

pub returns-in_default-directory_of : goal.returns-in_default-directory_of
returns-in_default-directory_of c =
    not_copied_at _ _ _ _ _ refl refl
    (inl (
      refl,
      tells (sections_of slice_seen (2 ^ 64) c.sections_in-sections.result)
          (sections_handed c.args.info.now c.args.abbreviations.now c.args.line_strings.now c.args.strings.now
          c.args.string_offsets.now c.args.is_big)
          (λ line. option_map (λ s. s.slice.now) (directory_for c.in-Ok.compilations line)) c.args.offset None
          c.sections_in-sections.ensures c.in-Ok.ensures.ok
          (ap (option_map (λ s. s.slice.now)) (sym c.directory_of.ensures ∙ c.in_default-directory_of.is)),
    ))

pub returns : goal.returns
returns c =
    copied _ _ _ _ _ _ _ _
    (tells (sections_of slice_seen (2 ^ 64) c.sections_in-sections.result)
    (sections_handed c.args.info.now c.args.abbreviations.now c.args.line_strings.now c.args.strings.now
    c.args.string_offsets.now c.args.is_big)
    (λ line. option_map (λ s. s.slice.now) (directory_for c.in-Ok.compilations line)) c.args.offset
    (Some c.slice.result.now)
    c.sections_in-sections.ensures c.in-Ok.ensures.ok
    (ap (option_map (λ s. s.slice.now)) (sym c.directory_of.ensures ∙ c.in-Some.is)
    ∙ ap (λ bytes. Some bytes) (sym c.slice.ensures)))
    c.put_bytes.ensures
