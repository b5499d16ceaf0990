use Rattle.gimli_write.proofs.Common.{map, ap, ◌∙◌, All-same, value_seen, file_seen, HasText, HasFileTexts}
use Rattle.gimli_build.specs.ReadsBack.{directories_from_zero}
use Rattle.gimli_write.proofs.read_back.read_program.Goals as goal

pub texts-requires : goal.texts-requires
texts-requires g c =
    let seen = value_seen g.R.Reader.seen g.R.Offset.ReaderOffset.number in
    All-same (HasText c.args.sections.now) _ _
    (ap (map seen) c.as_slice.ensures.value ∙ c.in_ok-directory_values.ensures.ok
    ∙ ap (λ h. directories_from_zero h.meaning) c.header.ensures) c.requires.directories

pub read_files-requires : goal.read_files-requires
read_files-requires g c =
    let seen = file_seen g.R.Reader.seen g.R.Offset.ReaderOffset.number in
    All-same (HasFileTexts c.args.sections.now) (map seen c.file_names.result.now) c.args.program.meaning.files
    (c.file_names.ensures.files ∙ ap (λ h. h.meaning.files) c.header-2.ensures) c.requires.files
