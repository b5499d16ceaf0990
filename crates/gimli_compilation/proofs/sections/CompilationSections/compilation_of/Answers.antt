use Rattle.std.proofs.Common.{sym, ◌∙◌}
use Rattle.gimli_compilation.proofs.UnitLaws.{compilation_done, section_offset_seen}
use Rattle.gimli_compilation.proofs.sections.CompilationSections.compilation_of.Goals as goal

pub returns-clause-read : goal.returns-clause-read
returns-clause-read g c = λ bytes.
    let directory = rw c.in-Ok.is at (c.in_ok-comp_dir.ensures.read bytes) in
    let name = rw c.in-Ok-2.is at (c.in_ok-name.ensures.read bytes) in
    compilation_done _ _ _ _ _ _ _ bytes
    (c.section_offset-base.ensures ∙ sym (section_offset_seen g.R.Reader.seen c.args.attributes.now.str_offsets_base))
    (c.section_offset.ensures ∙ sym (section_offset_seen g.R.Reader.seen c.args.attributes.now.stmt_list))
    directory name
