use Rattle.std.proofs.Common.{sym, subst, refl}
use Rattle.gimli_bytes.specs.Texts.{no_texts}
use Rattle.gimli_build.specs.Built.{Built}
use Rattle.gimli_build.specs.Conditions.{CanWrite}
use Rattle.gimli_build.specs.LineText.{line_text}
use Rattle.gimli_c.proofs.Handings.{text_is_inline, file_can}
use Rattle.gimli_c.proofs.tables.add_file.Goals as goal

pub returns-in-Ok-clause-can : goal.returns-in-Ok-clause-can
returns-in-Ok-clause-can c =
    let path = line_text c.in_ok-path.path in
    subst (λ (p : Built). CanWrite p no_texts) (sym c.in-Ok.ensures.builds.ok)
    (file_can c.args.program.now (path, c.in_ok-directory.directory) _ c.requires.can
    (text_is_inline path _ c.in_ok-path.ensures.ok c.in_ok-path.ensures.no_zero) refl)
