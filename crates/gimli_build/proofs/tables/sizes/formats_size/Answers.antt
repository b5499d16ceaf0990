use Rattle.std.specs.Prelude.{if◌then◌else◌}
use Rattle.gimli_build.proofs
use proofs.Common.{ap, ◌∙◌, Built}
use proofs.sizes.TableSizes.{file-formats-size}
use proofs.tables.sizes.formats_size.Goals as goal

pub returns-clause-size : goal.returns-clause-size
returns-clause-size c =
    let is = c.program.view_is in
    file-formats-size c.args.program.now _ _ _ _
    (c.due_size.ensures.size ∙ ap (λ (p : Built). if p.file_has_timestamp then 2 else 0) is)
    (c.due_size-2.ensures.size ∙ ap (λ (p : Built). if p.file_has_size then 2 else 0) is)
    (c.due_size-3.ensures.size ∙ ap (λ (p : Built). if p.file_has_md5 then 2 else 0) is)
    (c.due_size-4.ensures.size ∙ ap (λ (p : Built). if p.file_has_source then 3 else 0) is)
