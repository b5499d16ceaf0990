use Rattle.gimli_build.proofs
use proofs.Common.{◌∙◌}
use proofs.building.SourceLemmas.{first_path}
use proofs.tables.version_5.path_form.Goals as goal

pub returns : goal.returns
returns c = c.form.ensures ∙ first_path _ _ c.file.ensures
