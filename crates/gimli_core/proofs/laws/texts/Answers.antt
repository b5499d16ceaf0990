use Rattle.gimli_core.proofs.ProductionLaws.{reads_text}
use Rattle.gimli_core.proofs.laws.texts.Goals as goal

pub returns : goal.returns
returns c = reads_text
