use Rattle.gimli_core.proofs.ProductionLaws.{reads_offset_word}
use Rattle.gimli_core.proofs.laws.words.Goals as goal

pub returns : goal.returns
returns c = reads_offset_word
