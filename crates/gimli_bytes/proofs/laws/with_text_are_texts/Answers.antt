use Rattle.gimli_bytes.proofs.TextLemmas.{with_text-AreTexts}
use Rattle.gimli_bytes.proofs.laws.with_text_are_texts.Goals as goal

pub returns : goal.returns
returns c = with_text-AreTexts
