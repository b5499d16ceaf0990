use Rattle.gimli_bytes.proofs.TextLemmas.{table_bytes-at}
use Rattle.gimli_bytes.proofs.laws.text_at_offset.Goals as goal

pub returns : goal.returns
returns c = table_bytes-at
