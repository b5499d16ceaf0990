use Rattle.gimli_bytes.proofs.TextLemmas.{length-table_bytes}
use Rattle.gimli_bytes.proofs.laws.table_bytes_length.Goals as goal

pub returns : goal.returns
returns c = length-table_bytes
