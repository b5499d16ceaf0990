use Rattle.gimli_build.proofs
use proofs.Common.{initial_row}
use proofs.reading.NoFiles.{items-none, starts-none, goes-none, refused-none}
use proofs.laws.written_rows_take_no_memory.Goals as goal

pub returns : goal.returns
returns c = record {
  start = λ source h p decodes appends. starts-none _ _ _ _ decodes
      (items-none p.encoding.version p.line_encoding (initial_row p.encoding.version p.line_encoding.default_is_stmt)
      p.items);
  goes = goes-none;
  refused = refused-none;
}
