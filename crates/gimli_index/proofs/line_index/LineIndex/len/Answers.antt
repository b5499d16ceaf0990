use Rattle.std.proofs.Common.{sym}
use Rattle.gimli_index.specs.Meaning.{start_at}
use Rattle.gimli_index.specs.Views.{index_of}
use Rattle.gimli_index.proofs.Values.{value_count}
use Rattle.gimli_index.proofs.line_index.LineIndex.len.Goals as goal

pub returns : goal.returns
returns c = sym (value_count (start_at (index_of c.args.self.now)) c.args.self.now.starts)
