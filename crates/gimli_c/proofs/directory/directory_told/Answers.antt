use Rattle.std.proofs.Common.{sym}
use Rattle.gimli_c.proofs.directory.directory_told.Goals as goal

pub returns-clause-some : goal.returns-clause-some
returns-clause-some g c = record {
  directory = _;
  is_directory = sym c.in_ok-value.ensures.directory;
  seen_is = c.new.ensures;
  bytes_are = c.text_here.ensures;
}
