use Rattle.std.proofs.Common.{◌∙◌, ap, sym}
use Rattle.std.specs.Prelude.{Some}
use Rattle.gimli_core.specs.Values.{value_seen}
use Rattle.gimli_c.specs.FileSeen.{text_here}
use Rattle.gimli_c.proofs.file.file_told.Goals as goal

pub returns-clause-some : goal.returns-clause-some
returns-clause-some g c = record {
  file = _;
  is_file = sym c.in_ok-entry.ensures.file;
  seen_is = c.new.ensures;
  path_is =
      c.text_here.ensures
      ∙ ap (λ p. text_here (Some (value_seen g.R.Reader.seen g.R.Offset.ReaderOffset.number p))) c.path_name.ensures;
  directory_is = c.text_here-2.ensures ∙ ap text_here c.directory.ensures.directory;
}
