use Rattle.std.proofs.Common.{◌≡◌, length, sym, ap, ◌∙◌, arith}
use Rattle.std.proofs.lemmas.List.{length-map}
use Rattle.gimli_line.specs.header.File.{file_seen}
use Rattle.gimli_lookup.proofs.path_files.last_index.Goals as goal

pub returns : goal.returns
returns g c =
    let count : length c.file_names.result.now ≡ length c.args.header.now.meaning.files =
    sym (length-map c.file_names.result.now (file_seen g.R.Reader.seen g.R.Offset.ReaderOffset.number))
    ∙ ap length c.file_names.ensures.files in
    omega (arith, count)
