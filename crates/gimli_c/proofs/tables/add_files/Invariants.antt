use Rattle.std.proofs.Common.{◌≡◌, ◌++◌, drop}
use Rattle.gimli_bytes.specs.Texts.{no_texts}
use Rattle.gimli_build.specs.Conditions.{CanWrite}
use Rattle.gimli_c.specs.Handed.{files_handed, ids_of_files}
use Rattle.gimli_c.proofs.tables.add_files.Given as goal

-- what is there and what is still to come are all files, and so are the ids
abbrev pub invariant-loop-file : goal.invariant-loop-file
invariant-loop-file l =
    let left = drop l.file-index l.files in
    record {
      can : CanWrite l.program no_texts;
      files : files_handed l.texts l.ids l.program.files left ≡ files_handed l.texts l.ids l.fn.program.files l.files;
      ids : l.file_ids.items ++ ids_of_files l.texts l.ids l.program.files left
          ≡ ids_of_files l.texts l.ids l.fn.program.files l.files;
      others : l.program ≡ record l.fn.program { files = l.program.files };
    }
