use Rattle.std.proofs.Common.{◌≡◌, ◌<◌, ◌++◌, length, map, drop}
use Rattle.std.specs.Prelude.{All}
use Rattle.gimli_bytes.specs.Texts.{no_texts}
use Rattle.gimli_build.specs.Conditions.{CanWrite}
use Rattle.gimli_c.specs.Handed.{directories_handed, ids_of_directories, first_ids, text_handed}
use Rattle.gimli_c.proofs.tables.add_directories.Given as goal

-- what is there and what is still to come are all directories, and so are the ids
abbrev pub invariant-loop-name : goal.invariant-loop-name
invariant-loop-name l =
    let left = map (text_handed l.texts) (drop l.name-index l.names) in
    let all = map (text_handed l.texts) l.names in
    record {
      can : CanWrite l.program no_texts;
      within : All (λ id. id < length l.program.directories) l.ids.items;
      directories : directories_handed l.program.directories left ≡ directories_handed l.fn.program.directories all;
      ids : l.ids.items ++ ids_of_directories l.program.directories left
          ≡ first_ids l.fn.program.encoding.version ++ ids_of_directories l.fn.program.directories all;
      others : l.program ≡ record l.fn.program { directories = l.program.directories };
    }
