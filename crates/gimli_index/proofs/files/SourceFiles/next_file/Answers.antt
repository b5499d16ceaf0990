use Rattle.std.proofs.Common.{◌∙◌, ◌∷◌, ◌+◌, ap, drop, sym}
use Rattle.gimli_index.specs.Files.{File, file_at, files_of}
use Rattle.gimli_index.specs.Meaning.{path_of, source_at}
use Rattle.gimli_index.specs.Header.{number_at}
use Rattle.gimli_index.specs.Views.{index_of}
use Rattle.gimli_index.proofs.Starts.{no_value_here, value_here}
use Rattle.gimli_index.proofs.files.SourceFiles.next_file.Goals as goal

pub returns-then-self : goal.returns-then-self
returns-then-self c =
    let index = index_of c.args.self.now.index in
    let none = no_value_here (file_at index) index.sources c.args.self.now.next c.if-self.true in
    (none, none)

pub returns : goal.returns
returns c =
    let index = index_of c.args.self.now.index in
    let next = c.args.self.now.next in
    let bytes = c.source-source.ensures.bytes in
    let rest = drop (next + 1) (files_of index) in
    value_here (file_at index) index.sources next c.if-self.false
    ∙ ap (λ n. let f : File = record { unit = n; path = path_of index.path_bytes (source_at index next) } in f ∷ rest)
    (sym (c.long.ensures ∙ ap (number_at 8 0) bytes))
    ∙ ap (λ p. let f : File = record { unit = c.long.result; path = p } in f ∷ rest)
    (sym (c.path_of.ensures ∙ ap (path_of index.path_bytes) bytes))
