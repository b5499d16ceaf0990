-- The sources of an index: files, each of a unit (docs/reference/INDEX.md, "Sources").
use Rattle.std.specs.Prelude.{ℕ, List, map, drop, Result}
use Rattle.std.specs.List.{range_with_len}
use Rattle.gimli_core.specs.Reading.{result_map}
use Rattle.gimli_index.specs.Contents.{Contents, source_path}
use Rattle.gimli_index.specs.Meaning.{path_of, source_at}
use Rattle.gimli_index.specs.Header.{number_at}
use Rattle.gimli_index.specs.Parts.{Index}
use Rattle.gimli_index.specs.Views.{index_of}
use Rattle.gimli_index.specs.declared.contents.Source.{Source}
use Rattle.gimli_index.specs.declared.place.NoPath.{NoPath}
use Rattle.gimli_index.specs.declared.files.SourceFile.{SourceFile}
use Rattle.gimli_index.specs.declared.files.SourceFiles.{SourceFiles}

-- a source of an index: a file of a unit
pub record File : Type 0 where
  -- the offset in .debug_line of the unit
  pub unit : ℕ
  -- the whole path, or why there is none
  pub path : Result (List ℕ) NoPath

-- the file of a number
abbrev pub file_at : Index → ℕ → File
file_at index k = record {
  unit = number_at 8 0 (source_at index k);
  path = path_of index.path_bytes (source_at index k);
}

-- the files, in their order
abbrev pub files_of : Index → List File
files_of index = map (file_at index) (range_with_len 0 index.sources)

-- what the values of the crate stand for
abbrev pub file_of : SourceFile → File
file_of f = record { unit = f.unit; path = result_map (λ path. path.now) f.path }

-- the files that are still to come
abbrev pub files_left : SourceFiles → List File
files_left files = drop files.next (files_of (index_of files.index))

-- the file of a source of contents
abbrev pub source_file : Contents → Source → File
source_file c s = record { unit = s.unit; path = source_path c.paths s }
