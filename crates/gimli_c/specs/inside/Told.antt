-- What is told of a file or a directory of a header, before its bytes are copied.
use Rattle.std.specs.Prelude.{◌≡◌, ℕ, List, Option, Some}
use Rattle.gimli_core.specs.Values.{Value}
use Rattle.gimli_line.specs.header.File.{File}
use Rattle.gimli_line.specs.header.Header.{Header, directory_of, file_of}
use Rattle.gimli_c.specs.FileSeen.{file_seen_by_c, text_here, text_seen}
use Rattle.gimli_c.specs.declared.file.GimliFile.{GimliFile}
use Rattle.gimli_c.specs.declared.file.GimliText.{GimliText}

-- the directory of an index, and its bytes where they stand in the section itself
pub record TellsDirectory (h : Header) (index : ℕ) (seen : GimliText)
    (bytes : Option (List ℕ)) : Type 0 where
  pub directory : Value
  pub is_directory : directory_of h index ≡ Some directory
  pub seen_is : seen ≡ text_seen directory
  pub bytes_are : bytes ≡ text_here (Some directory)

-- the file of an index, and the bytes of its path and directory where they stand there
pub record TellsFile (h : Header) (index : ℕ) (seen : GimliFile)
    (path directory : Option (List ℕ)) : Type 0 where
  pub file : File
  pub is_file : file_of h index ≡ Some file
  pub seen_is : seen ≡ file_seen_by_c h file
  pub path_is : path ≡ text_here (Some file.path_name)
  pub directory_is : directory ≡ text_here (directory_of h file.directory_index)
