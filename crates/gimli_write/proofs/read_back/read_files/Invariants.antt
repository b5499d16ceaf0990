use Rattle.gimli_write.proofs.Common.{map, take, file_seen, OneByOne, IsFileAnswer, file_answer}
use Rattle.gimli_write.proofs.read_back.read_files.Given as goal

abbrev pub invariant-loop-file : goal.invariant-loop-file
invariant-loop-file g l =
    OneByOne (IsFileAnswer l.sections)
    (map (file_seen g.R.Reader.seen g.R.Offset.ReaderOffset.number) (take l.file-index l.files))
    (map file_answer l.answers.items)
