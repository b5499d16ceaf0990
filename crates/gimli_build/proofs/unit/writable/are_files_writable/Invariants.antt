use Rattle.gimli_build.proofs
use proofs.Common.{drop, All, texts_in, File, IsFileWritable}
use proofs.unit.writable.are_files_writable.Given as goal

abbrev pub invariant-loop-index : goal.invariant-loop-index
invariant-loop-index l = record {
  left : All (λ (f : File). IsFileWritable l.writes_sources (texts_in l.strings l.line_strings) f.0.0 f.1)
      (drop l.index l.tables.files)
      → All (λ (f : File). IsFileWritable l.writes_sources (texts_in l.strings l.line_strings) f.0.0 f.1)
      l.tables.files;
}
