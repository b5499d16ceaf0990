use Rattle.gimli_build.proofs
use proofs.Common.{drop, take, All, Hand, FitsFile, file_entry_bytes}
use proofs.writing.Writes.{WritesSoFar}
use proofs.tables.version_5.write_file_entries.Given as goal

abbrev pub invariant-loop-index : goal.invariant-loop-index
invariant-loop-index g l = record {
  so : WritesSoFar g.W.Sink
      (λ (hand : Hand). file_entry_bytes hand (g.W.Sink.is_big l.fn.w) l.input.program.encoding.format l.input.texts
      l.input.program)
      l.input.program.files
      (drop l.index l.input.program.files) l.fn.w l.w;
  fit : All FitsFile (take l.index l.input.program.files);
}
