use Rattle.gimli_build.proofs
use proofs.Common.{drop, take, All, Hand, FitsFile, file_bytes}
use proofs.writing.Writes.{WritesSoFar}
use proofs.tables.version_4.write_each_file.Given as goal

abbrev pub invariant-loop-index : goal.invariant-loop-index
invariant-loop-index g l = record {
  so : WritesSoFar g.W.Sink (λ (hand : Hand). file_bytes) l.tables.files (drop l.index l.tables.files) l.fn.w l.w;
  fit : All FitsFile (take l.index l.tables.files);
}
