use Rattle.gimli_build.proofs
use proofs.Common.{drop, map, Hand, line_text, name_bytes}
use proofs.writing.Writes.{WritesSoFar}
use proofs.tables.version_4.write_names.Given as goal

abbrev pub invariant-loop-name : goal.invariant-loop-name
invariant-loop-name g l = record {
  so : WritesSoFar g.W.Sink (λ (hand : Hand). name_bytes) (map line_text l.names)
      (drop l.name-index (map line_text l.names))
      l.fn.w l.w;
}
