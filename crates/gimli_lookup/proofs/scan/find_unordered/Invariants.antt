use Rattle.std.proofs.Common.{drop}
use Rattle.gimli_lookup.proofs.Unordered.{Scanned}
use Rattle.gimli_lookup.proofs.scan.find_unordered.Given as goal

abbrev pub invariant-loop-index : goal.invariant-loop-index
invariant-loop-index l = Scanned l.a l.sequences (drop l.index-index l.indexes) l.initial.probes l.probes
