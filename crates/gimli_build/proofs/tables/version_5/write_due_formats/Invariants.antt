use Rattle.gimli_build.proofs
use proofs.Common.{take, Ok, Writes, always}
use proofs.building.FormatLemmas.{due_bytes}
use proofs.tables.version_5.write_due_formats.Given as goal

abbrev pub invariant-loop-index : goal.invariant-loop-index
invariant-loop-index g l = record {
  so : Writes {X = Unit {0}} g.W.Sink l.fn.w l.w (Ok tt) (always (Ok (due_bytes (take l.index l.formats))));
}
