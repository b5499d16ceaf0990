use Rattle.std.specs.Prelude.{◌≡◌}
use Rattle.gimli_build.proofs
use proofs.Common.{drop, sources}
use proofs.tables.version_5.source_form.Given as goal

abbrev pub invariant-loop-index : goal.invariant-loop-index
invariant-loop-index l = record { left : sources (drop l.index l.tables.files) ≡ sources l.tables.files }
