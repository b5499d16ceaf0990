use Rattle.std.specs.Prelude.{◌≡◌}
use Rattle.gimli_build.proofs
use proofs.Common.{drop, is_none, list_any, File}
use proofs.tables.version_5.lacks_source.Given as goal

abbrev pub invariant-loop-index : goal.invariant-loop-index
invariant-loop-index l = record {
  left : list_any (λ (f : File). is_none f.1.source) (drop l.index l.tables.files)
      ≡ list_any (λ (f : File). is_none f.1.source) l.tables.files;
}
