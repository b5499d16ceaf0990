-- Reading the header of a unit.
use Rattle.std.proofs.Common.{ℕ, Bool}
use Rattle.gimli_core.specs.Layout.{OrderAndLimit}
use Rattle.gimli_core.specs.Production.{Reads}
use Rattle.gimli_core.specs.declared.common.Format.{Format}
use Rattle.gimli_core.proofs.Readers.{readers}
use Rattle.gimli_compilation.specs.Header.{frame_production, version_production, old_fields_production}
use Rattle.gimli_compilation.specs.Header.{new_fields_production, header_production}

pub reads_frame : (layout : OrderAndLimit) → Reads (frame_production layout)
unfolding frame_production
reads_frame layout = search readers

reads_version : (is_big : Bool) → Reads (version_production is_big)
unfolding version_production
reads_version is_big = search readers

module _ (layout : OrderAndLimit) (format : Format) where
  reads_old_fields : (version : ℕ) → Reads (old_fields_production layout format version)
  unfolding old_fields_production
  reads_old_fields version = search readers

  reads_new_fields : (version : ℕ) → Reads (new_fields_production layout format version)
  unfolding new_fields_production
  reads_new_fields version = search readers

  pub reads_header : Reads (header_production layout format)
  unfolding header_production
  reads_header = search (readers, reads_version, reads_old_fields, reads_new_fields)
