-- Reading declarations.
use Rattle.std.proofs.Common.{ℕ}
use Rattle.gimli_core.specs.Production.{unsigned, unsigned_16, Reads}
use Rattle.gimli_core.proofs.Readers.{readers}
use Rattle.gimli_compilation.specs.Abbreviation.{constant_production, specification_production}
use Rattle.gimli_compilation.specs.Abbreviation.{specifications_production, declared_production, declaration_production}
use Rattle.gimli_compilation.specs.Abbreviation.{abbreviation_production}
use Rattle.gimli_compilation.proofs.Until.{TakesBytes, takes_both, reads_until}

reads_constant : (form : ℕ) → Reads (constant_production form)
reads_constant form = search readers

pub reads_specification : Reads specification_production
unfolding specification_production
reads_specification = search (readers, reads_constant)

pub specification_takes : TakesBytes specification_production
unfolding specification_production
specification_takes = takes_both unsigned_16 _ (record { none = λ n s. s.groups })

pub reads_specifications : Reads specifications_production
unfolding specifications_production
reads_specifications = search (readers, reads_until, reads_specification, specification_takes)

reads_declared : Reads declared_production
unfolding declared_production
reads_declared = search (readers, reads_specifications)

pub reads_declaration : Reads declaration_production
unfolding declaration_production
reads_declaration = search (readers, reads_declared)

pub declaration_takes : TakesBytes declaration_production
unfolding declaration_production
declaration_takes = takes_both unsigned _ (record { none = λ n s. s.groups })

pub reads_abbreviation : (code : ℕ) → Reads (abbreviation_production code)
unfolding abbreviation_production
reads_abbreviation code = search (readers, reads_until, reads_declaration, declaration_takes)
