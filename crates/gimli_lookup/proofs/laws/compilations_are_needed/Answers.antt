use Rattle.std.specs.Prelude.{slice_get}
use Rattle.gimli_lookup.specs.Program.{listed}
use Rattle.gimli_lookup.proofs.NeededCompilations.{same_one, none_at, none_of}
use Rattle.gimli_lookup.proofs.laws.compilations_are_needed.Goals as goal

pub returns-clause-path : goal.returns-clause-path
returns-clause-path c = λ texts units found other none. same_one texts other found (slice_get units found.unit) none

pub returns-clause-section : goal.returns-clause-section
returns-clause-section c = λ texts units found none. none_of texts (listed units) found.unit none

pub returns-clause-each : goal.returns-clause-each
returns-clause-each c = λ texts units rows found there none. none_at texts units rows found there none
