use Rattle.gimli_build.proofs
use proofs.building.TableLemmas.{details_written}
use proofs.built.line_program.LineProgram.get_file_info_mut.Goals as goal

pub invariant_of-self-lent : goal.invariant_of-self-lent
invariant_of-self-lent c = λ w. details_written _ _ _ c.self.invariant
