use Rattle.gimli_build.proofs
use proofs.building.TableLemmas.{previous_stands}
use proofs.built.line_program.LineProgram.can_generate_row.Goals as goal

pub can_follow-requires-clause-stands : goal.can_follow-requires-clause-stands
can_follow-requires-clause-stands c =
    rw c.position-offset.ensures (previous_stands _ _ c.self.invariant.lines c.self.invariant.items_built)
