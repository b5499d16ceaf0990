use Rattle.gimli_lookup.proofs.Ascents.{units_up}
use Rattle.gimli_lookup.proofs.laws.kept_rows_never_go_down.Goals as goal

pub returns-clause-section : goal.returns-clause-section
returns-clause-section g c = λ section entry lowest units are. units_up section entry lowest units are.each
