use Rattle.gimli_line.proofs.UnitLaws.{one_list, some_list}
use Rattle.gimli_line.proofs.laws.one_list_of_units.Goals as goal

pub returns : goal.returns
returns c = record { some = some_list; one = one_list }
