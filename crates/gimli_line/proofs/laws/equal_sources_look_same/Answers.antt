use Rattle.gimli_line.proofs.Equality.{options_by}
use Rattle.gimli_line.proofs.laws.equal_sources_look_same.Goals as goal

pub returns : goal.returns
returns g c readers offsets x y = options_by (c.equal_values_look_same.ensures readers offsets) x y
