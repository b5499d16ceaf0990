use Rattle.gimli_core.proofs.OffsetClones.{line, string, line_string, index}
use Rattle.gimli_core.proofs.laws.clones_of_offsets_are_same.Goals as goal

pub returns : goal.returns
returns g c = record {
  line_programs = λ clones a. ((clones a.0).0, λ b is. line a b ((clones a.0).1 b.0 is));
  strings = λ clones a. ((clones a.0).0, λ b is. string a b ((clones a.0).1 b.0 is));
  line_strings = λ clones a. ((clones a.0).0, λ b is. line_string a b ((clones a.0).1 b.0 is));
  indices = λ clones a. ((clones a.0).0, λ b is. index a b ((clones a.0).1 b.0 is));
}
