use Rattle.gimli_compilation.proofs.Answered.{some_answer, no_both, one_compilation, one_refusal}
use Rattle.gimli_compilation.proofs.laws.one_answer.Goals as goal

pub returns : goal.returns
returns c = record { some = some_answer; both = no_both; compilation = one_compilation; refusal = one_refusal }
