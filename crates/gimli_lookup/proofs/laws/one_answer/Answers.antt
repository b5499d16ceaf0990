use Rattle.gimli_lookup.proofs.OneAnswer.{same_sequences, same_answer}
use Rattle.gimli_lookup.proofs.laws.one_answer.Goals as goal

pub returns : goal.returns
returns c = record {
  sequences = same_sequences c.one_decoding.ensures.one;
  find = same_answer c.one_decoding.ensures.one;
}
