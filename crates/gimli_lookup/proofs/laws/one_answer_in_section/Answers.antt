use Rattle.gimli_lookup.proofs.OneSectionAnswer.{one_answer}
use Rattle.gimli_lookup.proofs.laws.one_answer_in_section.Goals as goal

pub returns : goal.returns
returns c =
    one_answer c.one_decoding.ensures.one c.one_unit_or_refusal.ensures.both c.one_unit_or_refusal.ensures.header
    c.one_list_of_units.ensures.one
