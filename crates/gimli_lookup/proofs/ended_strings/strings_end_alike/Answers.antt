use Rattle.gimli_lookup.proofs.EndedStrings.{found_whole, unended_whole}
use Rattle.gimli_lookup.proofs.ended_strings.strings_end_alike.Goals as goal

pub returns-clause-found : goal.returns-clause-found
returns-clause-found c = found_whole c.strings_are_spelled.ensures.found c.strings_are_spelled.ensures.only

pub returns-clause-unended : goal.returns-clause-unended
returns-clause-unended c =
    unended_whole (λ section offset. (c.strings_are_spelled.ensures.unterminated section offset).0)
    (λ section offset. (c.strings_are_spelled.ensures.unterminated section offset).1)

pub returns-clause-out : goal.returns-clause-out
returns-clause-out c = λ section offset past. (c.strings_are_spelled.ensures.out_of_bounds section offset).1 past
