use Rattle.gimli_lookup.proofs.StringLaws.{string_found, string_only, out_of_bounds, no_byte_there, unterminated}
use Rattle.gimli_lookup.proofs.StringLaws.{no_end_there}
use Rattle.gimli_lookup.proofs.laws.strings_are_spelled.Goals as goal

pub returns : goal.returns
returns c =
    let reads = c.texts.ensures in
    record {
      found = string_found reads;
      only = string_only reads;
      out_of_bounds = λ section offset. (out_of_bounds section offset, no_byte_there section offset);
      unterminated = λ section offset. (unterminated reads section offset, no_end_there reads section offset);
    }
