use Rattle.gimli_line.proofs
use proofs.Common.{◌∙◌, sym, ap, List, Option, Error, Ins, decoded_at}
use proofs.InstructionLaws.{is_decoded, one_decoding}
use proofs.laws.one_decoding.Goals as goal

pub returns : goal.returns
returns c = record {
  some = λ layout h bytes. ((decoded_at layout h bytes).0, (decoded_at layout h bytes).1, is_decoded layout h bytes);
  one = λ layout h bytes list other end finish first second.
      let same = one_decoding layout h bytes list end first ∙ sym (one_decoding layout h bytes other finish second) in
      (ap (λ (p : List Ins × Option Error). p.0) same, ap (λ (p : List Ins × Option Error). p.1) same);
}
