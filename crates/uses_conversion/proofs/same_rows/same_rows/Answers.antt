use Rattle.std.proofs.Common.{rules, refl, arith}
use Rattle.std.specs.Prelude.{Some}
use Rattle.std.proofs.lemmas.Result.{IfOk-weaker}
use Rattle.gimli_bytes.specs.declared.address.Address.TheVariants.{Constant}
use Rattle.uses_conversion.proofs.same_rows.same_rows.Goals as goal

pub returns : goal.returns
returns g c = record {
  faithful =
      IfOk-weaker c.convert_and_read_back.result _ _ (λ answer reads.
      (reads (λ a. Some (Constant a)) (λ a r post. search rules)).rows (record {
        itself = λ a. refl;
        wide = omega arith;
        no_end_under_tombstone =
            c.no_sequence_ends_under_tombstone.ensures.0
            (let said = c.if-not-no_sequence_ends_under_tombstone.false in grind arith);
      })) c.convert_and_read_back.ensures.faithful;
}
