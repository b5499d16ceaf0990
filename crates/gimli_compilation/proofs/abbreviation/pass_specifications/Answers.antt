use Rattle.std.proofs.Common.{sym, ◌∙◌}
use Rattle.std.proofs.lemmas.Result.{err_from_is_err_and}
use Rattle.gimli_compilation.proofs.Specifications.{specification_smaller, passed_more, passed_last, passed_refused}
use Rattle.gimli_compilation.proofs.abbreviation.pass_specifications.Goals as goal

pub returns-in_err-specification : goal.returns-in_err-specification
returns-in_err-specification g c =
    let p = err_from_is_err_and c.from_residual.result c.from_residual.ensures.1 in
    record {
      read =
          rw (p.1, p.2)
          (sym (passed_refused _ _ _ c.in_err-specification.ensures.read) ∙ c.loop-specification.invariant);
    }

pub returns-then-is_end : goal.returns-then-is_end
returns-then-is_end g c = record {
  read =
      sym (passed_last _ _ _ c.in_ok-specification.ensures.read (sym c.is_end.ensures ∙ c.if-is_end.true))
      ∙ c.loop-specification.invariant;
}

pub loop-specification-preserved : goal.loop-specification-preserved
loop-specification-preserved g c =
    sym (passed_more _ _ _ c.in_ok-specification.ensures.read (sym c.is_end.ensures ∙ c.if-is_end.false))
    ∙ c.loop-specification.invariant

pub loop-specification-smaller : goal.loop-specification-smaller
loop-specification-smaller g c = specification_smaller _ _ _ c.in_ok-specification.ensures.read
