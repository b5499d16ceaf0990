use Rattle.gimli_core.proofs.Taken.{read_of, order_of}
use Rattle.std.proofs.Common.{refl, sym, ◌∙◌}
use Rattle.std.proofs.lemmas.Result.{err_from_is_err_and}
use Rattle.gimli_compilation.proofs.Specifications.{specification_smaller, still_listed, never_refused}
use Rattle.gimli_compilation.proofs.AttributeRuns.{seen_with, attributes_go_on, attributes_refused, attributes_done}
use Rattle.gimli_compilation.proofs.attributes.parse_attributes.Goals as goal

pub loop-specification-init : goal.loop-specification-init
loop-specification-init g c = record {
  so_far = rw c.none-attributes.ensures refl;
  closed = c.requires.closed;
  order = refl;
}

pub returns-in_err-specification : goal.returns-in_err-specification
returns-in_err-specification g c =
    absurd (never_refused _ _ _ c.loop-specification.invariant.closed c.in_err-specification.ensures.read)

pub returns-then-is_end : goal.returns-then-is_end
returns-then-is_end g c =
    record {
      read =
          attributes_done _ _ _ _ _ _ _ _ c.in_ok-specification.ensures.read (sym c.is_end.ensures ∙ c.if-is_end.true)
          c.loop-specification.invariant.so_far;
    }

pub returns-in_err-value : goal.returns-in_err-value
returns-in_err-value g c =
    let p = err_from_is_err_and c.from_residual-in_err-value.result c.from_residual-in_err-value.ensures.1 in
    let read = rw c.loop-specification.invariant.order at (read_of c.in_err-value.ensures.read) in
    record {
      read =
          rw (p.1, p.2)
          (attributes_refused _ _ _ _ _ c.loop-specification.invariant.closed c.in_ok-specification.ensures.read
          (sym c.is_end.ensures ∙ c.if-is_end.false) _ _ _ _ _ read c.loop-specification.invariant.so_far);
    }

pub loop-specification-preserved : goal.loop-specification-preserved
loop-specification-preserved g c =
    let on = sym c.is_end.ensures ∙ c.if-is_end.false in
    let read = rw c.loop-specification.invariant.order at (read_of c.in_ok-value.ensures.read) in
    record {
      so_far =
          rw (c.update.ensures, seen_with) (attributes_go_on _ _ _ _ _ c.loop-specification.invariant.closed
          c.in_ok-specification.ensures.read on _ _ _ _ _
          read c.loop-specification.invariant.so_far);
      closed = still_listed _ _ _ c.loop-specification.invariant.closed c.in_ok-specification.ensures.read on;
      order = order_of c.parse_form.ensures.read ∙ c.loop-specification.invariant.order;
    }

pub loop-specification-smaller : goal.loop-specification-smaller
loop-specification-smaller g c = specification_smaller _ _ _ c.in_ok-specification.ensures.read
