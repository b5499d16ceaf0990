use Rattle.gimli_write.proofs
use proofs.Common
use Common.{refl, Result, Ok, Err, IfOk, err_from_is_err_and, IfErr-weaker, tables_with, ToConvert, to_convert}
use Common.{still_to_read}
use proofs.ConvertSteps.{kept_then}
use proofs.Outcomes.{all_converted, all_comes, header_refused, rows_refused}
use proofs.MappedLaws.{conversion_faithful}
use proofs.convert.program.convert_program.Goals as goal

-- what follows of an answer from two facts of it
both : {X E : Type 0} {P Q S : X → Type 0} (r : Result X E) → ((x : X) → P x → Q x → S x) → IfOk r P → IfOk r Q
    → IfOk r S
both (Ok x) f p q = f x p q
both (Err e) f p q = tt

pub returns-in_err-header-clause-refusal : goal.returns-in_err-header-clause-refusal
returns-in_err-header-clause-refusal g c =
    let source : ToConvert =
    to_convert g.R.Reader.seen c.args.debug_str c.args.debug_line_str c.args.from_program c.args.from_comp_name
    c.args.encoding c.args.line_encoding in
    let p = err_from_is_err_and c.from_residual.result c.from_residual.ensures.1 in
    rw (p.1, p.2)
    (header_refused (goal.F-post g c.args.convert_address) source c.args.line_strings.now c.in_err-header.field-0.0
    c.in_err-header.ensures.err)

pub returns-clause-outcome : goal.returns-clause-outcome
returns-clause-outcome g c =
    let source : ToConvert =
    to_convert g.R.Reader.seen c.args.debug_str c.args.debug_line_str c.args.from_program c.args.from_comp_name
    c.args.encoding c.args.line_encoding in
    let before = c.args.line_strings.now in
    let first = tables_with c.new.new.line_strings c.in_ok-header.header.tables in
    let reading = still_to_read c.in_ok-header.header c.new.new.line_strings in
    let map = goal.F-post g c.args.convert_address in
    let prepared = c.in_ok-header.ensures.ok.prepared in
    let reads = c.in_ok-header.ensures.ok.reads in
    let writable =
    (rw c.into_conversion.ensures at c.convert_all.ensures.writable) c.in_ok-header.ensures.ok.writable in
    both c.convert_all.result (λ answer comes can_write. record {
      answers = all_comes map source before first reading prepared reads _ comes.answers;
      converts = λ m says. all_converted map source before first reading prepared reads m _ (comes.as_function m says);
      writable = can_write;
      faithful = λ m says can. conversion_faithful m source before _
          (all_converted map source before first reading prepared reads m _ (comes.as_function m says)) can
          c.args.strings.now;
    }) (rw c.into_conversion.ensures at c.convert_all.ensures.ok) writable

pub returns-clause-refusal : goal.returns-clause-refusal
returns-clause-refusal g c =
    let source : ToConvert =
    to_convert g.R.Reader.seen c.args.debug_str c.args.debug_line_str c.args.from_program c.args.from_comp_name
    c.args.encoding c.args.line_encoding in
    IfErr-weaker _ _ _ (λ e refused. rows_refused (goal.F-post g c.args.convert_address) source c.args.line_strings.now
    (tables_with c.new.new.line_strings c.in_ok-header.header.tables)
    (still_to_read c.in_ok-header.header c.new.new.line_strings)
    c.in_ok-header.ensures.ok.prepared c.in_ok-header.ensures.ok.reads e refused.answers refused.as_function)
    (rw c.into_conversion.ensures at c.convert_all.ensures.err)

pub returns-clause-tables : goal.returns-clause-tables
returns-clause-tables g c = record {
  line_strings = kept_then c.in_ok-header.ensures.stays c.convert_all.ensures.stays;
  strings = refl;
}
