use Rattle.gimli_write.proofs
use proofs.Common
use Common.{ℕ, nat_eq, refl, sym, ap, ◌∙◌, inr, Option, Some, Ok, Result, eqb-true, nil_from_length}
use Common.{err_from_is_err_and, ConvertError, Row, Reading, SequenceRead, sequence_with, tables_of, still_to_read}
use Rattle.gimli_write.specs.declared.convert.rows.ConvertLineRow.TheVariants.{SetAddress}
use Rattle.gimli_write.specs.declared.convert.rows.ConvertLineSequenceEnd.TheVariants.{Address}
use proofs.ConvertSteps.{refused_same}
use proofs.Outcomes.{one_fewer}
use proofs.ReadLemmas.{reads_then, reads_kept}
use proofs.Gathers.{
  gathered_first,
  row_gathered,
  address_gathered,
  address_ends,
  given_back,
  nothing_gathered,
  rows_left,
  gather_refused,
}
use proofs.convert.conversion.Conversion.gather.Goals as goal

pub returns-in_err-row-clause-err : goal.returns-in_err-row-clause-err
returns-in_err-row-clause-err g c =
    let old = still_to_read c.rows.self c.rows.line_strings in
    let e = c.in_err-row.field-0.0 in
    let p = err_from_is_err_and c.from_residual.result c.from_residual.ensures.1 in
    rw (p.1, p.2) (refused_same e
    c.rows.invariant.same (gather_refused c.rows.start c.rows.rows.items old e c.in_err-row.ensures.err))

pub rows-smaller-in-Continue-branch-4 : goal.rows-smaller-in-Continue-branch-4
rows-smaller-in-Continue-branch-4 g c =
    let found = rw c.in-Some-Row.is at c.in_ok-row.ensures.ok in
    let hands = rw c.in-Some-Row.field-0-is at found in
    one_fewer (still_to_read c.rows.self c.rows.line_strings)
    (still_to_read c.read_row.new.self c.read_row.new.line_strings) (Row c.in-Some-Row.row)
    (tables_of c.read_row.new.self c.read_row.new.line_strings) hands

pub rows-preserved-in-Continue-branch-4 : goal.rows-preserved-in-Continue-branch-4
rows-preserved-in-Continue-branch-4 g c =
    let found = rw c.in-Some-Row.is at c.in_ok-row.ensures.ok in
    let hands = rw c.in-Some-Row.field-0-is at found in
    record {
      same =
          row_gathered c.rows.start c.rows.rows.items c.in-Some-Row.row (still_to_read c.rows.self c.rows.line_strings)
          (still_to_read c.read_row.new.self c.read_row.new.line_strings)
          (tables_of c.read_row.new.self c.read_row.new.line_strings) hands c.in_ok-push-in-Some-Row.ensures.items
          ∙ c.rows.invariant.same;
      reads_on = reads_then c.rows.invariant.reads_on c.in_ok-row.ensures.reads_on;
      last = c.in_ok-row.ensures.leaves.still ∙ c.rows.invariant.last;
    }

pub rows-smaller : goal.rows-smaller
rows-smaller g c =
    let found = rw c.in-Some-SetAddress.is at c.in_ok-row.ensures.ok in
    let hands = rw c.in-Some-SetAddress.field-0-is at found in
    one_fewer (still_to_read c.rows.self c.rows.line_strings)
    (still_to_read c.read_row.new.self c.read_row.new.line_strings) (SetAddress c.in-Some-SetAddress.address)
    (tables_of c.read_row.new.self c.read_row.new.line_strings) hands

pub rows-preserved : goal.rows-preserved
rows-preserved g c =
    let found = rw c.in-Some-SetAddress.is at c.in_ok-row.ensures.ok in
    let hands = rw c.in-Some-SetAddress.field-0-is at found in
    let none =
    nil_from_length c.rows.rows.items
    (sym c.rows.rows.ok.0 ∙ eqb-true c.rows.rows.len 0 (sym c.is_empty.ensures ∙ c.if-is_empty.true)) in
    record {
      same =
          address_gathered c.rows.start c.in-Some-SetAddress.address (still_to_read c.rows.self c.rows.line_strings)
          (still_to_read c.read_row.new.self c.read_row.new.line_strings)
          (tables_of c.read_row.new.self c.read_row.new.line_strings) hands none ∙ c.rows.invariant.same;
      reads_on = reads_then c.rows.invariant.reads_on c.in_ok-row.ensures.reads_on;
      last = c.in_ok-row.ensures.leaves.still ∙ c.rows.invariant.last;
    }

pub returns-in-Some-SetAddress-2-clause-ok : goal.returns-in-Some-SetAddress-2-clause-ok
returns-in-Some-SetAddress-2-clause-ok g c =
    let found = rw c.in-Some-SetAddress.is at c.in_ok-row.ensures.ok in
    let hands = rw c.in-Some-SetAddress.field-0-is at found in
    let a = c.in-Some-SetAddress.address in
    let some = ap (λ (n : ℕ). nat_eq n 0) (sym c.rows.rows.ok.0) ∙ sym c.is_empty.ensures ∙ c.if-is_empty.false in
    sym c.rows.invariant.same
    ∙ address_ends c.rows.start c.rows.rows.items a (still_to_read c.rows.self c.rows.line_strings)
    (still_to_read c.read_row.new.self c.read_row.new.line_strings)
    (tables_of c.read_row.new.self c.read_row.new.line_strings) hands some ∙ ap (λ (r : Reading).
    let answer : Result (Option SequenceRead × Reading) ConvertError =
    Ok (Some (sequence_with c.rows.start c.rows.rows.items (Address a)), r) in
    answer)
    (given_back c.read_row.new.self c.give_back.new.self c.read_row.new.line_strings a c.in_ok-row.ensures.repeats.well
    c.in_ok-row.ensures.given c.give_back.ensures)

pub returns-in-Some-EndSequence-clause-ok : goal.returns-in-Some-EndSequence-clause-ok
returns-in-Some-EndSequence-clause-ok g c =
    let found = rw c.in-Some-EndSequence.is at c.in_ok-row.ensures.ok in
    let hands = rw c.in-Some-EndSequence.field-0-is at found in
    sym c.rows.invariant.same
    ∙ gathered_first c.rows.start c.rows.rows.items (still_to_read c.rows.self c.rows.line_strings) hands

pub returns-in-None-clause-ok : goal.returns-in-None-clause-ok
returns-in-None-clause-ok g c =
    let end = rw c.in-None.is at c.in_ok-row.ensures.ok in
    let none =
    nil_from_length c.rows.rows.items
    (sym c.rows.rows.ok.0 ∙ eqb-true c.rows.rows.len 0 (sym c.if-is_empty-2.ensures)) in
    sym c.rows.invariant.same ∙ nothing_gathered c.rows.start (still_to_read c.rows.self c.rows.line_strings)
    (tables_of c.read_row.new.self c.read_row.new.line_strings) end.0 end.1 none

pub returns-in-None-2-clause-err : goal.returns-in-None-2-clause-err
returns-in-None-2-clause-err g c =
    let end = rw c.in-None.is at c.in_ok-row.ensures.ok in
    let some = ap (λ (n : ℕ). nat_eq n 0) (sym c.rows.rows.ok.0) ∙ sym c.if-is_empty-2.ensures in
    inr (sym c.rows.invariant.same
    ∙ rows_left c.rows.start c.rows.rows.items (still_to_read c.rows.self c.rows.line_strings)
    (tables_of c.read_row.new.self c.read_row.new.line_strings) end.0 some)

pub returns-in_err-row-clause-reads_on : goal.returns-in_err-row-clause-reads_on
returns-in_err-row-clause-reads_on g c = reads_then c.rows.invariant.reads_on c.in_err-row.ensures.reads_on

pub returns-in_err-push-in-Some-Row-clause-reads_on : goal.returns-in_err-push-in-Some-Row-clause-reads_on
returns-in_err-push-in-Some-Row-clause-reads_on g c = reads_then c.rows.invariant.reads_on c.in_ok-row.ensures.reads_on

pub returns-in-Some-SetAddress-2-clause-reads_on : goal.returns-in-Some-SetAddress-2-clause-reads_on
returns-in-Some-SetAddress-2-clause-reads_on g c =
    rw c.give_back.ensures (reads_kept _ _ refl refl
    (reads_then c.rows.invariant.reads_on c.in_ok-row.ensures.reads_on))

pub returns-in-Some-EndSequence-clause-reads_on : goal.returns-in-Some-EndSequence-clause-reads_on
returns-in-Some-EndSequence-clause-reads_on g c = reads_then c.rows.invariant.reads_on c.in_ok-row.ensures.reads_on

pub returns-in-None-clause-reads_on : goal.returns-in-None-clause-reads_on
returns-in-None-clause-reads_on g c = reads_then c.rows.invariant.reads_on c.in_ok-row.ensures.reads_on

pub returns-in-None-2-clause-reads_on : goal.returns-in-None-2-clause-reads_on
returns-in-None-2-clause-reads_on g c = reads_then c.rows.invariant.reads_on c.in_ok-row.ensures.reads_on
