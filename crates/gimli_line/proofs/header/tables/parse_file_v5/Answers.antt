use Rattle.std.specs.Prelude.{◌≡◌, ◌+◌, ◌<◌, ◌≤◌}
use Rattle.std.proofs.Common.{get_or}
use Rattle.std.proofs.lemmas.List.{drop_more}
use Rattle.gimli_line.proofs
use proofs.Common
use Common.{ℕ, List, Ok, Err, length, drop, drop_all, refl, subst, ◌∙◌, err_from_is_err_and, Value, ValueHasOrder, Read}
use Common.{read_of, order_of, taken_of, ap, layout_of}
use Common.{Error, Format, OrderAndLimit, File, FileEntryFormat}
use Rattle.gimli_core.specs.Form.{form_production}
use Rattle.gimli_line.specs.inside.header.EntryReading.{file_with, folded_at}
use proofs.Order.{file_kept}
use proofs.Entries.{file_is}
use proofs.header.tables.parse_file_v5.Goals as goal

module _ (layout : OrderAndLimit) (format : Format) (fs : List FileEntryFormat) (i : ℕ) (x : File) (bytes : List ℕ)
    (total : Read File) (so_far : folded_at layout format file_with x (drop i fs) bytes ≡ total) where
  goes_on : {at : OrderAndLimit} → at ≡ layout → (d : FileEntryFormat) (value : Value) (rest : List ℕ) → i < length fs
      → (Ok value, rest) ≡ (form_production at format (get_or fs i d).form.0).read bytes
      → folded_at layout format file_with (file_with x (get_or fs i d).content_type.0 value) (drop (i + 1) fs) rest
      ≡ total
  goes_on same d value rest lt at_it = let read = rw same at at_it in rw (drop_more fs i d lt, ← read) at so_far

  ends : {at : OrderAndLimit} → at ≡ layout → (d : FileEntryFormat) (e : Error) (rest : List ℕ) → i < length fs
      → (Err e, rest) ≡ (form_production at format (get_or fs i d).form.0).read bytes → (Err e, rest) ≡ total
  ends same d e rest lt at_it = let read = rw same at at_it in rw (drop_more fs i d lt, ← read) at so_far

  done : length fs ≤ i → (Ok x, bytes) ≡ total
  done le = rw (drop_all i fs le) at so_far

pub loop-entry_format-init : goal.loop-entry_format-init
loop-entry_format-init g c = record {
  so_far = rw (c.of_path-file.ensures.file, c.nothing.ensures.bytes) (file_is _ _ _ _);
  order = refl;
  part = file_kept g.R.Reader.seen _ _ c.of_path-file.result c.nothing.ensures.order c.of_path-file.ensures.order;
}

pub loop-entry_format-preserved : goal.loop-entry_format-preserved
loop-entry_format-preserved g c =
    let i = c.loop-entry_format.invariant in
    record {
      so_far = rw c.update.ensures.file
          (goes_on _ _ _ _ _ _ _ i.so_far (ap (λ order. layout_of order g.R.Offset.ReaderOffset.limit) i.order) _ _ _
          c.loop-entry_format-test.true
          (read_of c.in_ok-value.ensures.read));
      order = order_of c.parse_attribute.ensures.read ∙ i.order;
      part = c.update.ensures.order _ i.part
          (subst (λ order. ValueHasOrder g.R.Reader.seen order c.in_ok-value.value) i.order
          c.in_ok-value.ensures.part);
    }

pub returns-in_err-value-clause-read : goal.returns-in_err-value-clause-read
returns-in_err-value-clause-read g c =
    let p = err_from_is_err_and c.from_residual.result c.from_residual.ensures.1 in
    let i = c.loop-entry_format.invariant in
    rw (p.1, p.2)
    (taken_of
    (ends _ _ _ _ _ _ _ i.so_far (ap (λ order. layout_of order g.R.Offset.ReaderOffset.limit) i.order) _ _ _
    c.loop-entry_format-test.true
    (read_of c.in_err-value.ensures.read))
    (order_of c.in_err-value.ensures.read ∙ i.order))

pub returns-clause-read : goal.returns-clause-read
returns-clause-read g c =
    taken_of (done _ _ _ _ _ _ _ c.loop-entry_format.invariant.so_far c.loop-entry_format-test.false)
    c.loop-entry_format.invariant.order
