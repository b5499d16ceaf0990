use Rattle.std.specs.Prelude.{◌≡◌}
use Rattle.gimli_build.proofs
use proofs.Common
use Common.{Bool, Encoding, subst, ap, sym, ◌∙◌, plain, unplaced, Appends, texts_in, texts_after, placed, counted}
use Common.{unit_bytes, is_incompatible, err_from_is_err_and}
use Rattle.gimli_build.specs.Linked.{placed_program, SumsFit}
use proofs.building.SourceLemmas.{can-write-after}
use proofs.reading.ReadBack.{appended-back}
use proofs.linking.PlacedUnits.{placed-counted, placed-short, is-built, can-write}
use proofs.linking.FoundTexts.{written-held}
use proofs.writing.Writes.{refused_or_memory}
use proofs.built.line_program.LineProgram.write.Goals as goal

told : (unit : Encoding) {own program : Encoding} {answer b : Bool} → own ≡ program
    → answer ≡ is_incompatible unit own → answer ≡ b → is_incompatible unit program ≡ b
told unit same is so = ap (is_incompatible unit) (sym same) ∙ sym is ∙ so

pub new-input-requires-clause-can : goal.new-input-requires-clause-can
new-input-requires-clause-can g c = rw (c.in_ok-empty.ensures.tables.strings, c.in_ok-empty.ensures.tables.line_strings)
    (can-write-after _ _ c.requires)

pub returns-clause-reads_back : goal.returns-clause-reads_back
returns-clause-reads_back g c = record {
  written = λ keeps_bytes.
      let contents = g.W.Sink.contents in
      let is_big = g.W.Sink.is_big c.args.w.now.0 in
      let p = c.args.self.now in
      let texts = texts_in c.args.strings.now c.args.line_strings.now in
      let empty = c.in_ok-empty.ensures in
      let whole = c.in_ok-write_whole.ensures in
      let same = empty.tables.strings in
      let line_same = empty.tables.line_strings in
      let compatible = told c.args.encoding c.encoding.ensures.encoding c.is_incompatible.ensures
      c.if-is_incompatible.false in
      let written =
      rw (c.new-input.ensures.program, c.new-input.ensures.texts, same, line_same) at (whole.writes.ok keeps_bytes) in
      let appended : Appends (unit_bytes plain is_big c.args.encoding p texts) (contents c.args.w.now.0)
      (contents c.write_whole.new.w) = rw compatible written in
      rw (same, line_same) (appended-back unplaced is_big c.args.encoding p texts _ _ whole.short
      (rw c.new-input.ensures.program at whole.built) c.requires (rw same at empty.texts)
      (rw line_same at empty.line_texts)
      (λ new i d lt. written-held _ (rw same at empty.short) (rw line_same at empty.line_short) _) appended);
  linked = λ at completes is_placed fit.
      let is_big = g.W.Sink.is_big c.args.w.now.0 in
      let p = c.args.self.now in
      let texts = texts_in c.args.strings.now c.args.line_strings.now in
      let old = g.W.Sink.completed at c.args.w.now.0 in
      let new = g.W.Sink.completed at c.write_whole.new.w in
      let empty = c.in_ok-empty.ensures in
      let whole = c.in_ok-write_whole.ensures in
      let same = empty.tables.strings in
      let line_same = empty.tables.line_strings in
      let compatible = told c.args.encoding c.encoding.ensures.encoding c.is_incompatible.ensures
      c.if-is_incompatible.false in
      let sums : SumsFit at p (texts_after p texts) = rw (same, line_same) at fit in
      let written = rw (c.new-input.ensures.program, c.new-input.ensures.texts, same, line_same, is_placed) at
      (whole.writes.completed at completes) in
      let by_hand : Appends (unit_bytes (placed at) is_big c.args.encoding p texts) old new = rw compatible written in
      let appended : Appends (unit_bytes (counted at) is_big c.args.encoding (placed_program at p) texts) old new =
      subst (λ r. Appends r old new) (placed-counted at is_big c.args.encoding p texts sums) by_hand in
      rw (same, line_same)
      (appended-back at is_big c.args.encoding (placed_program at p) texts old new (whole.completed_short at completes)
      (is-built at p (rw c.new-input.ensures.program at whole.built)) (can-write at p texts c.requires)
      (rw same at empty.texts) (rw line_same at empty.line_texts) (placed-short at is_big c.args.encoding p texts sums)
      appended);
}

pub returns-in_err-write_whole-clause-writes : goal.returns-in_err-write_whole-clause-writes
returns-in_err-write_whole-clause-writes g c =
    let compatible = told c.args.encoding c.encoding.ensures.encoding c.is_incompatible.ensures
    c.if-is_incompatible.false in
    let q =
    err_from_is_err_and c.from_residual-in_err-write_whole.result c.from_residual-in_err-write_whole.ensures.1 in
    let input = c.new-input.ensures in
    let tables = c.in_ok-empty.ensures.tables in
    let refused =
    rw (input.program, input.texts, tables.strings, tables.line_strings) at c.in_err-write_whole.ensures.writes in
    rw (q.1, q.2, compatible) (refused_or_memory refused)
