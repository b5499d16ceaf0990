use Rattle.gimli_build.proofs
use proofs.Common.{drop, map, Hand, line_text, text_in_form}
use proofs.writing.Writes.{WritesSoFar}
use proofs.tables.version_5.write_texts.Given as goal

abbrev pub invariant-loop-text : goal.invariant-loop-text
invariant-loop-text g l = record {
  so : WritesSoFar g.W.Sink (λ (hand : Hand).
      text_in_form hand (g.W.Sink.is_big l.fn.w) l.input.program.encoding.format l.input.texts l.form.0)
      (map line_text l.texts)
      (drop l.text-index (map line_text l.texts)) l.fn.w l.w;
}
