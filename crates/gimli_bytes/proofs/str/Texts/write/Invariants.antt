use Rattle.std.specs.Prelude.{◌≡◌, ◌++◌}
use Rattle.gimli_bytes.proofs.Common.{IsTrue, take, Placement, table_bytes, texts_of, Begins}
use Rattle.gimli_bytes.proofs.str.Texts.write.Given as goal

abbrev pub invariant-loop-text : goal.invariant-loop-text
invariant-loop-text g l =
    let contents = g.W.Sink.contents in
    record {
      keeps : Begins (contents l.fn.w) (contents l.w);
      ordered : g.W.Sink.is_big l.w ≡ g.W.Sink.is_big l.fn.w;
      stays : IsTrue (g.W.Sink.completes l.fn.w) → IsTrue (g.W.Sink.completes l.w);
      unrefused : IsTrue (g.W.Sink.unrefused l.fn.w) → IsTrue (g.W.Sink.unrefused l.w);
      completed : (at : Placement) → IsTrue (g.W.Sink.completes l.fn.w)
          → g.W.Sink.completed at l.w
          ≡ g.W.Sink.completed at l.fn.w ++ table_bytes (texts_of (take l.text-index l.text-items));
      put : IsTrue g.W.Sink.keeps_bytes
          → contents l.w ≡ contents l.fn.w ++ table_bytes (texts_of (take l.text-index l.text-items));
    }
