use Rattle.std.proofs.Common.{◌∙◌, ◌++◌, ℕ, List, ap}
use Rattle.std.proofs.lemmas.Result.{on_ok_weaker}
use Rattle.gimli_index.specs.Contents.{le_bytes}
use Rattle.gimli_index.proofs.Puts.{then_put}
use Rattle.gimli_index.proofs.contents.put_source.Goals as goal

pub returns-clause-bytes : goal.returns-clause-bytes
returns-clause-bytes c = λ paths is.
    let s = c.args.source in
    let old : List ℕ = c.args.out.now.items in
    let x1 : List ℕ = c.put_long.new.out.items in
    let x2 : List ℕ = c.put_words.new.out.items in
    let x3 : List ℕ = c.put_words-2.new.out.items in
    let path = le_bytes 4 s.first ++ le_bytes 4 s.size in
    on_ok_weaker c.put_words-2.result
    (λ put. then_put old (le_bytes 8 s.unit ++ path) _ x2 x3
    (then_put old (le_bytes 8 s.unit) path x1 x2 c.in_ok-put_long.ensures c.in_ok-put_words.ensures)
    (put ∙ ap (λ n. x2 ++ (le_bytes 4 s.reason ++ le_bytes 4 n)) is))
    c.put_words-2.ensures
