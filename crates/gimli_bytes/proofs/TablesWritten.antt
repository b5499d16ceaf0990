-- What the loop that writes a table of texts leaves.
use Rattle.std.specs.Prelude.{◌≡◌, ◌+◌, ◌<◌, ◌≤◌, ◌∷◌, ◌++◌}
use Rattle.std.specs.declared.vec.Vec.{Vec}
use Rattle.std.specs.declared.alloc.Global.{Global}
use Rattle.std.proofs.lemmas.Grind.{common_steps}
use Rattle.gimli_bytes.proofs.Common
use Common.{ℕ, Bool, true, false, List, [], length, take, get_or, refl, sym, ap, ◌∙◌, append_assoc, arith, take_all}
use Common.{number_bytes, table_bytes, texts_of}

zero_byte : (is_big : Bool) → number_bytes is_big 1 0 ≡ 0 ∷ []
zero_byte true = refl
zero_byte false = refl

one_more : (items : List (Vec ℕ Global)) (i : ℕ) (item : Vec ℕ Global) → i < length items → item ≡ get_or items i item
    → table_bytes (texts_of (take (i + 1) items)) ≡ table_bytes (texts_of (take i items)) ++ (item.items ++ 0 ∷ [])
one_more items i item lt is = grind (arith, common_steps)

-- a text and its zero byte after the texts before it
pub text_put : (items : List (Vec ℕ Global)) (i : ℕ) (item : Vec ℕ Global) (is_big : Bool)
    (text old mid later new : List ℕ)
    → i < length items
    → item ≡ get_or items i item → text ≡ item.items
    → mid ≡ old ++ table_bytes (texts_of (take i items)) → later ≡ mid ++ text → new ≡ later ++ number_bytes is_big 1 0
    → new ≡ old ++ table_bytes (texts_of (take (i + 1) items))
text_put items i item is_big text old mid later new lt is same before put ended =
    let done = table_bytes (texts_of (take i items)) in
    ended ∙ ap (λ l. later ++ l) (zero_byte _)
    ∙ ap (λ l. l ++ 0 ∷ []) (put ∙ ap (λ l. mid ++ l) same ∙ ap (λ l. l ++ item.items) before)
    ∙ append_assoc (old ++ done) item.items (0 ∷ []) ∙ append_assoc old done (item.items ++ 0 ∷ [])
    ∙ ap (λ l. old ++ l) (sym (one_more _ i _ lt is))

pub all_put : (items keys : List (Vec ℕ Global)) (i : ℕ) (texts : List (List ℕ)) (old new : List ℕ) → length items ≤ i
    → items ≡ keys → texts_of keys ≡ texts
    → new ≡ old ++ table_bytes (texts_of (take i items)) → new ≡ old ++ table_bytes texts
all_put items keys i texts old new end same seen put =
    put ∙ ap (λ l. old ++ table_bytes (texts_of l)) (take_all i items end ∙ same)
    ∙ ap (λ l. old ++ table_bytes l) seen
