-- The items of rows whose sequences begin at symbols: what is there and what is still to come.
use Rattle.std.proofs.Common.{◌≡◌, ℕ, ◌+◌, ◌<◌, ◌≤◌, Bool, true, false, if◌then◌else◌, List, ◌++◌, length, drop, Option}
use Rattle.std.proofs.Common.{slice_get, get_or, sym, ap, subst}
use Rattle.std.proofs.Common.{◌∙◌}
use Rattle.std.proofs.Common.{arith, append_assoc}
use Rattle.std.proofs.lemmas.List.{at_drop_more}
use Rattle.gimli_core.specs.declared.common.Encoding.{Encoding}
use Rattle.gimli_build.specs.Built.{Built}
use Rattle.gimli_build.specs.declared.built.items.BuiltItem.{BuiltItem}
use Rattle.gimli_c.specs.declared.items.GimliSymbol.{GimliSymbol}
use Rattle.gimli_c.specs.declared.row.GimliRow.{GimliRow}
use Rattle.gimli_c.specs.Handed.{base_after, items_handed, items_of_row, sequence_after}

-- once the items of a row are there, the items of the rows after it are still to come
pub items_left : (old now after : Built) (ids : List ℕ) (symbols : List GimliSymbol) (sequence next : ℕ)
    (symbol : Option GimliSymbol)
    (base base_next : Option ℕ) (rows : List GimliRow) (i : ℕ) (d : GimliRow) (all : List BuiltItem)
    → i < length rows → now.encoding ≡ old.encoding → symbol ≡ slice_get symbols sequence
    → next ≡ sequence_after sequence (get_or rows i d)
    → base_next ≡ base_after base (get_or rows i d)
    → now.items ++ items_handed old.encoding.version ids symbols sequence base (drop i rows) ≡ all
    → after.items ≡ now.items ++ items_of_row now.encoding.version ids symbol base (get_or rows i d)
    → after.items ++ items_handed old.encoding.version ids symbols next base_next (drop (i + 1) rows) ≡ all
items_left old now after ids symbols sequence next symbol base base_next rows i d all within same symbol_is next_is
    base_is so_far added =
    let r = get_or rows i d in
    let version = old.encoding.version in
    let one : Encoding → Option GimliSymbol → List BuiltItem = λ e s. items_of_row e.version ids s base r in
    let rest : ℕ → Option ℕ → List BuiltItem = λ n b. items_handed version ids symbols n b (drop (i + 1) rows) in
    ap (λ (xs : List BuiltItem). xs ++ rest next base_next) added
    ∙ append_assoc now.items (one now.encoding symbol) (rest next base_next)
    ∙ ap (λ (e : Encoding). now.items ++ (one e symbol ++ rest next base_next)) same
    ∙ ap (λ (s : Option GimliSymbol). now.items ++ (one old.encoding s ++ rest next base_next)) symbol_is
    ∙ ap (λ (n : ℕ). now.items ++ (one old.encoding (slice_get symbols sequence) ++ rest n base_next)) next_is
    ∙ ap
    (λ (b : Option ℕ). now.items
    ++ (one old.encoding (slice_get symbols sequence) ++ rest (sequence_after sequence r) b))
    base_is
    ∙ ap (λ (xs : List BuiltItem). now.items ++ xs)
    (sym (at_drop_more (λ (xs : List GimliRow). items_handed version ids symbols sequence base xs) rows i d within))
    ∙ so_far

-- no more sequences have ended than there were rows
pub few_sequences : (sequence next i : ℕ) (b : Bool) → next ≡ (if b then sequence + 1 else sequence) → sequence ≤ i
    → next ≤ i + 1
few_sequences sequence next i b is le = subst (λ (n : ℕ). n ≤ i + 1) (sym is) (by b)
  where
    by : (b : Bool) → (if b then sequence + 1 else sequence) ≤ i + 1
    by true = omega (arith, le)
    by false = omega (arith, le)
