-- The bytes of built items spell their instructions.
use Rattle.std.specs.Prelude.{◌≡◌, ◌<◌, ◌^◌, ◌∷◌, ◌++◌}
use Rattle.gimli_build.proofs
use proofs.Common
use Common.{ℕ, List, [], Ok, Err, refl, sym, subst, ap, ◌∙◌, append_assoc, lit<, Result, IfOk, append-nil}
use Common.{OrderAndLimit, Each, Encoding, LineEncoding, plain, Constant, Symbol, Error, Header, Ins, SpellsInstruction}
use Common.{LineRow, BuiltItem, SetAddress, Row, End, CanEncode, AreBuilt, initial_row, row_instructions}
use Common.{end_instructions, items_bytes, items_instructions, AreFit}
use Rattle.gimli_line.specs.declared.run.instruction.LineInstruction.TheVariants as read
use proofs.writing.WrittenParts.{same_written, both_written}
use proofs.spellings.Spellings.{each-spelled, all_row, all_end, address-spelled}

-- parts that are spelled are spelled one after the other
pub each_append : (layout : OrderAndLimit) (h : Header) (a b : List ℕ) (is js : List Ins)
    → Each (SpellsInstruction layout h) a is → Each (SpellsInstruction layout h) b js
    → Each (SpellsInstruction layout h) (a ++ b) (is ++ js)
each_append layout h a b [] js p q = rw p q
each_append layout h a b (i ∷ is) js p q =
    (p.0, p.1 ++ b, ap (λ l. l ++ b) p.2 ∙ append_assoc p.0 p.1 b, p.3, each_append layout h p.1 b is js p.4 q)

module _ (layout : OrderAndLimit) (h : Header) (base : h.parameters.opcode_base ≡ 13) (wide : 11 < layout.limit)
    (e : LineEncoding) (can : CanEncode e) where
  pub items-spelled : (previous : LineRow) (items : List BuiltItem) (bytes : List ℕ) → previous.line < 2 ^ 63
      → AreBuilt e (previous.address_offset, previous.op_index) items → AreFit h.parameters.encoding.version items
      → items_bytes plain layout.is_big h.parameters.encoding e previous items ≡ Ok bytes
      → Each (SpellsInstruction layout h) bytes (items_instructions h.parameters.encoding.version e previous items)
  items-spelled previous [] bytes line built fit is = same_written _ _ is
  items-spelled previous (SetAddress (Constant a) ∷ items) bytes line built fit is =
      let next : LineRow = record previous { address_offset = 0; op_index = 0 } in
      let p = both_written _ _ _ is in
      rw p.whole
      (each_append layout h p.first p.rest (read.SetAddress a ∷ [])
      (items_instructions h.parameters.encoding.version e next items)
      (p.first, [], sym (append-nil _), address-spelled layout h base wide a p.first p.first_is, refl)
      (items-spelled next items p.rest line built.1 fit.1 p.rest_is))
  items-spelled previous (SetAddress (Symbol s d) ∷ items) bytes line built fit is = absurd cc
  items-spelled previous (Row r ∷ items) bytes line built fit is =
      let version = h.parameters.encoding.version in
      let p = both_written _ _ _ is in
      let own = each-spelled layout h base wide (row_instructions version e previous r)
      (all_row version e previous r can built.0.0 line fit.0) in
      rw p.whole
      (each_append layout h p.first p.rest (row_instructions version e previous r)
      (items_instructions version e r items)
      (rw (same_written _ _ p.first_is) own)
      (items-spelled r items p.rest built.0.1 built.1 fit.1 p.rest_is))
  items-spelled previous (End o i ∷ items) bytes line built fit is =
      let next = initial_row h.parameters.encoding.version e.default_is_stmt in
      let p = both_written _ _ _ is in
      let own = each-spelled layout h base wide (end_instructions e previous o i) (all_end e previous o i built.0) in
      rw p.whole
      (each_append layout h p.first p.rest (end_instructions e previous o i)
      (items_instructions h.parameters.encoding.version e next items)
      (rw (same_written _ _ p.first_is) own)
      (items-spelled next items p.rest (lit< tt) built.1 fit.1 p.rest_is))

-- the same where the header has this encoding
pub items-spelled-under : (layout : OrderAndLimit) (h : Header) (encoding : Encoding) (e : LineEncoding)
    (previous : LineRow) (items : List BuiltItem)
    (bytes : List ℕ)
    → h.parameters.encoding ≡ encoding → h.parameters.opcode_base ≡ 13 → 11 < layout.limit → CanEncode e
    → previous.line < 2 ^ 63
    → AreBuilt e (previous.address_offset, previous.op_index) items
    → AreFit encoding.version items → items_bytes plain layout.is_big encoding e previous items ≡ Ok bytes
    → Each (SpellsInstruction layout h) bytes (items_instructions encoding.version e previous items)
items-spelled-under layout h encoding e previous items bytes same base wide can line built fit written = subst (λ x.
    AreFit x.version items → items_bytes plain layout.is_big x e previous items ≡ Ok bytes
    → Each (SpellsInstruction layout h) bytes (items_instructions x.version e previous items))
    same (items-spelled layout h base wide e can _ _ _ line built) fit written

-- what is true of bytes wherever they are written
pub if_written : (written : Result (List ℕ) Error) (Is : List ℕ → Type 0)
    → ((bytes : List ℕ) → written ≡ Ok bytes → Is bytes) → IfOk written Is
if_written (Ok bytes) Is given = given bytes refl
if_written (Err e) Is given = tt
