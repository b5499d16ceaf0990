-- The loops that read tables, where they begin and where they end.
use Rattle.std.specs.Prelude.{◌≡◌, ◌<◌, ◌≤◌, ◌↔◌}
use Rattle.gimli_line.proofs
use proofs.Common
use Common.{ℕ, Bool, List, [], map, Ok, Err, refl, arith, All, le-leb, lt-leb, OrderAndLimit, layout_of, Read, Encoding}
use Common.{IsTrue, false, length, sym, ap, ◌∙◌, text_at, path_text, Error, bind_refused, read_map, TableEntry, ◌>>=◌}
use Common.{Production, formats_production, entries_production, table_production, table_of, FileEntryFormat}
use proofs.Closed.{reads_name}
use proofs.HeaderLaws.{read_choose}
use proofs.Loops.{closed_smaller, text_free, viewed_same}

-- a table without entries
pub none_yet : {A : Type 0} (P : A → Type 0) (xs : List A) → xs ≡ [] → All P xs
none_yet P xs is = grind arith

-- a text that isn't empty has bytes
pub text_smaller : (bytes text rest : List ℕ) → (IsTrue false ↔ (text ≡ [])) → (Ok text, rest) ≡ text_at bytes
    → length rest < length bytes
text_smaller bytes text rest empty e =
    closed_smaller (λ x. x) path_text reads_name _ _ _ (text_free bytes text rest empty e)
    (e ∙ sym (viewed_same _))

-- ---- the tables of a version

module _ {B : Type 0} (plain : Production (List B)) (view : TableEntry → B) where
  abbrev Table : Type 0
  Table = List FileEntryFormat × List B

  abbrev beside : List FileEntryFormat → List B → List ℕ → Read Table
  beside formats items rest = (Ok (formats, items), rest)

  viewed : (formats : List FileEntryFormat) (r : Read (List TableEntry))
      → ((r >>= λ entries end.
      (let s : Read (List FileEntryFormat × List TableEntry) = (Ok (formats, entries), end) in s))
      >>= λ table rest. beside table.0 (map view table.1) rest)
      ≡ (read_map (map view) r >>= beside formats)
  viewed formats (Ok entries, rest) = refl
  viewed formats (Err e, rest) = refl

  module _ (layout : OrderAndLimit) (encoding : Encoding) (bytes : List ℕ) where
    abbrev here : Read Table
    here = (table_of plain view layout encoding).read bytes

    up_to_4 : encoding.version ≤ 4 → here ≡ (plain.read bytes >>= beside [])
    unfolding table_of
    up_to_4 old = rw (read_choose, le-leb encoding.version 4 old) refl

    from_5 : (formats : List FileEntryFormat) (mid : List ℕ) → 4 < encoding.version
        → formats_production.read bytes ≡ (Ok formats, mid)
        → here ≡ (read_map (map view) ((entries_production layout encoding.format formats).read mid) >>= beside formats)
    unfolding table_of table_production
    from_5 formats mid new head = rw (read_choose, lt-leb encoding.version 4 new, head) (viewed _ _)

    pub table_up_to_4 : (none : List FileEntryFormat) (items : List B) (left : List ℕ) → encoding.version ≤ 4
        → none ≡ [] → plain.read bytes ≡ (Ok items, left)
        → here ≡ (Ok (none, items), left)
    table_up_to_4 none items left old empty is = rw (up_to_4 old, is, empty) refl

    pub table_4_end : (e : Error) → encoding.version ≤ 4 → (plain.read bytes).0 ≡ Err e → here.0 ≡ Err e
    table_4_end e old is = rw (up_to_4 old) (bind_refused _ (beside []) e is)

    pub formats_end : (e : Error) → 4 < encoding.version → (formats_production.read bytes).0 ≡ Err e → here.0 ≡ Err e
    unfolding table_of table_production
    formats_end e new is = rw (read_choose, lt-leb encoding.version 4 new) (bind_refused _ _ e (bind_refused _ _ e is))

  module _ (now first : Bool) (limit : ℕ) (encoding : Encoding) (bytes mid : List ℕ)
      (formats lent : List FileEntryFormat) (new : 4 < encoding.version)
      (head : formats_production.read bytes ≡ (Ok formats, mid)) (kept : now ≡ first) (same : lent ≡ formats) where
    abbrev items_at : Bool → List FileEntryFormat → Read (List B)
    items_at is_big formats =
        read_map (map view) ((entries_production (layout_of is_big limit) encoding.format formats).read mid)

    abbrev before : Read Table
    before = (table_of plain view (layout_of first limit) encoding).read bytes

    again : before ≡ (items_at now lent >>= beside formats)
    again = from_5 _ encoding bytes formats mid new head
        ∙ ap (λ r. r >>= beside formats) (ap (items_at first) (sym same) ∙ ap (λ b. items_at b lent) (sym kept))

    pub table_from_5 : (items : List B) (left : List ℕ) → items_at now lent ≡ (Ok items, left)
        → before ≡ (Ok (formats, items), left)
    table_from_5 items left tail = again ∙ ap (λ r. r >>= beside formats) tail

    pub table_5_end : (e : Error) → (items_at now lent).0 ≡ Err e → before.0 ≡ Err e
    table_5_end e tail = ap (λ r. r.0) again ∙ bind_refused _ (beside formats) e tail
