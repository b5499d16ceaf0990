-- Items written one after the other.
use Rattle.std.specs.Prelude.{◌≡◌, ◌+◌, ◌<◌, ◌^◌, ◌∷◌, ◌++◌}
use Rattle.gimli_build.proofs
use proofs.Common
use Common.{IsTrue, ℕ, Bool, List, [], Ok, Err, refl, sym, ap, ◌∙◌, append_assoc, lit<, length, get_or, add-one, take}
use Common.{append-nil, take-suc, Result, Encoding, LineEncoding, Hand, Placement, plain, Begins, Appends, Error}
use Common.{Ghosts, LineRow, BuiltItem, SetAddress, Row, End, CanEncode, IsPosition, AreBuilt, result_append, Writes}
use Common.{item_bytes, items_bytes, next_previous, FitsItem, AreFit}
use proofs.reading.EventsBack.{start_position}
use proofs.writing.Joined.{appended_bytes, joined-joined}
use Rattle.gimli_bytes.proofs.Parts.{begins_self, begins_then}
use proofs.writing.Writes.{later_unwritten}

-- these bytes stand for the items so far, and those are left
pub record Standing (hand : Hand) (is_big : Bool) (encoding : Encoding) (e : LineEncoding)
    (whole : Result (List ℕ) Error)
    (old new : List ℕ) (previous : LineRow)
    (left : List BuiltItem) : Type 0 where
  pub done : List ℕ
  pub written : new ≡ old ++ done
  pub parts : whole ≡ result_append (Ok done) (items_bytes hand is_big encoding e previous left)

-- one item more
pub standing_more : (hand : Hand) (is_big : Bool) (encoding : Encoding) (e : LineEncoding)
    (whole : Result (List ℕ) Error)
    (old new newer : List ℕ)
    (previous : LineRow)
    (item : BuiltItem) (left : List BuiltItem)
    → Standing hand is_big encoding e whole old new previous (item ∷ left)
    → Appends (item_bytes hand is_big encoding e previous item) new newer
    → Standing hand is_big encoding e whole old newer (next_previous encoding.version e.default_is_stmt previous item)
    left
standing_more hand is_big encoding e whole old new newer previous item left so more =
    let a = appended_bytes _ _ _ more in
    let rest =
    items_bytes hand is_big encoding e (next_previous encoding.version e.default_is_stmt previous item) left in
    record {
      done = so.done ++ a.0;
      written = a.2 ∙ ap (λ l. l ++ a.0) so.written ∙ append_assoc old so.done a.0;
      parts = so.parts ∙ ap (λ r. result_append (Ok so.done) (result_append r rest)) a.1 ∙ joined-joined _ _ _;
    }

-- a refused item is what refuses
standing_refused : (hand : Hand) (is_big : Bool) (encoding : Encoding) (e : LineEncoding)
    (whole : Result (List ℕ) Error) (old new : List ℕ) (previous : LineRow) (item : BuiltItem) (left : List BuiltItem)
    (d : Error)
    → Standing hand is_big encoding e whole old new previous (item ∷ left)
    → item_bytes hand is_big encoding e previous item ≡ Err d → whole ≡ Err d
standing_refused hand is_big encoding e whole old new previous item left d so refused =
    let rest =
    items_bytes hand is_big encoding e (next_previous encoding.version e.default_is_stmt previous item) left in
    so.parts ∙ ap (λ r. result_append (Ok so.done) (result_append r rest)) refused

pub standing_start : (hand : Hand) (is_big : Bool) (encoding : Encoding) (e : LineEncoding) (old : List ℕ)
    (previous : LineRow) (items : List BuiltItem)
    → Standing hand is_big encoding e (items_bytes hand is_big encoding e previous items) old old previous items
standing_start hand is_big encoding e old previous items = record {
  done = [];
  written = sym (append-nil old);
  parts = nothing _;
}
  where
    nothing : (r : Result (List ℕ) Error) → r ≡ result_append (Ok []) r
    nothing (Ok bytes) = refl
    nothing (Err d) = refl

-- the items so far are written, in a call that writes these
pub record Written {W : Type 0} (sink : Ghosts W) (is_big : Bool) (encoding : Encoding) (e : LineEncoding)
    (whole : Hand → Result (List ℕ) Error) (old new : W)
    (previous : LineRow) (left : List BuiltItem) : Type 0 where
  pub keeps : Begins (sink.contents old) (sink.contents new)
  pub ordered : sink.is_big new ≡ sink.is_big old
  pub stays : IsTrue (sink.completes old) → IsTrue (sink.completes new)
  pub unrefused : IsTrue (sink.unrefused old) → IsTrue (sink.unrefused new)
  pub held : IsTrue sink.keeps_bytes
      → Standing plain is_big encoding e (whole plain) (sink.contents old) (sink.contents new) previous left
  pub linked : (at : Placement) → IsTrue (sink.completes old)
      → Standing (sink.hand at) is_big encoding e (whole (sink.hand at)) (sink.completed at old) (sink.completed at new)
      previous left

pub written_more : {W X : Type 0} {sink : Ghosts W} {old mid new : W} {x : X} {is_big : Bool} {encoding : Encoding}
    {e : LineEncoding}
    {whole : Hand → Result (List ℕ) Error} {previous : LineRow} {item : BuiltItem} {left : List BuiltItem}
    → Written sink is_big encoding e whole old mid previous (item ∷ left)
    → Writes sink mid new (Ok x) (λ hand. item_bytes hand is_big encoding e previous item)
    → Written sink is_big encoding e whole old new (next_previous encoding.version e.default_is_stmt previous item) left
written_more {sink = sink} {is_big = is_big} {encoding = encoding} {e = e} {whole = whole} {previous = previous}
    {item = item} {left = left} so more = record {
      keeps = begins_then _ _ _ so.keeps more.keeps;
      ordered = more.ordered ∙ so.ordered;
      stays = λ completes. more.stays (so.stays completes);
      unrefused = λ unrefused. more.unrefused (so.unrefused unrefused);
      held = λ keeps_bytes. standing_more _ _ _ e _ _ _ _ _ _ _ (so.held keeps_bytes) (more.ok keeps_bytes);
      linked =
          λ at completes.
          standing_more _ _ _ e _ _ _ _ _ _ _ (so.linked at completes)
          (more.completed at (so.stays completes));
    }

-- a refused item, after those so far
pub items_unwritten : {W X Y : Type 0} {sink : Ghosts W} {old mid new : W} {d : Error} {is_big : Bool}
    {encoding : Encoding} {e : LineEncoding} {whole : Hand → Result (List ℕ) Error} {previous : LineRow}
    {item : BuiltItem} {left : List BuiltItem}
    → Written sink is_big encoding e whole old mid previous (item ∷ left)
    → Writes {X = X} sink mid new (Err d) (λ hand. item_bytes hand is_big encoding e previous item)
    → Writes {X = Y} sink old new (Err d) whole
items_unwritten {sink = sink} {d = d} {e = e} so refused =
    later_unwritten _ _ so.keeps so.ordered so.stays so.unrefused
    (λ keeps_bytes. standing_refused _ _ _ e _ _ _ _ _ _ d (so.held keeps_bytes))
    (λ at completes. standing_refused _ _ _ e _ _ _ _ _ _ d (so.linked at completes)) refused

pub none_standing : {W : Type 0} (sink : Ghosts W) (is_big : Bool) (encoding : Encoding) (e : LineEncoding) (old : W)
    (previous : LineRow) (items : List BuiltItem)
    → Written sink is_big encoding e (λ hand. items_bytes hand is_big encoding e previous items) old old previous items
none_standing sink is_big encoding e old previous items = record {
  keeps = begins_self _;
  ordered = refl;
  stays = λ completes. completes;
  unrefused = λ unrefused. unrefused;
  held = λ keeps_bytes. standing_start _ _ _ e _ _ _;
  linked = λ at completes. standing_start _ _ _ e _ _ _;
}

-- where the walk is, and what is left can still be built
pub record OnTheWay (e : LineEncoding) (previous : LineRow) (left : List BuiltItem) : Type 0 where
  pub position : IsPosition e previous.address_offset previous.op_index
  pub line : previous.line < 2 ^ 63
  pub built : AreBuilt e (previous.address_offset, previous.op_index) left

pub way_on : (version : ℕ) (e : LineEncoding) (can : CanEncode e) (previous : LineRow) (item : BuiltItem)
    (left : List BuiltItem)
    → OnTheWay e previous (item ∷ left) → OnTheWay e (next_previous version e.default_is_stmt previous item) left
way_on version e can previous (SetAddress a) left way = record {
  position = start_position e can;
  line = way.line;
  built = way.built.1;
}
way_on version e can previous (Row r) left way = record {
  position = way.built.0.0.position;
  line = way.built.0.1;
  built = way.built.1;
}
way_on version e can previous (End o i) left way = record {
  position = start_position e can;
  line = lit< tt;
  built = way.built.1;
}

pub taken_next : {A : Type 0} (xs : List A) (i : ℕ) (x : A) → i < length xs → x ≡ get_or xs i x
    → take (i + 1) xs ≡ take i xs ++ x ∷ []
taken_next xs i x lt is = rw add-one (take-suc xs i x lt ∙ ap (λ y. take i xs ++ y ∷ []) (sym is))

-- one item more fits
pub fit_more : (version : ℕ) (items : List BuiltItem) (item : BuiltItem) → AreFit version items → FitsItem version item
    → AreFit version (items ++ item ∷ [])
fit_more version [] item all one = (one, tt)
fit_more version (first ∷ items) item all one = (all.0, fit_more version items item all.1 one)
