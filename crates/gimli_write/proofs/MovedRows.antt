-- The rows and ends that a conversion builds are those of its source, where its map moves them to.
use Rattle.std.specs.Prelude.{◌≡◌, ◌+◌, ◌-◌, ◌*◌, ◌<◌, ◌≤◌, ◌&&◌, if◌then◌else◌, ◌∷◌, ◌^◌, ◌++◌}
use Rattle.gimli_write.proofs
use proofs.Common
use Common.{ℕ, Bool, true, false, not, List, [], refl, sym, ap, ◌∙◌, arith, Some, None, Special, Copy}
use Common.{EndSequence, SetAddress, Parameters, Ins, is_end, makes_row, row_at}
use Common.{is_under_tombstone, base_at, pending_address, map, slice_get, subst, append_assoc}
use Common.{Option, ok_or, Result, Ok, Err, append-nil, Error, AddressOverflow, Address}
use Common.{ReadRow, row, fault, events_after, overflows, after_address, after_row, after_end, Built}
use Common.{AddressesFit, items_rows, OneByOne, Sections, LineRow, BuiltItem, ConvertError, Read}
use Common.{MissingLineEndSequence, InvalidAddress, UnsupportedLineInstruction, ◌>>=◌, TablesAndTexts}
use Common.{Reading, stops, offers, source_row, file_id, row_in, built_row}
use Common.{address_offered, row_offered, row_or_end_offered, source_row_offered, reading_at, end_reading, reading_with}
use Common.{tables_after_definition, tables_at, with_definition, reading_after, Outcome, outcome_of, with_tables}
use Rattle.gimli_build.specs.Built.{address_value}
use Rattle.gimli_write.specs.convert.Mapped
use Mapped.{gave_row, NoneEndsUnderTombstone, IsFileId, IsReadAs}
use Rattle.gimli_write.specs.convert.Moved
use Moved.{gives_row, source_rows, moved, moved_base, moved_address, moved_row, moved_rows, moved_to, IsInOrder}
use Moved.{AreInOrder}
use Rattle.gimli_line.proofs.RunLists.{events_at}
use proofs.Outcomes.{definition_passed}
use proofs.MappedFiles.{finished}
use proofs.MappedRows.{ids_stay, file_id-is, same_others}
use Rattle.gimli_build.specs.declared.built.items.BuiltItem.TheVariants as item
use Rattle.gimli_write.specs.declared.convert.rows.ConvertLineRow.TheVariants as offer

module _ (g : ℕ → Option Address) (parameters : Parameters) where
  -- ---- where rows go

  -- a set address that is pending is the one that rows go after
  pub pending_moves : (past : List Ins) {a : ℕ} → pending_address past ≡ Some a
      → moved_base g parameters past ≡ moved g a
  pending_moves [] is = absurd cc
  pending_moves (SetAddress b ∷ past) is = cc
  pending_moves (EndSequence ∷ past) is = absurd cc
  pending_moves (Special o ∷ past) is = absurd cc
  pending_moves (Copy ∷ past) is = absurd cc
  pending_moves (i ∷ past) is = pending_moves past is

  -- ---- what was built after a past

  -- how what was built follows a past: `base` is the address from which the builder's offsets count, and `position` the
  -- offset that it left off at
  pub record Follows (past : List Ins) (base position : ℕ) : Type 0 where
    -- it left off at the new address of the last row
    pub reached : base + position ≡ moved_to g parameters past
    -- where no set address is pending, offsets count from the same address
    pub counted : is_under_tombstone parameters past ≡ false → pending_address past ≡ None
        → base ≡ moved_base g parameters past
    -- after nothing that was built of the sequence, offsets count from 0
    pub unset : gave_row parameters past ≡ false → base + position ≡ 0

  pub follows_start : Follows [] 0 0
  follows_start = grind arith

  -- an end
  pub follows_end : (past : List Ins) (i : Ins) → is_end i ≡ true → Follows (i ∷ past) 0 0
  follows_end past EndSequence closes = grind arith
  follows_end past i closes = absurd cc

  -- one that isn't
  pub follows_row : (past : List Ins) (i : Ins) → makes_row i ≡ true → is_end i ≡ false
      → is_under_tombstone parameters past ≡ false
      → Follows (i ∷ past) (moved_base g parameters past) ((row_at parameters past i).address - base_at past)
  follows_row past i loud inner seen = grind arith

  -- a point that gives nothing
  pub follows_quiet : (past : List Ins) (i : Ins) (base position : ℕ) → gives_row parameters past i ≡ false
      → (is_end i ≡ true → is_under_tombstone parameters past ≡ true → gave_row parameters past ≡ false)
      → Follows past base position → Follows (i ∷ past) base position
  follows_quiet past EndSequence base position quiet ends f = grind arith
  follows_quiet past (SetAddress a) base position quiet ends f = grind arith
  follows_quiet past (Special o) base position quiet ends f = grind arith
  follows_quiet past Copy base position quiet ends f = grind arith
  follows_quiet past i base position quiet ends f = grind arith

-- a row at its new address says what a built row says
row_parts : (r : ReadRow) {address : ℕ} → r.tombstone ≡ false → r.end_sequence ≡ false
    → (let there : ReadRow = record r { address = address } in there)
    ≡ record r { tombstone = false; address = address; end_sequence = false }
row_parts r seen inner = grind arith

-- ---- what comes of the rest of a program

module _ (g : ℕ → Option Address) (sections : Sections) (parameters : Parameters) (first : TablesAndTexts) (size : ℕ)
    (c : Outcome) where
  -- items after a base are read as these rows say, whatever the row before them was
  abbrev pub AreReadBack : ℕ → List BuiltItem → List ReadRow → Type 0
  AreReadBack base items rows =
      (previous : LineRow)
      → OneByOne (IsReadAs parameters.encoding.version c.program.encoding.version c.file_ids) rows
      (items_rows c.program.encoding.version c.program.line_encoding base previous items)

  -- what comes of these instructions and this end after a past, from a program on
  pub record Rest (past list : List Ins) (end : Option Error) (base : ℕ) (position : ℕ × ℕ) (p : Built) : Type 0 where
    pub events : events_after parameters past list end ≡ map row (source_rows parameters past list)
    pub items : List BuiltItem
    pub built : c.program.items ≡ p.items ++ items
    pub mapped : AreReadBack base items (moved_rows g parameters past list)
    pub fit : AddressesFit size base position items
    pub tables : TablesAndTexts
    pub there : tables_at sections first past ≡ Ok tables
    pub stay : (n id : ℕ) → slice_get tables.file_ids n ≡ Some id → slice_get c.file_ids n ≡ Some id

  -- the conversion is what comes of a reading
  abbrev Comes : Reading → Built → Type 0
  Comes reading p = outcome_of g reading p ≡ Ok c

  -- nothing follows
  none_left : (past : List Ins) (end : Option Error) (base : ℕ) (position : ℕ × ℕ) (p : Built)
      → Comes (reading_after sections parameters first past [] end) p → Rest past [] end base position p
  none_left past end base position p is = by _ refl _ is
    where
      closed : {tables : TablesAndTexts} → tables_at sections first past ≡ Ok tables → (b : Bool)
          → (if b then Err MissingLineEndSequence else Ok (finished tables p)) ≡ Ok c
          → Rest past [] None base position p
      closed there true so = absurd cc
      closed {tables} there false so =
          record {
            events = refl;
            items = [];
            built = grind (arith, append-nil);
            mapped = λ previous. tt;
            fit = tt;
            tables = tables;
            there = there;
            stay = grind arith;
          }

      by : (there : Result TablesAndTexts ConvertError) → tables_at sections first past ≡ there
          → (end : Option Error) → Comes (reading_with there (end_reading end)) p → Rest past [] end base position p
      by (Err e) there end so = absurd cc
      by (Ok tables) there (Some e) so = absurd cc
      by (Ok tables) there None so = closed there _ so

  module _ (past : List Ins) (i : Ins) (list : List Ins) (end : Option Error) (tables : TablesAndTexts)
      (at : tables_at sections first past ≡ Ok tables) where
    -- the rest from a point on, and after it
    abbrev Here : ℕ → ℕ × ℕ → Built → Type 0
    Here = Rest past (i ∷ list) end

    abbrev Later : ℕ → ℕ × ℕ → Built → Type 0
    Later = Rest (i ∷ past) list end

    abbrev later : Reading
    later = reading_after sections parameters first (i ∷ past) list end

    -- the row of a point, and how far it is after the address that it counts from
    abbrev here : ReadRow
    here = row_at parameters past i

    abbrev offset : ℕ
    offset = here.address - base_at past

    abbrev version : ℕ
    version = parameters.encoding.version

    abbrev GivesRow : Type 0
    GivesRow = events_at parameters past i ≡ row here ∷ []

    stays : {next : TablesAndTexts} → tables_at sections first (i ∷ past) ≡ Ok next → (n id : ℕ)
        → slice_get tables.file_ids n ≡ Some id → slice_get next.file_ids n ≡ Some id
    stays there = ids_stay _ _ i (sym (ap (λ r. r >>= λ l. tables_after_definition sections l i) at) ∙ there)

    -- a point gives nothing
    passed : (base : ℕ) (position : ℕ × ℕ) (p : Built) → events_at parameters past i ≡ []
        → gives_row parameters past i ≡ false → Later base position p → Here base position p
    passed base position p none quiet r = record {
      events = rw quiet (grind arith);
      items = r.items;
      built = r.built;
      mapped = rw quiet r.mapped;
      fit = r.fit;
      tables = tables;
      there = at;
      stay = λ n id is. r.stay n id (stays r.there n _ is);
    }

    -- a point gives a row, and an item is built of it
    taken : (base after : ℕ) (position after_it : ℕ × ℕ) (p next : Built) (built : BuiltItem) → GivesRow
        → gives_row parameters past i ≡ true → next.items ≡ p.items ++ built ∷ []
        → ((items : List BuiltItem) (rows : List ReadRow) → AreReadBack after items rows
        → AreReadBack base (built ∷ items) (moved_row g parameters past i ∷ rows))
        → ((items : List BuiltItem) → AddressesFit size after after_it items
        → AddressesFit size base position (built ∷ items)) → Later after after_it next → Here base position p
    taken base after position after_it p next built one gives pushed mapped fit r = record {
      events = rw gives (grind arith);
      items = built ∷ r.items;
      built = grind (arith, append_assoc);
      mapped = rw gives (mapped r.items (moved_rows g parameters (i ∷ past) list) r.mapped);
      fit = fit r.items r.fit;
      tables = tables;
      there = at;
      stay = grind (arith, stays);
    }

    -- an address is set before what a point gives
    address_taken : (base : ℕ) (position : ℕ × ℕ) (p : Built) (m : Address) → base + position.0 ≤ address_value m
        → address_value m < 2 ^ (8 * size) - 2
        → Here (address_value m) (0, 0) (after_address m (with_tables tables p)) → Here base position p
    address_taken base position p m ahead below r = record {
      events = r.events;
      items = item.SetAddress m ∷ r.items;
      built = grind (arith, append_assoc);
      mapped = λ previous. r.mapped (record previous { address_offset = 0; op_index = 0 });
      fit = (ahead, below, r.fit);
      tables = r.tables;
      there = r.there;
      stay = r.stay;
    }

    -- what is read after a point, and what comes of it
    abbrev Follow : Type 0
    Follow = (base : ℕ) (position : ℕ × ℕ) (p : Built) → Follows g parameters (i ∷ past) base position.0
        → Comes later p → Later base position p

    -- an item that was built within the builder's conditions
    was_built : (b : Bool) (next : Built)
        → ((if b then Ok next else Err UnsupportedLineInstruction) >>= λ n. outcome_of g later n) ≡ Ok c
        → Comes later next
    was_built true next is = is
    was_built false next is = absurd cc

    module _ (one : GivesRow) (loud : makes_row i ≡ true) (seen : is_under_tombstone parameters past ≡ false)
        (order : IsInOrder g parameters size past i) (follow : Follow) where
      gives : gives_row parameters past i ≡ true
      gives = rw (loud, seen) refl

      -- an end
      end_point_gives : (base : ℕ) (position : ℕ × ℕ) (p : Built) → is_end i ≡ true
          → base ≡ moved_base g parameters past → Comes (offers (offer.EndSequence offset) tables later) p
          → Here base position p
      end_point_gives base position p closes same is =
          let q : Built = with_tables tables p in
          let built : BuiltItem = item.End offset q.row.op_index in
          let next : Built = after_end offset q in
          let sum : moved_address g parameters past i ≡ base + offset = ap (λ b. b + offset) (sym same) in
          taken base 0 position _ p _ built one gives refl
          (λ items rows mapped previous. (
            record {
              address = sym sum;
              ends = sym closes;
              registers = λ inner. absurd cc;
              file = λ inner. absurd cc;
            },
            mapped _,
          ))
          (λ items fit. (subst (λ a. a < 2 ^ (8 * size)) sum order.fits, fit))
          (follow 0 (0, 0) next (follows_end g parameters past i closes) (was_built _ _ is))

      -- a row of a file that is there
      row_point_gives : (base : ℕ) (position : ℕ × ℕ) (p : Built) (file : ℕ) → is_end i ≡ false
          → base ≡ moved_base g parameters past → file_id version tables here.file ≡ Ok file
          → Comes (offers (offer.Row (row_in (source_row parameters past i) file)) tables later) p
          → Here base position p
      row_point_gives base position p file inner same known is =
          let q : Built = with_tables tables p in
          let r : LineRow = row_in (source_row parameters past i) file in
          let built : BuiltItem = item.Row r in
          let next : Built = after_row r q in
          let sum : moved_address g parameters past i ≡ base + offset = ap (λ b. b + offset) (sym same) in
          let rest = follow base (r.address_offset, r.op_index) next
          (subst (λ b. Follows g parameters (i ∷ past) b offset) (sym same)
          (follows_row g parameters past i loud inner seen)) (was_built _ _ is) in
          let number : IsFileId version tables.file_ids here.file file = file_id-is _ tables _ known in
          let found : slice_get c.file_ids here.file ≡ Some file =
          rest.stay here.file file (stays rest.there _ _ number.there) in
          taken base base position _ p _ built one gives refl (λ items rows mapped previous. (
            record {
              address = sym sum;
              ends = sym inner;
              registers = λ is.
                  same_others version c.program.encoding.version base r
                  (ap (λ a. let there : ReadRow = record here { address = a } in there) sum
                  ∙ row_parts here {address = base + offset} seen inner) refl;
              file = λ is. (file, record { from_one = number.from_one; there = found }, refl);
            },
            mapped r,
          )) (λ items fit. (subst (λ a. a < 2 ^ (8 * size)) sum order.fits, fit)) rest

      -- a row, or an end
      any_point_gives : {base : ℕ} (position : ℕ × ℕ) (p : Built) → base ≡ moved_base g parameters past
          → Comes (row_or_end_offered version tables (source_row parameters past i) later) p → Here base position p
      any_point_gives {base} position p same is = by _ refl is
        where
          known : (r : Result ℕ ConvertError) → file_id version tables here.file ≡ r → is_end i ≡ false
              → Comes (row_offered (r >>= λ file. Ok (row_in (source_row parameters past i) file)) tables later) p
              → Here base position p
          known (Err e) at inner so = absurd cc
          known (Ok file) at inner so = row_point_gives _ _ p _ inner same at so

          by : (b : Bool) → is_end i ≡ b → Comes (if b then offers (offer.EndSequence offset) tables later
              else row_offered (built_row version tables (source_row parameters past i)) tables later) p
              → Here base position p
          by true closes so = end_point_gives _ _ p closes same so
          by false inner so = known _ refl inner so

      -- the same after an address that may be pending
      point_gives : (base : ℕ) (position : ℕ × ℕ) (p : Built) → Follows g parameters past base position.0
          → Comes (source_row_offered version tables (source_row parameters past i) later) p → Here base position p
      point_gives base position p f is = by (pending_address past) refl is
        where
          offered : Reading
          offered = row_or_end_offered version tables (source_row parameters past i) later

          -- one that is pending
          set : (a : ℕ) → pending_address past ≡ Some a → (o : Option Address) → g a ≡ o
              → ((ok_or o InvalidAddress >>= λ m. Ok (after_address m (with_tables tables p))) >>= λ n.
              outcome_of g offered n) ≡ Ok c → Here base position p
          set a at None to so = absurd cc
          set a at (Some m) to so =
              let there : moved g a ≡ address_value m = rw to refl in
              let ahead = rw there at (order.ahead a at) in
              address_taken base position p m (omega (arith, f.reached, ahead.0)) ahead.1
              (any_point_gives (0, 0) (after_address m (with_tables tables p))
              (sym (pending_moves g parameters past {a = a} at ∙ there)) so)

          by : (o : Option ℕ) → pending_address past ≡ o → Comes (address_offered o tables offered) p
              → Here base position p
          by None at so = any_point_gives position p (f.counted seen at) so
          by (Some a) at so = set a at (g a) refl so

    -- any point
    point_passes : (base : ℕ) (position : ℕ × ℕ) (p : Built) → Follows g parameters past base position.0
        → (is_end i ≡ true → is_under_tombstone parameters past ≡ true → gave_row parameters past ≡ false)
        → (gives_row parameters past i ≡ true → IsInOrder g parameters size past i)
        → Comes (reading_at parameters tables past i later) p → Follow → Here base position p
    point_passes base position p f no_end_under_tombstone order is follow = by _ _ _ refl refl refl is
      where
        gave : (o m : Bool) {tombstone : Bool} → overflows parameters past i ≡ o → makes_row i ≡ m
            → is_under_tombstone parameters past ≡ tombstone → events_at parameters past i
            ≡ (if o then fault AddressOverflow ∷ [] else (if m && not tombstone then row here ∷ [] else []))
        gave true m at made seen = rw at refl
        gave false true at made seen = rw (at, made, seen) refl
        gave false false at made seen = rw (at, made) refl

        -- nothing comes of it
        quiet : (m tombstone : Bool) → overflows parameters past i ≡ false → makes_row i ≡ m
            → is_under_tombstone parameters past ≡ tombstone → (m && not tombstone) ≡ false → Comes later p
            → Here base position p
        quiet m tombstone at made seen none so =
            let silent : gives_row parameters past i ≡ false =
            ap (λ b. b && not (is_under_tombstone parameters past)) made ∙ ap (λ b. m && not b) seen ∙ none in
            passed _ _ p
            (gave _ m {tombstone = tombstone} at made seen ∙ ap (λ b. if b then row here ∷ [] else []) none) silent
            (follow base position p (follows_quiet g parameters _ i _ _ silent no_end_under_tombstone f) so)

        by : (o m tombstone : Bool) → overflows parameters past i ≡ o → makes_row i ≡ m
            → is_under_tombstone parameters past ≡ tombstone → Comes (if o then stops (Read AddressOverflow)
            else (if m && not tombstone
            then source_row_offered version tables (source_row parameters past i) later else later)) p
            → Here base position p
        by true m tombstone at made seen so = absurd cc
        by false true false at made seen so =
            let loud : gives_row parameters past i ≡ true = rw (made, seen) refl in
            point_gives (gave _ _ at made seen) made seen (order loud) follow _ _ p f so
        by false true true at made seen so = quiet true true at made seen refl so
        by false false tombstone at made seen so = quiet false tombstone at made seen refl so

  -- what comes of the rest of a program
  pub rest_moved : (past list : List Ins) (end : Option Error) (base : ℕ) (position : ℕ × ℕ) (p : Built)
      → Follows g parameters past base position.0 → NoneEndsUnderTombstone parameters past list
      → AreInOrder g parameters size past list
      → outcome_of g (reading_after sections parameters first past list end) p ≡ Ok c
      → Rest past list end base position p
  rest_moved past [] end base position p f seen order is = none_left _ _ _ _ p is
  rest_moved past (i ∷ list) end base position p f seen order is =
      by (λ base position p f so. rest_moved _ _ _ _ _ p f seen.1 order.1 so) _ refl is
    where
      after : Reading
      after = reading_after sections parameters first (i ∷ past) list end

      by : ((base : ℕ) (position : ℕ × ℕ) (p : Built) → Follows g parameters (i ∷ past) base position.0
          → Comes after p → Rest (i ∷ past) list end base position p)
          → (there : Result TablesAndTexts ConvertError) → tables_at sections first past ≡ there
          → Comes (reading_with there (λ tables. reading_at parameters tables past i (with_definition i after))) p
          → Rest past (i ∷ list) end base position p
      by follow (Err e) at so = absurd cc
      by follow (Ok tables) at so =
          point_passes past i list end tables at base position p f seen.0 order.0
          (sym (definition_passed g parameters _ past i _ p) ∙ so) follow
