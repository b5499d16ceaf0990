-- The rows and ends that a conversion builds are those of its source.
use Rattle.std.specs.Prelude.{◌≡◌, ◌+◌, ◌-◌, ◌*◌, ◌<◌, ◌≤◌, ◌&&◌, if◌then◌else◌, ◌∷◌, ◌^◌, ◌++◌}
use Rattle.gimli_write.proofs
use proofs.Common
use Common.{ℕ, Bool, true, false, not, List, [], refl, sym, ap, ◌∙◌, arith, Some, None, Special, Copy}
use Common.{AdvancePc, ConstAddPc, FixedAddPc, EndSequence, SetAddress, Parameters, Ins, is_end, makes_row, row_at}
use Common.{OperationPointer, address_limit, is_tombstone, is_too_large, pointer_at_overflow, next_pointer, pointer_at}
use Common.{is_under_tombstone, base_at, pending_address, zero, suc, map, slice_get, subst, append_assoc}
use Common.{Option, ok_or, Result, Ok, Err, AllByRecursion, append-nil, Error, AddressOverflow, Address, Constant}
use Common.{ReadRow, DefineFile, row, fault, events_after, overflows, after_address, after_row, after_end, Built}
use Common.{AddressesFit, items_rows, read_row, OneByOne, Sections, LineRow, BuiltItem, ConvertError, Read}
use Common.{MissingLineEndSequence, InvalidAddress, UnsupportedLineInstruction, ◌>>=◌, TablesAndTexts, FileParts}
use Common.{with_parts, Reading, stops, offers, source_row, file_id, row_in, built_row}
use Common.{address_offered, row_offered, row_or_end_offered, source_row_offered, reading_at, end_reading, reading_with}
use Common.{tables_after_definition, tables_at, with_definition, reading_after, Outcome, outcome_of, with_tables}
use Rattle.std.proofs.lemmas.Nat.{pow_pos}
use Rattle.gimli_line.proofs.NonDecreasingLaws.{rises}
use Rattle.gimli_write.specs.convert.Mapped
use Mapped.{gave_row, MapsToItself, NoneEndsUnderTombstone, IsFileId, IsReadAs, SetsConstant}
use Rattle.gimli_line.proofs.RunLists.{events_at}
use proofs.Outcomes.{definition_passed}
use proofs.MappedFiles.{finished}
use Rattle.gimli_build.specs.declared.built.items.BuiltItem.TheVariants as item
use Rattle.gimli_write.specs.declared.convert.rows.ConvertLineRow.TheVariants as offer

-- ---- addresses are below their limit

set_within : (parameters : Parameters) (a : ℕ) (p : OperationPointer) → p.address < address_limit parameters
    → (next_pointer parameters false (SetAddress a) p).address < address_limit parameters
set_within parameters a p lt = grind arith

advance_within : (parameters : Parameters) (tombstone : Bool) (i : Ins) (p to : OperationPointer)
    → (pointer_at_overflow i p to).address ≡ p.address → p.address < address_limit parameters
    → (if tombstone then p else (if is_too_large parameters to then pointer_at_overflow i p to else to)).address
    < address_limit parameters
advance_within parameters true i p to stays lt = lt
advance_within parameters false i p to stays lt = grind arith

next_within : (parameters : Parameters) (tombstone : Bool) (i : Ins) (p : OperationPointer)
    → p.address < address_limit parameters → (next_pointer parameters tombstone i p).address < address_limit parameters
next_within parameters tombstone EndSequence p lt = omega arith
next_within parameters tombstone (SetAddress a) p lt = set_within parameters a p lt
next_within parameters tombstone (Special o) p lt = grind (arith, advance_within)
next_within parameters tombstone (AdvancePc n) p lt = grind arith
next_within parameters tombstone ConstAddPc p lt = grind arith
next_within parameters tombstone (FixedAddPc n) p lt = grind arith
next_within parameters tombstone i p lt = lt

pub address_within : (parameters : Parameters) (past : List Ins)
    → (pointer_at parameters past).address < address_limit parameters
address_within parameters [] = pow_pos (8 * parameters.encoding.address_size)
address_within parameters (i ∷ past) =
    next_within parameters (is_under_tombstone parameters past) i (pointer_at parameters past)
    (address_within parameters past)

-- ---- the address that was last set

pub set_moves : (parameters : Parameters) (a : ℕ) (p : OperationPointer) (tombstone : Bool)
    → is_tombstone parameters a p ≡ false → (next_pointer parameters tombstone (SetAddress a) p).address ≡ a
set_moves parameters a p tombstone seen = grind arith

pub pending_is_base : (past : List Ins) {a : ℕ} → pending_address past ≡ Some a → base_at past ≡ a
pending_is_base [] is = absurd cc
pending_is_base (SetAddress b ∷ past) is = cc
pending_is_base (EndSequence ∷ past) is = absurd cc
pending_is_base (Special o ∷ past) is = absurd cc
pending_is_base (Copy ∷ past) is = absurd cc
pending_is_base (i ∷ past) is = pending_is_base past is

-- where nothing is under a tombstone, it isn't above the address reached
pub base_below : (parameters : Parameters) (past : List Ins) → is_under_tombstone parameters past ≡ false
    → base_at past ≤ (pointer_at parameters past).address
base_below parameters [] seen = omega arith
base_below parameters (SetAddress a ∷ past) seen =
    let moved =
    set_moves parameters a (pointer_at parameters past) (is_under_tombstone parameters past) seen in omega arith
base_below parameters (EndSequence ∷ past) seen = omega arith
base_below parameters (i ∷ past) seen =
    let before = base_below parameters past seen in
    let up = rises parameters (is_under_tombstone parameters past) i (pointer_at parameters past) refl in
    omega arith

-- nor above that of the row that a point makes
pub base_below_row : (parameters : Parameters) (past : List Ins) (i : Ins) → is_under_tombstone parameters past ≡ false
    → is_end i ≡ false → base_at past ≤ (row_at parameters past i).address
base_below_row parameters past i seen inner = grind (arith, base_below)

-- ---- what was built after a past

-- how what was built follows a past: `base` is the address from which the builder's offsets count, and `position` the
-- offset that it left off at
pub record Follows (parameters : Parameters) (past : List Ins) (base position : ℕ) : Type 0 where
  pub reached : base + position ≤ (pointer_at parameters past).address
  -- where no set address is pending, offsets count from the same address
  pub counted : is_under_tombstone parameters past ≡ false → pending_address past ≡ None → base ≡ base_at past
  -- one that is pending can be set
  pub ahead : (a : ℕ) → is_under_tombstone parameters past ≡ false → pending_address past ≡ Some a
      → (base + position ≤ a) × (a < address_limit parameters - 2)
  -- after nothing that was built of the sequence, offsets count from 0
  pub unset : gave_row parameters past ≡ false → base + position ≡ 0

pub follows_start : (parameters : Parameters) → Follows parameters [] 0 0
follows_start parameters = grind arith

-- an end
pub follows_end : (parameters : Parameters) (past : List Ins) (i : Ins) → is_end i ≡ true
    → Follows parameters (i ∷ past) 0 0
follows_end parameters past EndSequence closes = grind arith
follows_end parameters past i closes = absurd cc

-- one that isn't
pub follows_row : (parameters : Parameters) (past : List Ins) (i : Ins) → makes_row i ≡ true → is_end i ≡ false
    → is_under_tombstone parameters past ≡ false
    → Follows parameters (i ∷ past) (base_at past) ((pointer_at parameters (i ∷ past)).address - base_at past)
follows_row parameters past i loud inner seen = grind (arith, base_below)

-- a point that gives nothing
pub follows_quiet : (parameters : Parameters) (past : List Ins) (i : Ins) (base position : ℕ)
    → (makes_row i && not (is_under_tombstone parameters past)) ≡ false
    → (is_end i ≡ true → is_under_tombstone parameters past ≡ true → gave_row parameters past ≡ false)
    → Follows parameters past base position → Follows parameters (i ∷ past) base position
follows_quiet parameters past EndSequence base position quiet ends f = grind arith
follows_quiet parameters past (SetAddress a) base position quiet ends f = grind arith
follows_quiet parameters past (Special o) base position quiet ends f = grind arith
follows_quiet parameters past Copy base position quiet ends f = grind arith
follows_quiet parameters past i base position quiet ends f = grind arith

-- ---- ids stay

slice_stays : {A : Type 0} (xs ys : List A) (i : ℕ) {x : A} → slice_get xs i ≡ Some x → slice_get (xs ++ ys) i ≡ Some x
slice_stays [] ys i is = absurd cc
slice_stays (y ∷ xs) ys zero is = is
slice_stays (y ∷ xs) ys (suc i) is = slice_stays xs ys i is

-- ids that are there stay after an instruction
pub ids_stay : (sections : Sections) (tables : TablesAndTexts) {next : TablesAndTexts} (i : Ins)
    → tables_after_definition sections tables i ≡ Ok next
    → (n id : ℕ) → slice_get tables.file_ids n ≡ Some id → slice_get next.file_ids n ≡ Some id
ids_stay sections tables {next} (DefineFile f) is n id there = by _ is
  where
    by : (r : Result FileParts ConvertError) → (r >>= λ parts. Ok (with_parts tables f parts)) ≡ Ok next
        → slice_get next.file_ids n ≡ Some id
    by (Err e) so = absurd cc
    by (Ok parts) so = grind (arith, slice_stays)
ids_stay sections tables i is n id there = grind arith

-- ---- one point

pub file_id-is : (version : ℕ) (tables : TablesAndTexts) (n : ℕ) {id : ℕ} → file_id version tables n ≡ Ok id
    → IsFileId version tables.file_ids n id
file_id-is version tables n is = grind arith

row_parts : (r : ReadRow) {address : ℕ} → r.tombstone ≡ false → r.address ≡ address → r.end_sequence ≡ false
    → r ≡ record r { tombstone = false; address = address; end_sequence = false }
row_parts r seen at inner = grind arith

-- a built row is read as the row of the source says, but for the number of its file
pub same_others : (source_version version base : ℕ) (built : LineRow) {source back : ReadRow}
    → source ≡ record (read_row source_version base built) { file = source.file } → back ≡ read_row version base built
    → back ≡ record source { file = back.file }
same_others source_version version base built mapped matches = grind arith

-- ---- what comes of the rest of a program

module _ (sections : Sections) (parameters : Parameters) (first : TablesAndTexts) (size : ℕ) (c : Outcome) where
  -- items after a base are read as rows of the source say, whatever the row before them was
  abbrev pub AreReadBack : ℕ → List BuiltItem → List ReadRow → Type 0
  AreReadBack base items rows =
      (previous : LineRow)
      → OneByOne (IsReadAs parameters.encoding.version c.program.encoding.version c.file_ids) rows
      (items_rows c.program.encoding.version c.program.line_encoding base previous items)

  -- what comes of these instructions and this end after a past, from a program on
  pub record Rest (past list : List Ins) (end : Option Error) (base : ℕ) (position : ℕ × ℕ) (p : Built) : Type 0 where
    pub rows : List ReadRow
    pub events : events_after parameters past list end ≡ map row rows
    pub items : List BuiltItem
    pub built : c.program.items ≡ p.items ++ items
    pub mapped : AreReadBack base items rows
    pub fit : AddressesFit size base position items
    pub constants : AllByRecursion SetsConstant items
    pub tables : TablesAndTexts
    pub there : tables_at sections first past ≡ Ok tables
    pub stay : (n id : ℕ) → slice_get tables.file_ids n ≡ Some id → slice_get c.file_ids n ≡ Some id

  module _ (convert_address : ℕ → Option Address) (itself : MapsToItself convert_address)
      (wide : address_limit parameters ≤ 2 ^ (8 * size)) where
    -- the conversion is what comes of a reading
    abbrev Comes : Reading → Built → Type 0
    Comes reading p = outcome_of convert_address reading p ≡ Ok c

    -- nothing follows
    none_left : (past : List Ins) (end : Option Error) (base : ℕ) (position : ℕ × ℕ) (p : Built)
        → Comes (reading_after sections parameters first past [] end) p → Rest past [] end base position p
    none_left past end base position p is = by _ refl _ is
      where
        closed : {tables : TablesAndTexts} → tables_at sections first past ≡ Ok tables → (b : Bool)
            → (if b then Err MissingLineEndSequence else Ok (finished tables p)) ≡ Ok c
            → Rest past [] None base position p
        closed there true so = absurd cc
        closed {tables} there false so =
            record {
              rows = [];
              events = refl;
              items = [];
              built = grind (arith, append-nil);
              mapped = λ previous. tt;
              fit = tt;
              constants = tt;
              tables = tables;
              there = there;
              stay = grind arith;
            }

        by : (there : Result TablesAndTexts ConvertError) → tables_at sections first past ≡ there
            → (end : Option Error) → Comes (reading_with there (end_reading end)) p → Rest past [] end base position p
        by (Err e) there end so = absurd cc
        by (Ok tables) there (Some e) so = absurd cc
        by (Ok tables) there None so = closed there _ so

    module _ (past : List Ins) (i : Ins) (list : List Ins) (end : Option Error) (tables : TablesAndTexts)
        (at : tables_at sections first past ≡ Ok tables) where
      -- the rest from a point on, and after it
      abbrev Here : ℕ → ℕ × ℕ → Built → Type 0
      Here = Rest past (i ∷ list) end

      abbrev Later : ℕ → ℕ × ℕ → Built → Type 0
      Later = Rest (i ∷ past) list end

      abbrev later : Reading
      later = reading_after sections parameters first (i ∷ past) list end

      -- the row of a point, and the address that it counts from
      abbrev here : ReadRow
      here = row_at parameters past i

      abbrev offset : ℕ
      offset = here.address - base_at past

      abbrev version : ℕ
      version = parameters.encoding.version

      abbrev GivesRow : Type 0
      GivesRow = events_at parameters past i ≡ row here ∷ []

      abbrev NotUnderTombstone : Type 0
      NotUnderTombstone = is_under_tombstone parameters past ≡ false

      stays : {next : TablesAndTexts} → tables_at sections first (i ∷ past) ≡ Ok next → (n id : ℕ)
          → slice_get tables.file_ids n ≡ Some id → slice_get next.file_ids n ≡ Some id
      stays there = ids_stay _ _ i (sym (ap (λ r. r >>= λ l. tables_after_definition sections l i) at) ∙ there)

      -- a point gives nothing
      passed : (base : ℕ) (position : ℕ × ℕ) (p : Built) → events_at parameters past i ≡ [] → Later base position p
          → Here base position p
      passed base position p none r = record {
        rows = r.rows;
        events = grind arith;
        items = r.items;
        built = r.built;
        mapped = r.mapped;
        fit = r.fit;
        constants = r.constants;
        tables = tables;
        there = at;
        stay = λ n id is. r.stay n id (stays r.there n _ is);
      }

      -- a point gives a row, and an item is built of it
      taken : (base after : ℕ) (position after_it : ℕ × ℕ) (p next : Built) (built : BuiltItem) → GivesRow
          → next.items ≡ p.items ++ built ∷ [] → SetsConstant built
          → ((items : List BuiltItem) (rows : List ReadRow) → AreReadBack after items rows
          → AreReadBack base (built ∷ items) (here ∷ rows))
          → ((items : List BuiltItem) → AddressesFit size after after_it items
          → AddressesFit size base position (built ∷ items)) → Later after after_it next → Here base position p
      taken base after position after_it p next built one pushed constant mapped fit r = record {
        rows = here ∷ r.rows;
        events = grind arith;
        items = built ∷ r.items;
        built = grind (arith, append_assoc);
        mapped = mapped r.items r.rows r.mapped;
        fit = fit r.items r.fit;
        constants = (constant, r.constants);
        tables = tables;
        there = at;
        stay = grind (arith, stays);
      }

      -- an address is set before what a point gives
      address_taken : (base : ℕ) (position : ℕ × ℕ) (p : Built) (a : ℕ) → base + position.0 ≤ a
          → a < address_limit parameters - 2 → Here a (0, 0) (after_address (Constant a) (with_tables tables p))
          → Here base position p
      address_taken base position p a ahead below r = record {
        rows = r.rows;
        events = r.events;
        items = item.SetAddress (Constant a) ∷ r.items;
        built = grind (arith, append_assoc);
        mapped = λ previous. r.mapped (record previous { address_offset = 0; op_index = 0 });
        fit = (ahead, omega arith, r.fit);
        constants = ((a, refl), r.constants);
        tables = r.tables;
        there = r.there;
        stay = r.stay;
      }

      -- what is read after a point, and what comes of it
      abbrev Follow : Type 0
      Follow = (base : ℕ) (position : ℕ × ℕ) (p : Built) → Follows parameters (i ∷ past) base position.0
          → Comes later p → Later base position p

      -- an item that was built within the builder's conditions
      was_built : (b : Bool) (next : Built)
          → ((if b then Ok next else Err UnsupportedLineInstruction) >>= λ n. outcome_of convert_address later n) ≡ Ok c
          → Comes later next
      was_built true next is = is
      was_built false next is = absurd cc

      module _ (one : GivesRow) (loud : makes_row i ≡ true) (seen : NotUnderTombstone) (follow : Follow) where
        -- an end
        end_point_gives : (base : ℕ) (position : ℕ × ℕ) (p : Built) → is_end i ≡ true → base ≡ base_at past
            → Comes (offers (offer.EndSequence offset) tables later) p → Here base position p
        end_point_gives base position p closes same is =
            let q : Built = with_tables tables p in
            let built : BuiltItem = item.End offset q.row.op_index in
            let next : Built = after_end offset q in
            let address : here.address ≡ (pointer_at parameters past).address = rw closes refl in
            let below : base_at past ≤ (pointer_at parameters past).address = base_below parameters past seen in
            let within : (pointer_at parameters past).address < address_limit parameters =
            address_within parameters past in
            taken base 0 position _ p _ built one refl tt
            (λ items rows mapped previous. (
              record {
                address = omega arith;
                ends = sym closes;
                registers = λ inner. absurd cc;
                file = λ inner. absurd cc;
              },
              mapped _,
            ))
            (λ items fit. (omega arith, fit)) (follow 0 (0, 0) next (follows_end parameters past i closes)
            (was_built _ _ is))

        -- a row of a file that is there
        row_point_gives : (base : ℕ) (position : ℕ × ℕ) (p : Built) (file : ℕ) → is_end i ≡ false
            → base ≡ base_at past → file_id version tables here.file ≡ Ok file
            → Comes (offers (offer.Row (row_in (source_row parameters past i) file)) tables later) p
            → Here base position p
        row_point_gives base position p file inner same known is =
            let q : Built = with_tables tables p in
            let r : LineRow = row_in (source_row parameters past i) file in
            let built : BuiltItem = item.Row r in
            let next : Built = after_row r q in
            let address : here.address ≡ (pointer_at parameters (i ∷ past)).address = cc in
            let at_base : base_at past ≤ here.address = base_below_row parameters past i seen inner in
            let within : (pointer_at parameters (i ∷ past)).address < address_limit parameters =
            address_within parameters (i ∷ past) in
            let sum : here.address ≡ base + offset = omega arith in
            let rest = follow (base_at past) (r.address_offset, r.op_index) next
            (subst (λ a. Follows parameters (i ∷ past) (base_at past) (a - base_at past)) (sym address)
            (follows_row _ _ i loud inner seen)) (was_built _ _ is) in
            let number : IsFileId version tables.file_ids here.file file = file_id-is _ tables _ known in
            let found : slice_get c.file_ids here.file ≡ Some file =
            rest.stay here.file file (stays rest.there _ _ number.there) in
            taken base _ position _ p _ built one refl tt (λ items rows mapped previous. (
              record {
                address = sym sum;
                ends = sym inner;
                registers = λ is.
                    same_others version c.program.encoding.version base r {source = here}
                    {back = read_row c.program.encoding.version base r} (row_parts here seen sum inner) refl;
                file = λ is. (file, record { from_one = number.from_one; there = found }, refl);
              },
              subst (λ b. AreReadBack b items rows) (sym same) mapped r,
            )) (λ items fit. (
              omega (arith, wide),
              subst (λ b. AddressesFit size b (r.address_offset, r.op_index) items) (sym same) fit,
            )) rest

        -- a row, or an end
        any_point_gives : {base : ℕ} (position : ℕ × ℕ) (p : Built) → base ≡ base_at past
            → Comes (row_or_end_offered version tables (source_row parameters past i) later) p → Here base position p
        any_point_gives {base} position p same is = by _ refl is
          where
            known : (r : Result ℕ ConvertError) → file_id version tables here.file ≡ r → is_end i ≡ false
                → Comes (row_offered (r >>= λ file. Ok (row_in (source_row parameters past i) file)) tables later) p
                → Here base position p
            known (Err e) at inner so = absurd cc
            known (Ok file) at inner so = row_point_gives _ _ p _ inner same at so

            by : (b : Bool) → is_end i ≡ b → Comes (if b then offers (offer.EndSequence offset) tables later
                else row_offered (built_row version tables (source_row parameters past i)) tables later) p
                → Here base position p
            by true closes so = end_point_gives _ _ p closes same so
            by false inner so = known _ refl inner so

        -- the same after an address that may be pending
        point_gives : (base : ℕ) (position : ℕ × ℕ) (p : Built) → Follows parameters past base position.0
            → Comes (source_row_offered version tables (source_row parameters past i) later) p → Here base position p
        point_gives base position p f is = by (pending_address past) refl is
          where
            offered : Reading
            offered = row_or_end_offered version tables (source_row parameters past i) later

            by : (o : Option ℕ) → pending_address past ≡ o → Comes (address_offered o tables offered) p
                → Here base position p
            by None at so = any_point_gives position p (f.counted seen at) so
            by (Some a) at so =
                let ahead = f.ahead a seen at in
                let next : Built = after_address (Constant a) (with_tables tables p) in
                let mapped : Comes offered next =
                sym (ap
                (λ (o : Option Address). (ok_or o InvalidAddress >>= λ m. Ok (after_address m (with_tables tables p)))
                >>= λ n. outcome_of convert_address offered n) (itself a)) ∙ so in
                address_taken base position p a ahead.0 ahead.1
                (any_point_gives (0, 0) next (sym (pending_is_base past {a = a} at)) mapped)

      -- any point
      point_passes : (base : ℕ) (position : ℕ × ℕ) (p : Built) → Follows parameters past base position.0
          → (is_end i ≡ true → is_under_tombstone parameters past ≡ true → gave_row parameters past ≡ false)
          → Comes (reading_at parameters tables past i later) p → Follow → Here base position p
      point_passes base position p f no_end_under_tombstone is follow = by _ _ _ refl refl refl is
        where
          gives : (o m : Bool) {tombstone : Bool} → overflows parameters past i ≡ o → makes_row i ≡ m
              → is_under_tombstone parameters past ≡ tombstone → events_at parameters past i
              ≡ (if o then fault AddressOverflow ∷ [] else (if m && not tombstone then row here ∷ [] else []))
          gives true m at made seen = rw at refl
          gives false true at made seen = rw (at, made, seen) refl
          gives false false at made seen = rw (at, made) refl

          -- nothing comes of it
          quiet : (m tombstone : Bool) → overflows parameters past i ≡ false → makes_row i ≡ m
              → is_under_tombstone parameters past ≡ tombstone → (m && not tombstone) ≡ false → Comes later p
              → Here base position p
          quiet m tombstone at made seen none so =
              passed _ _ p
              (gives _ m {tombstone = tombstone} at made seen ∙ ap (λ b. if b then row here ∷ [] else []) none)
              (follow base position p (follows_quiet _ _ i _ _
              (ap (λ b. b && not (is_under_tombstone parameters past)) made ∙ ap (λ b. m && not b) seen ∙ none)
              no_end_under_tombstone f) so)

          by : (o m tombstone : Bool) → overflows parameters past i ≡ o → makes_row i ≡ m
              → is_under_tombstone parameters past ≡ tombstone → Comes (if o then stops (Read AddressOverflow)
              else (if m && not tombstone
              then source_row_offered version tables (source_row parameters past i) later else later)) p
              → Here base position p
          by true m tombstone at made seen so = absurd cc
          by false true false at made seen so = point_gives (gives _ _ at made seen) made seen follow _ _ p f so
          by false true true at made seen so = quiet true true at made seen refl so
          by false false tombstone at made seen so = quiet false tombstone at made seen refl so

    -- what comes of the rest of a program
    pub rest_mapped : (past list : List Ins) (end : Option Error) (base : ℕ) (position : ℕ × ℕ) (p : Built)
        → Follows parameters past base position.0 → NoneEndsUnderTombstone parameters past list
        → outcome_of convert_address (reading_after sections parameters first past list end) p ≡ Ok c
        → Rest past list end base position p
    rest_mapped past [] end base position p f seen is = none_left _ _ _ _ p is
    rest_mapped past (i ∷ list) end base position p f seen is =
        by (λ base position p f so. rest_mapped _ _ _ _ _ p f seen.1 so) _ refl is
      where
        after : Reading
        after = reading_after sections parameters first (i ∷ past) list end

        by : ((base : ℕ) (position : ℕ × ℕ) (p : Built) → Follows parameters (i ∷ past) base position.0
            → Comes after p → Rest (i ∷ past) list end base position p)
            → (there : Result TablesAndTexts ConvertError) → tables_at sections first past ≡ there
            → Comes (reading_with there (λ tables. reading_at parameters tables past i (with_definition i after))) p
            → Rest past (i ∷ list) end base position p
        by follow (Err e) at so = absurd cc
        by follow (Ok tables) at so =
            point_passes past i list end tables at base position p f seen.0
            (sym (definition_passed convert_address parameters _ past i _ p) ∙ so) follow
