-- What the rows that are read back of a conversion are, where its map moves addresses.
use Rattle.std.specs.Prelude.{◌≡◌, ◌+◌, ◌≤◌, ◌∷◌, ◌++◌}
use Rattle.gimli_write.proofs
use proofs.Common
use Common.{ℕ, List, [], refl, sym, ap, subst, ◌∙◌, Option, Address, Ins, one_decoding, AddressesFit}
use Common.{HasFittingAddresses, program_rows, items_rows, ReadRow, OneByOne, Outcome, ToConvert, encoding_of, Bool}
use Common.{true, false, map, arith, Some}
use Common.{Parameters, SetAddress, EndSequence, Special, Copy, is_end, row_at, row, Events, pointer_at}
use Common.{is_under_tombstone, base_at, pending_address}
use Rattle.gimli_line.proofs.NonDecreasingLaws.{rises}
use Rattle.gimli_write.specs
use specs.convert.Mapped.{NoneEndsUnderTombstone, IsReadAs}
use specs.convert.Moved
use Moved.{AreInOrder, CanBeMoved, AreMovedRows, gives_row, source_rows, moved, moved_base, moved_address, moved_row}
use Moved.{instructions_of, moved_rows, moved_to, AddsToEach, shifted, sets_address, HaveSpace, CanBeShifted}
use specs.convert.DoneConversions.{UnitReadBack, UnitGives}
use specs.RoundTrip.{AreBuiltRows}
use Rattle.gimli_build.specs.Rows.{initial_row}
use proofs.MappedLaws.{WasConverted, read_to_end, first_ready, encoding_kept}
use proofs.BuiltAnswers.{events_same, rows_same}
use proofs.MappedRows.{pending_is_base, base_below, base_below_row}
use proofs.MovedRows.{follows_start, Rest, rest_moved}

module _ {g : ℕ → Option Address} {s : ToConvert} {line_strings : List (List ℕ)} {c : Outcome}
    (w : WasConverted g s line_strings c) (can : CanBeMoved g s) where
  read_once : w.reads.list ≡ instructions_of s
  read_once = ap (λ p. p.0) (one_decoding s.layout s.header _ _ _ w.reads.decoding)

  abbrev size : ℕ
  size = (encoding_of s.header s.given).address_size

  whole : Rest g s.sections s.header.parameters w.first size c [] w.reads.list w.reads.end 0 (0, 0) w.first.program
  whole =
      rest_moved g s.sections s.header.parameters w.first size c _ _ _ 0 _ _ (follows_start g s.header.parameters)
      (subst (NoneEndsUnderTombstone s.header.parameters []) (sym read_once) can.no_end_under_tombstone)
      (subst (AreInOrder g s.header.parameters size []) (sym read_once) can.in_order) (read_to_end w)

  -- what was built is what was built after the start
  all_items : whole.items ≡ c.program.items
  all_items = sym (whole.built ∙ ap (λ l. l ++ whole.items) (first_ready w []).items)

  addresses_fit : HasFittingAddresses c.program
  addresses_fit =
      subst (λ e. AddressesFit e.address_size 0 (0, 0) c.program.items) (sym (encoding_kept w))
      (subst (AddressesFit size 0 (0, 0)) all_items whole.fit)

  -- rows that its items are read as are those of the source, moved
  pub rows_moved : (version : ℕ) → c.program.encoding.version ≡ version → (back : List ReadRow)
      → AreBuiltRows c.program back → AreMovedRows g s version c.file_ids back
  rows_moved version is back built =
      let before = s.header.parameters.encoding.version in
      let rows = moved_rows g s.header.parameters [] w.reads.list in
      let first = initial_row c.program.encoding.version c.program.line_encoding.default_is_stmt in
      let given : Events s.layout s.header s.header.program
      (map row (source_rows s.header.parameters [] w.reads.list)) = record {
        list = w.reads.list;
        end = w.reads.end;
        decoding = w.reads.decoding;
        given = sym whole.events;
      } in
      let there = subst (λ items. OneByOne (IsReadAs before c.program.encoding.version c.file_ids) rows
      (items_rows c.program.encoding.version c.program.line_encoding 0 first items)) all_items (whole.mapped first) in
      let same = subst (λ (version : ℕ). OneByOne (IsReadAs before version c.file_ids) rows back) is
      (subst (OneByOne (IsReadAs before c.program.encoding.version c.file_ids) rows) (sym (built addresses_fit))
      there) in
      record {
        events = subst (λ list. Events s.layout s.header s.header.program
            (map row (source_rows s.header.parameters [] list))) read_once given;
        same = subst (λ list. OneByOne (IsReadAs before version c.file_ids)
            (moved_rows g s.header.parameters [] list) back) read_once same;
      }

  -- the same of a unit that is read back
  pub unit_moved : (u : UnitReadBack c.program)
      → (found : List ReadRow) × UnitGives u found × AreMovedRows g s c.program.encoding.version c.file_ids found
  unit_moved u = (
    program_rows c.program,
    u.back.rows addresses_fit,
    rows_moved c.program.encoding.version refl (program_rows c.program) (λ fits. refl),
  )

-- ---- a map that adds a number

module _ (g : ℕ → Option Address) (parameters : Parameters) (n : ℕ) (adds : AddsToEach n g) where
  moved_is : (a : ℕ) → moved g a ≡ a + n
  moved_is a = rw (adds a) refl

  base_up : (past : List Ins) → moved_base g parameters past ≤ base_at past + n
  base_up [] = omega arith
  base_up (SetAddress a ∷ past) = omega (arith, moved_is a)
  base_up (EndSequence ∷ past) = omega arith
  base_up (i ∷ past) = base_up past

  base_same : (past : List Ins) → sets_address past ≡ true → moved_base g parameters past ≡ base_at past + n
  base_same [] sets = absurd cc
  base_same (SetAddress a ∷ past) sets = moved_is a
  base_same (EndSequence ∷ past) sets = absurd cc
  base_same (i ∷ past) sets = base_same past sets

  -- a row isn't moved further
  row_up : (past : List Ins) (i : Ins) → base_at past ≤ (row_at parameters past i).address
      → moved_address g parameters past i ≤ (row_at parameters past i).address + n
  row_up past i below = omega (arith, base_up past, below)

  row_same : (past : List Ins) (i : Ins) → sets_address past ≡ true
      → base_at past ≤ (row_at parameters past i).address
      → moved_row g parameters past i ≡ shifted n (row_at parameters past i)
  row_same past i sets below =
      let same : moved_address g parameters past i ≡ (row_at parameters past i).address + n =
      omega (arith, base_same past sets, below) in
      ap (λ a. let r : ReadRow = record (row_at parameters past i) { address = a } in r) same

  -- the row of a point isn't below the address that was set before it
  row_ahead : (past : List Ins) (i : Ins) → gives_row parameters past i ≡ true
      → base_at past ≤ (row_at parameters past i).address
  row_ahead past i gives = by (is_end i) refl
    where
      seen : is_under_tombstone parameters past ≡ false
      seen = grind arith

      by : (b : Bool) → is_end i ≡ b → base_at past ≤ (row_at parameters past i).address
      by true closes =
          let address : (row_at parameters past i).address ≡ (pointer_at parameters past).address = rw closes refl in
          omega (arith, address, base_below parameters past seen)
      by false inner = base_below_row parameters past i seen inner

  -- no row of the sequence was moved further than the pointer
  to_up : (past : List Ins) → moved_to g parameters past ≤ (pointer_at parameters past).address + n
  to_up [] = omega arith
  to_up (i ∷ past) = by (is_end i) (gives_row parameters past i) refl refl (to_up past)
    where
      by : (ends gives : Bool) → is_end i ≡ ends → gives_row parameters past i ≡ gives
          → moved_to g parameters past ≤ (pointer_at parameters past).address + n
          → moved_to g parameters (i ∷ past) ≤ (pointer_at parameters (i ∷ past)).address + n
      by true gives closes at so = rw closes (omega arith)
      by false true inner at so =
          let address : (row_at parameters past i).address
          ≡ (pointer_at parameters (i ∷ past)).address = rw inner refl in
          rw (inner, at) (omega (arith, address, row_up past i (row_ahead past i at)))
      by false false inner at so =
          let up = rises parameters (is_under_tombstone parameters past) i (pointer_at parameters past) inner in
          rw (inner, at) (omega (arith, up, so))

  -- nor than an address that is pending
  pending_up : (past : List Ins) {a : ℕ} → is_under_tombstone parameters past ≡ false → pending_address past ≡ Some a
      → moved_to g parameters past ≤ a + n
  pending_up [] seen is = absurd cc
  pending_up (SetAddress b ∷ past) {a} seen is =
      let same : b ≡ a = cc in
      let over : (pointer_at parameters past).address ≤ b = grind arith in
      let before : moved_to g parameters (SetAddress b ∷ past) ≡ moved_to g parameters past = refl in
      omega (arith, before, to_up past, over, same)
  pending_up (EndSequence ∷ past) seen is = absurd cc
  pending_up (Special o ∷ past) seen is = absurd cc
  pending_up (Copy ∷ past) seen is = absurd cc
  pending_up (i ∷ past) seen is = pending_up past seen is

  module _ (size : ℕ) where
    -- such a map keeps the order
    shift_in_order : (past list : List Ins) → HaveSpace parameters n size past list
        → AreInOrder g parameters size past list
    shift_in_order past [] space = tt
    shift_in_order past (i ∷ list) space = (
      λ gives.
          let below = row_ahead past i gives in
          let fits = (space.0 gives).1 in
          record {
            ahead = λ a pending. (
              rw (moved_is a) (pending_up past {a = a} (grind arith) pending),
              omega (arith, moved_is a, pending_is_base past {a = a} pending, below, fits),
            );
            fits = omega (arith, row_up past i below, fits);
          },
      shift_in_order (i ∷ past) list space.1,
    )

    -- and its rows are those of the source, so many bytes further on
    rows_shifted : (past list : List Ins) → HaveSpace parameters n size past list
        → moved_rows g parameters past list ≡ map (shifted n) (source_rows parameters past list)
    rows_shifted past [] space = refl
    rows_shifted past (i ∷ list) space = by _ refl (rows_shifted (i ∷ past) list space.1)
      where
        by : (gives : Bool) → gives_row parameters past i ≡ gives
            → moved_rows g parameters (i ∷ past) list ≡ map (shifted n) (source_rows parameters (i ∷ past) list)
            → moved_rows g parameters past (i ∷ list) ≡ map (shifted n) (source_rows parameters past (i ∷ list))
        by true at rest =
            rw at (ap (λ r. r ∷ moved_rows g parameters (i ∷ past) list)
            (row_same past i (space.0 at).0 (row_ahead past i at))
            ∙ ap (λ rows. shifted n (row_at parameters past i) ∷ rows) rest)
        by false at rest = rw at rest

module _ {g : ℕ → Option Address} {s : ToConvert} {line_strings : List (List ℕ)} {c : Outcome}
    (w : WasConverted g s line_strings c) (n : ℕ) (can : CanBeShifted n g s) where
  abbrev new_size : ℕ
  new_size = (encoding_of s.header s.given).address_size

  moves : CanBeMoved g s
  moves = record {
    in_order = shift_in_order g s.header.parameters n can.adds new_size [] (instructions_of s) can.space;
    no_end_under_tombstone = can.no_end_under_tombstone;
  }

  same_shifted : (version : ℕ) (rows back : List ReadRow) → Events s.layout s.header s.header.program (map row rows)
      → AreMovedRows g s version c.file_ids back
      → OneByOne (IsReadAs s.header.parameters.encoding.version version c.file_ids) (map (shifted n) rows) back
  same_shifted version rows back events m =
      let list = instructions_of s in
      let same = rows_same (source_rows s.header.parameters [] list) rows (events_same m.events events) in
      subst (λ rows. OneByOne (IsReadAs s.header.parameters.encoding.version version c.file_ids) rows back)
      (rows_shifted g s.header.parameters n can.adds new_size [] list can.space ∙ ap (map (shifted n)) same) m.same

  pub shift_back : (rows back : List ReadRow) → Events s.layout s.header s.header.program (map row rows)
      → AreBuiltRows c.program back
      → OneByOne (IsReadAs s.header.parameters.encoding.version c.program.encoding.version c.file_ids)
      (map (shifted n) rows) back
  shift_back rows back events built =
      same_shifted c.program.encoding.version rows back events
      (rows_moved w moves c.program.encoding.version refl back built)

  pub unit_shifted : (rows : List ReadRow) → Events s.layout s.header s.header.program (map row rows)
      → (u : UnitReadBack c.program) → (found : List ReadRow) × UnitGives u found
      × OneByOne (IsReadAs s.header.parameters.encoding.version c.program.encoding.version c.file_ids)
      (map (shifted n) rows) found
  unit_shifted rows events u =
      let found = unit_moved w moves u in
      (found.0, found.1, same_shifted c.program.encoding.version rows found.0 events found.2)
