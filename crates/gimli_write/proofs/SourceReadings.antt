-- What the machine reads of a source is what looking back says.
use Rattle.std.specs.Prelude.{◌≡◌, ◌-◌, ◌&&◌, if◌then◌else◌, ◌∷◌}
use Rattle.gimli_write.proofs.Common
use Common.{ℕ, Bool, true, false, not, List, [], refl, sym, ap, ◌∙◌, Option, Result, Ok, Err, OrderAndLimit, Error}
use Common.{AddressOverflow, Header, EndSequence, SetAddress, Ins, makes_row, decoded_at, is_under_tombstone}
use Common.{registers_after, Unread, is_decoded, Sections, ConvertError, Read, SourceRow, ◌>>=◌, TablesAndTexts}
use Common.{Reading, stops, reading_with, base_at, pending_address, source_row, source_row_offered, reading_at}
use Common.{tables_after_definition, tables_at, reading_after, ReadsItems, with_definition, SourceRun, start_of_source}
use Common.{row_made, base_after, pending_after, state_after, instruction_reading, reading_from, reading_left}
use Rattle.gimli_line.proofs.Backwards.{refused_after, tombstone_after, row_after}
use Rattle.gimli_write.proofs.SourceSteps.{state_same}

-- ---- the state after a past

abbrev pub state_at : Header → List Ins → Unread → SourceRun
state_at h past unread = record {
  header = h;
  row = registers_after h.parameters past;
  base = base_at past;
  pending = pending_address past;
  unread = unread;
}

base_is : (i : Ins) (past : List Ins) → base_after i (base_at past) ≡ base_at (i ∷ past)
base_is EndSequence past = refl
base_is (SetAddress a) past = refl
base_is i past = refl

pending_is : (i : Ins) (past : List Ins) → pending_after i (pending_address past) ≡ pending_address (i ∷ past)
pending_is (SetAddress a) past = refl
pending_is EndSequence past = refl
pending_is i past = refl

state_is : (h : Header) (u : Unread) (past : List Ins) (i : Ins)
    → state_after i (state_at h past u) ≡ state_at h (i ∷ past) u
state_is h u past i =
    let row = registers_after h.parameters (i ∷ past) in
    state_same h h row row u refl refl (base_is i past) (pending_is i past)

-- ---- one point

row_same : (h : Header) (u : Unread) (past : List Ins) (i : Ins) → makes_row i ≡ true
    → is_under_tombstone h.parameters past ≡ false → row_made (state_at h past u) i ≡ source_row h.parameters past i
row_same h u past i loud seen =
    ap (λ row.
    let r : SourceRow =
    record { set_address = pending_address past; address_offset = row.address - base_at past; row = row } in
    r) (row_after h.parameters past i loud)

module _ (give : SourceRow → Reading) (stop rest : Reading) where
  same_parts : (made over tombstone : Bool) (r d : SourceRow) → (made ≡ true → tombstone ≡ false → r ≡ d)
      → (if over then stop else (if made && not tombstone then give r else rest))
      ≡ (if over then stop else (if made && not tombstone then give d else rest))
  same_parts made true tombstone r d same = refl
  same_parts true false true r d same = refl
  same_parts true false false r d same = ap give (same refl refl)
  same_parts false false tombstone r d same = refl

  same_point : (made : Bool) {refused over is_tombstone tombstone : Bool} (r d : SourceRow) → refused ≡ over
      → is_tombstone ≡ tombstone → (made ≡ true → tombstone ≡ false → r ≡ d)
      → (if refused then stop else (if made && not is_tombstone then give r else rest))
      ≡ (if over then stop else (if made && not tombstone then give d else rest))
  same_point made r d e f same = rw (e, f) (same_parts _ _ _ r d same)

point_is : (h : Header) (u : Unread) (past : List Ins) (tables : TablesAndTexts) (i : Ins) (rest : Reading)
    → instruction_reading (state_at h past u) tables i rest ≡ reading_at h.parameters tables past i rest
point_is h u past tables i rest =
    same_point (λ (r : SourceRow). source_row_offered h.parameters.encoding.version tables r rest)
    (stops (Read AddressOverflow)) rest (makes_row i) (row_made (state_at h past u) i) (source_row h.parameters past i)
    (refused_after h.parameters past i) (tombstone_after h.parameters past) (row_same h u past i)

-- ---- a whole program

module _ (sections : Sections) (h : Header) (first : TablesAndTexts) (u : Unread) where
  pub readings_are : (past list : List Ins) (end : Option Error)
      → reading_from sections (state_at h past u) (tables_at sections first past) list end
      ≡ reading_after sections h.parameters first past list end
  readings_are past [] end = refl
  readings_are past (i ∷ list) end = by (readings_are (i ∷ past) list end) (tables_at sections first past) refl
    where
      by : reading_from sections (state_at h (i ∷ past) u) (tables_at sections first (i ∷ past)) list end
          ≡ reading_after sections h.parameters first (i ∷ past) list end
          → (there : Result TablesAndTexts ConvertError) → tables_at sections first past ≡ there
          → reading_from sections (state_at h past u) (tables_at sections first past) (i ∷ list) end
          ≡ reading_after sections h.parameters first past (i ∷ list) end
      by others (Err e) is = rw is refl
      by others (Ok tables) is =
          let next : tables_at sections first (i ∷ past) ≡ tables_after_definition sections tables i = ap
          (λ (there : Result TablesAndTexts ConvertError). there >>= λ l. tables_after_definition sections l i) is in
          let rest : reading_from sections (state_after i (state_at h past u))
          (tables_after_definition sections tables i) list end
          ≡ reading_after sections h.parameters first (i ∷ past) list end =
          ap (λ (s : SourceRun). reading_from sections s (tables_after_definition sections tables i) list end)
          (state_is h u past i) ∙ ap
          (λ (there : Result TablesAndTexts ConvertError). reading_from sections (state_at h (i ∷ past) u) there list
          end) (sym next) ∙ others in
          ap (λ (there : Result TablesAndTexts ConvertError). reading_with there (λ l.
          instruction_reading (state_at h past u) l i
          (with_definition i (reading_from sections (state_after i (state_at h past u))
          (tables_after_definition sections l i) list end)))) is ∙ point_is h u past tables i
          (with_definition i (reading_from sections (state_after i (state_at h past u))
          (tables_after_definition sections tables i) list end))
          ∙ ap (λ (r : Reading). reading_at h.parameters tables past i (with_definition i r)) rest ∙ ap
          (λ (there : Result TablesAndTexts ConvertError). reading_with there (λ l. reading_at h.parameters l past i
          (with_definition i (reading_after sections h.parameters first (i ∷ past) list end)))) (sym is)

-- what is left at the start of a program is what is read of it
pub start_reads : (layout : OrderAndLimit) (sections : Sections) (h : Header) (first : TablesAndTexts) (bytes : List ℕ)
    → ReadsItems layout sections h first bytes
    (reading_left sections (start_of_source h (record { bytes = bytes; layout = layout })) first)
start_reads layout sections h first bytes = record {
  list = (decoded_at layout h bytes).0;
  end = (decoded_at layout h bytes).1;
  decoding = is_decoded layout h bytes;
  given =
      readings_are sections h first (record { bytes = bytes; layout = layout }) [] (decoded_at layout h bytes).0
      (decoded_at layout h bytes).1;
}
