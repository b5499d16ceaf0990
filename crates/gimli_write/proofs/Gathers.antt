-- Sequences that are read, row by row.
use Rattle.std.specs.Prelude.{◌≡◌, ◌∷◌, ◌++◌}
use Rattle.gimli_write.proofs.Common
use Common.{ℕ, false, nat_eq, List, [], length, refl, sym, ap, ◌∙◌, inl, inr, Option, Some, None, Ok, Err, Built}
use Common.{LineRow, Row, TablesAndTexts, Reading, ends, stops, defines, offers, after_definitions}
use Common.{sequence_from, sequence_with, IsRefusedBy, Conversion, tables_of}
use Common.{still_to_read, IsReadRefusal, AddsFiles, ConvertError, MissingLineEndSequence}
use Rattle.gimli_write.specs
use specs.declared.convert.rows.ConvertLineRow.TheVariants.{SetAddress}
use specs.declared.convert.rows.ConvertLineSequenceEnd.TheVariants.{Address}

-- files that are defined give no row
pub gathered_after : (start : Option ℕ) (rows : List LineRow) (r : Reading)
    → sequence_from start rows (after_definitions r) ≡ sequence_from start rows r
gathered_after start rows (defines rest) = gathered_after start rows rest
gathered_after start rows (ends tables) = refl
gathered_after start rows (stops e) = refl
gathered_after start rows (offers item tables rest) = refl

-- what is gathered, by what is read after them
pub gathered_first : (start : Option ℕ) (rows : List LineRow) (old : Reading) {next : Reading}
    → after_definitions old ≡ next → sequence_from start rows old ≡ sequence_from start rows next
gathered_first start rows old is = sym (gathered_after start rows old) ∙ ap (sequence_from start rows) is

-- after a row
pub row_gathered : (start : Option ℕ) (rows : List LineRow) {more : List LineRow} (row : LineRow) (old rest : Reading)
    (tables : TablesAndTexts) → after_definitions old ≡ offers (Row row) tables rest → more ≡ rows ++ row ∷ []
    → sequence_from start more rest ≡ sequence_from start rows old
row_gathered start rows row old rest tables hands more_is =
    ap (λ (r : List LineRow). sequence_from start r rest) more_is ∙ sym (gathered_first start rows old hands)

-- after an address, before the first row
pub address_gathered : (start : Option ℕ) {rows : List LineRow} (a : ℕ) (old rest : Reading) (tables : TablesAndTexts)
    → after_definitions old ≡ offers (SetAddress a) tables rest → rows ≡ []
    → sequence_from (Some a) rows rest ≡ sequence_from start rows old
address_gathered start a old rest tables hands none = rw none (sym (gathered_first start [] old hands))

-- an address after a row is where a sequence ends, and is read again
pub address_ends : (start : Option ℕ) (rows : List LineRow) (a : ℕ) (old rest : Reading) (tables : TablesAndTexts)
    → after_definitions old ≡ offers (SetAddress a) tables rest → nat_eq (length rows) 0 ≡ false
    → sequence_from start rows old ≡ Ok (Some (sequence_with start rows (Address a)), offers (SetAddress a) tables rest)
address_ends start [] a old rest tables hands some = absurd cc
address_ends start (row ∷ rows) a old rest tables hands some = gathered_first start (row ∷ rows) old hands

module _ (c d : Conversion) (line_strings : List (List ℕ)) (a : ℕ) where
  pub given_back : c.failed ≡ None → c.address ≡ None → d ≡ record c { address = Some a }
      → offers (SetAddress a) (tables_of c line_strings) (still_to_read c line_strings) ≡ still_to_read d line_strings
  given_back well none is = cc

-- the end of what is read
pub nothing_gathered : (start : Option ℕ) {rows : List LineRow} (old : Reading) {rest : Reading}
    (tables : TablesAndTexts) → after_definitions old ≡ ends tables → rest ≡ ends tables → rows ≡ []
    → sequence_from start rows old ≡ Ok (None, rest)
nothing_gathered start old tables end left none = rw (none, left) (gathered_first start [] old end)

pub rows_left : (start : Option ℕ) (rows : List LineRow) (old : Reading) (tables : TablesAndTexts)
    → after_definitions old ≡ ends tables → nat_eq (length rows) 0 ≡ false
    → sequence_from start rows old ≡ Err MissingLineEndSequence
rows_left start [] old tables end some = absurd cc
rows_left start (row ∷ rows) old tables end some = gathered_first start (row ∷ rows) old end

-- a refusal
pub gather_refused : (start : Option ℕ) (rows : List LineRow) (old : Reading) (e : ConvertError) → IsReadRefusal old e
    → IsRefusedBy (sequence_from start rows old) e
gather_refused start rows old e (inl is) = inr (gathered_first start rows old is)
gather_refused start rows old e (inr memory) = inl memory.0

-- files that are added, and then more
pub added_then : (old between new : Built) → AddsFiles old between → AddsFiles between new → AddsFiles old new
added_then old between new first second = cc
