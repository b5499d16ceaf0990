-- What is read from, whatever the type of the reader.
use Rattle.gimli_line.specs.Prelude.{ℕ, List, OrderAndLimit, Seen, layout_of}
use Rattle.gimli_line.specs.header.Header.{Header}

-- bytes that are still to be read, and how numbers are noted in them
pub record Unread : Type 0 where
  -- the bytes left
  pub bytes : List ℕ
  pub layout : OrderAndLimit

-- what a reader has left, by its bytes, its order and the limit of its offsets
abbrev pub unread_of : {R : Type 0} → (R → Seen) → ℕ → R → Unread
unread_of seen limit reader = record {
  bytes = (seen reader).bytes;
  layout = layout_of (seen reader).is_big limit;
}

-- the whole program of a header
abbrev pub whole_program : Header → OrderAndLimit → Unread
whole_program h layout = record { bytes = h.program; layout = layout }
