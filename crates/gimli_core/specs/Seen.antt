-- What a reader has left, and what a call takes from its front.
use Rattle.std.specs.Prelude.{ℕ, Bool, List, Result}
use Rattle.gimli_core.specs
use specs.Layout.{Seen}
use specs.Production.{Production}
use specs.Reading.{Read, result_map}
use specs.declared.error.Error.{Error}

-- what a call returns and the reader that it leaves, in this order of bytes
abbrev pub in_order : {A : Type 0} → Bool → Read A → Result A Error × Seen
in_order is_big read = (read.0, record { bytes = read.1; is_big = is_big })

-- what is taken of the bytes of a reader; what is left has the same order
abbrev pub on_bytes : {A : Type 0} → (List ℕ → Read A) → Seen → Result A Error × Seen
on_bytes read s = in_order s.is_big (read s.bytes)

-- a production, taken from the front
abbrev pub taken : {A : Type 0} → Production A → Seen → Result A Error × Seen
taken l s = on_bytes l.read s

-- bytes as a reader of their own, in this order
abbrev pub as_reader : Bool → List ℕ → Seen
as_reader is_big bytes = record { bytes = bytes; is_big = is_big }

-- like in_order, where the bytes that are taken are a reader of their own
abbrev pub part_in_order : Bool → Read (List ℕ) → Result Seen Error × Seen
part_in_order is_big read = (result_map (as_reader is_big) read.0, as_reader is_big read.1)

-- a production of bytes, taken from the front as a reader of their own
abbrev pub part_taken : Production (List ℕ) → Seen → Result Seen Error × Seen
part_taken l s = part_in_order s.is_big (l.read s.bytes)
