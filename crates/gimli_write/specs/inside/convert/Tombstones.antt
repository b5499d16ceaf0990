-- Whether a sequence ends under a tombstone, by the registers.
use Rattle.std.specs.Prelude.{◌≡◌, ◌<◌, ◌&&◌, ◌||◌, if◌then◌else◌, ◌∷◌}
use Rattle.gimli_write.specs
use specs.Prelude
use Prelude.{Bool, true, false, not, List, [], length, Option, Some, None, Header, Parameters}
use Prelude.{Ins, is_end, makes_row, decoded_at}
use Rattle.gimli_line.specs.declared.run.row.LineRow.{LineRow}
use Rattle.gimli_line.specs.run.Machine.{initial, next_registers}
use Rattle.gimli_line.specs.run.Unread.{Unread}
use specs.declared.convert.tombstones.Watch.{Watch}

-- a point: its registers, whether its sequence gave a row so far, and what is unread
pub record Watched : Type 0 where
  pub row : LineRow
  pub gave_row : Bool
  pub unread : Unread

-- the point that a value of the code is at
abbrev pub watched : {R Endian Offset : Type 0} → Watch R Endian Offset → Watched
watched w = record { row = w.row; gave_row = w.gave_row; unread = w.instructions }

-- the start of a program
abbrev pub first_watched : Header → Unread → Watched
first_watched h unread = record { row = initial h.parameters; gave_row = false; unread = unread }

-- whether the sequence gave a row, after an instruction that is executed on these registers
abbrev pub gave_after : Ins → LineRow → Bool → Bool
gave_after i row gave =
    if is_end i then false else ((makes_row i && not row.tombstone) || gave)

-- an instruction ends a sequence under a tombstone that gave a row
abbrev pub hides : Ins → LineRow → Bool → Bool
hides i row gave = is_end i && row.tombstone && gave

-- none of these instructions does
abbrev pub none_hides : Parameters → LineRow → Bool → List Ins → Bool
none_hides parameters row gave [] = true
none_hides parameters row gave (i ∷ list) =
    if hides i row gave then false
    else none_hides parameters (next_registers parameters i row) (gave_after i row gave) list

-- none of those that are unread does
abbrev pub none_left_hides : Header → Watched → Bool
none_left_hides h w =
    none_hides h.parameters w.row w.gave_row (decoded_at w.unread.layout h w.unread.bytes).0

-- what a step says: nothing is unread, or whether its instruction does
abbrev pub WatchSays : Header → Watched → Watched → Option Bool → Type 0
WatchSays h old new None = none_left_hides h old ≡ true
WatchSays h old new (Some true) = none_left_hides h old ≡ false
WatchSays h old new (Some false) =
    (none_left_hides h old ≡ none_left_hides h new)
    × (length new.unread.bytes < length old.unread.bytes)
