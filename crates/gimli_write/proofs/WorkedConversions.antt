-- Conversions of a few programs, worked out by hand (DWARF 4, section 6.2.5): what is read, and what is built of it.
use Rattle.std.specs.Prelude.{◌≡◌, ◌+◌, ◌-◌, ◌*◌, ◌^◌, ◌<◌, ◌≤◌, if◌then◌else◌, ◌∷◌}
use Rattle.gimli_write.proofs.Common
use Common.{ℕ, true, false, List, [], negsuc, refl, pos, Option, Some, None, Result, Ok, Err, Address}
use Common.{Constant, Copy, AdvancePc, AdvanceLine, SetFile, FixedAddPc, EndSequence, SetAddress, Parameters, Ins}
use Common.{empty_built, Inline, no_details, LineRow, BuiltItem, ConvertError, InvalidFileIndex, InvalidAddress}
use Common.{MissingLineEndSequence, UnsupportedLineInstruction, TablesAndTexts, Reading, reading_after, outcome_of}
use Rattle.gimli_core.specs.declared.common.Format.TheVariants.{Dwarf32}
use Common.{map, nat_le, subst, arith, pending_address}
use Rattle.gimli_write.specs.convert.Mapped.{NoneEndsUnderTombstone}
use Rattle.gimli_write.specs.convert.Moved
use Moved.{source_rows, moved, moved_address, moved_rows, moved_to, IsInOrder, AreInOrder}
use Rattle.gimli_build.specs.declared.built.items.BuiltItem.TheVariants as item

-- a source of version 4 with addresses of 4 bytes, whose instructions have this length at least
abbrev source : ℕ → Parameters
source length = record {
  encoding = record { address_size = 4; format = Dwarf32; version = 4 };
  line_encoding = record {
    minimum_instruction_length = length;
    maximum_operations_per_instruction = 1;
    default_is_stmt = true;
    line_base = negsuc 4;
    line_range = 14;
  };
  opcode_base = 13;
}

-- its directory is /w, and its file a.c there
abbrev tables : ℕ → TablesAndTexts
tables length = record {
  program =
      empty_built false (source length).encoding (source length).line_encoding (Inline (47 ∷ 119 ∷ []) ∷ [])
      (((Inline (97 ∷ 46 ∷ 99 ∷ []), 0), no_details) ∷ []);
  directory_ids = 0 ∷ [];
  file_ids = 0 ∷ 0 ∷ [];
  line_strings = [];
}

abbrev read : ℕ → List Ins → Reading
read length list =
    reading_after (record { strings = []; line_strings = [] }) (source length) (tables length) [] list None

-- what is built, where addresses are mapped so
abbrev items_of : (ℕ → Option Address) → ℕ → List Ins → Result (List BuiltItem) ConvertError
items_of convert_address length list = elim (outcome_of convert_address (read length list) (tables length).program) [
  | Ok c ↦ Ok c.program.items
  | Err e ↦ Err e
]

abbrev itself : ℕ → Option Address
itself a = Some (Constant a)

abbrev a_row : ℕ → ℕ → LineRow
a_row offset line = record {
  address_offset = offset;
  op_index = 0;
  file = 0;
  line = line;
  column = 0;
  discriminator = 0;
  is_statement = true;
  basic_block = false;
  prologue_end = false;
  epilogue_begin = false;
  isa = 0;
}

-- an address and then an end
address_and_end : items_of itself 1 (SetAddress 16 ∷ EndSequence ∷ [])
    ≡ Ok (item.SetAddress (Constant 16) ∷ item.End 0 0 ∷ [])
address_and_end = refl

-- an address in mid-sequence: what was advanced before it counts for nothing
mid_sequence : items_of itself 1
    (SetAddress 16 ∷ Copy ∷ AdvancePc 4 ∷ SetAddress 32 ∷ Copy ∷ AdvancePc 4 ∷ EndSequence ∷ [])
    ≡ Ok (item.SetAddress (Constant 16) ∷ item.Row (a_row 0 1) ∷ item.SetAddress (Constant 32) ∷ item.Row (a_row 0 1)
    ∷ item.End 4 0 ∷ [])
mid_sequence = refl

-- an address that goes back is a tombstone for a row, up to one that doesn't; its sequence ends seen
row_under_tombstone : items_of itself 1
    (SetAddress 16 ∷ Copy ∷ SetAddress 8 ∷ AdvanceLine (pos 1) ∷ Copy ∷ SetAddress 32 ∷ AdvanceLine (pos 1) ∷ Copy
    ∷ EndSequence ∷ [])
    ≡ Ok (item.SetAddress (Constant 16) ∷ item.Row (a_row 0 1) ∷ item.SetAddress (Constant 32) ∷ item.Row (a_row 0 3)
    ∷ item.End 0 0 ∷ [])
row_under_tombstone = refl

row_under_tombstone_seen : NoneEndsUnderTombstone (source 1) []
    (SetAddress 16 ∷ Copy ∷ SetAddress 8 ∷ AdvanceLine (pos 1) ∷ Copy ∷ SetAddress 32 ∷ AdvanceLine (pos 1) ∷ Copy
    ∷ EndSequence ∷ [])
row_under_tombstone_seen = (
  λ e h. absurd cc,
  (
    λ e h. absurd cc,
    (
      λ e h. absurd cc,
      (
        λ e h. absurd cc,
        (λ e h. absurd cc, (λ e h. absurd cc, (λ e h. absurd cc, (λ e h. absurd cc, (λ e h. absurd cc, tt))))),
      ),
    ),
  ),
)

-- a sequence of which all is under a tombstone gives nothing
all_under_tombstone : items_of itself 1 (SetAddress 4294967294 ∷ Copy ∷ EndSequence ∷ []) ≡ Ok []
all_under_tombstone = refl

-- one that gave a row and ends under a tombstone stays open
ends_under_tombstone : items_of itself 1 (SetAddress 16 ∷ Copy ∷ SetAddress 4294967295 ∷ EndSequence ∷ [])
    ≡ Err MissingLineEndSequence
ends_under_tombstone = refl

unseen_end_under_tombstone : NoneEndsUnderTombstone (source 1) []
    (SetAddress 16 ∷ Copy ∷ SetAddress 4294967295 ∷ EndSequence ∷ []) → ⊥
unseen_end_under_tombstone seen = let open_sequence = seen.1.1.1.0 refl refl in absurd cc

-- ---- addresses that move

-- two functions of four bytes, side by side; the first has an address in mid-sequence
abbrev two_functions : List Ins
two_functions =
    SetAddress 16 ∷ Copy ∷ SetAddress 18 ∷ Copy ∷ AdvancePc 2 ∷ EndSequence ∷ SetAddress 20 ∷ Copy ∷ AdvancePc 4
    ∷ EndSequence ∷ []

-- the first goes behind the second, and its parts away from each other
abbrev apart : ℕ → Option Address
apart a =
    if nat_le a 16 then Some (Constant 4096)
    else (if nat_le a 18 then Some (Constant 5000) else Some (Constant (a + 100)))

addresses_apart : map (λ r. r.address) (moved_rows apart (source 1) [] two_functions)
    ≡ 4096 ∷ 5000 ∷ 5002 ∷ 120 ∷ 124 ∷ []
addresses_apart = refl

addresses_before : map (λ r. r.address) (source_rows (source 1) [] two_functions) ≡ 16 ∷ 18 ∷ 20 ∷ 20 ∷ 24 ∷ []
addresses_before = refl

-- what is asked at a row after the set address a, which goes to `to`, or after none
after_set : {past : List Ins} {i : Ins} (a before to there : ℕ) → pending_address past ≡ Some a
    → moved_to apart (source 1) past ≡ before → moved apart a ≡ to → moved_address apart (source 1) past i ≡ there
    → before ≤ to → to < 4294967294 → there < 4294967296 → IsInOrder apart (source 1) 4 past i
after_set {past} {i} a before to there pending left goes is ahead below fits = record {
  ahead = λ b also.
      let same : a ≡ b = cc in
      subst (λ b. (moved_to apart (source 1) past ≤ moved apart b) × (moved apart b < 2 ^ (8 * 4) - 2)) same
      (omega (arith, left, goes, ahead), omega (arith, goes, below));
  fits = omega (arith, is, fits);
}

after_none : {past : List Ins} {i : Ins} (there : ℕ) → pending_address past ≡ None
    → moved_address apart (source 1) past i ≡ there → there < 4294967296 → IsInOrder apart (source 1) 4 past i
after_none {past} {i} there none is fits = record { ahead = λ b also. absurd cc; fits = omega (arith, is, fits) }

in_order_apart : AreInOrder apart (source 1) 4 [] two_functions
in_order_apart = (
  λ g. absurd cc,
  (
    λ g. after_set 16 0 4096 4096 refl refl refl refl (omega arith) (omega arith) (omega arith),
    (
      λ g. absurd cc,
      (
        λ g. after_set 18 4096 5000 5000 refl refl refl refl (omega arith) (omega arith) (omega arith),
        (
          λ g. absurd cc,
          (
            λ g. after_none 5002 refl refl (omega arith),
            (
              λ g. absurd cc,
              (
                λ g. after_set 20 0 120 120 refl refl refl refl (omega arith) (omega arith) (omega arith),
                (λ g. absurd cc, (λ g. after_none 124 refl refl (omega arith), tt)),
              ),
            ),
          ),
        ),
      ),
    ),
  ),
)

-- a map that moves the second part of a function below the first doesn't keep the order
abbrev turned : ℕ → Option Address
turned a = if nat_le a 16 then Some (Constant 4096) else Some (Constant a)

out_of_order : AreInOrder turned (source 1) 4 [] two_functions → ⊥
out_of_order order =
    let ahead : (4096 ≤ 18) × (18 < 2 ^ (8 * 4) - 2) = (order.1.1.1.0 refl).ahead 18 refl in omega (arith, ahead.0)

-- ---- refusals

no_end : items_of itself 1 (Copy ∷ []) ≡ Err MissingLineEndSequence
no_end = refl

no_such_file : items_of itself 1 (SetFile 9 ∷ Copy ∷ EndSequence ∷ []) ≡ Err InvalidFileIndex
no_such_file = refl

odd_address : items_of itself 2 (FixedAddPc 1 ∷ Copy ∷ EndSequence ∷ []) ≡ Err UnsupportedLineInstruction
odd_address = refl

no_address : items_of (λ a. None) 1 (SetAddress 16 ∷ Copy ∷ EndSequence ∷ []) ≡ Err InvalidAddress
no_address = refl
