-- Worked indexes: what the definitions say of bytes that were written by hand.
use Rattle.std.proofs.Common.{◌≡◌, ◌+◌, ◌*◌, ℕ, Bool, true, false, List, [], ◌∷◌, ◌++◌, Option, Some, None, Result, Ok}
use Rattle.std.proofs.Common.{Err, refl}
use Rattle.std.specs.Prelude.{replicate, take, slice_set}
use Rattle.gimli_core.specs.Reading.{result_map}
use Rattle.gimli_line.specs.declared.run.row.LineRow.{LineRow}
use Rattle.gimli_lookup.specs.Statements.{addresses_in}
use Rattle.gimli_index.specs.Parts.{index_at}
use Rattle.gimli_lookup.specs.ProgramPaths.{Texts}
use Rattle.gimli_index.specs.Lines.{addresses_of}
use Rattle.gimli_index.specs.Meaning.{Place, Start, place_at, starts_of, statements_of}
use Rattle.gimli_index.specs.Meaning.{Statement as StatementMeaning}
use Rattle.gimli_index.specs.Order.{name_at, path_number}
use Rattle.gimli_index.specs.Ranges.{ranges_of}
use Rattle.gimli_index.specs.inside.Begun.{begun}
use Rattle.gimli_index.specs.inside.Turns.{starts_of_rows}
use Rattle.gimli_index.specs.declared.error.IndexError.{IndexError}
use Rattle.gimli_index.specs.declared.error.IndexError.TheVariants.{NotIndex, HeaderCut, Version, AddressSize}
use Rattle.gimli_index.specs.declared.error.IndexError.TheVariants.{StartSize, Base, Cut}
use Rattle.gimli_index.specs.declared.place.NoPath.TheVariants.{Reason, Outside}

-- what an index says
abbrev starts_in : List ℕ → Result (List Start) IndexError
starts_in bytes = result_map starts_of (index_at bytes)

-- what it says of an address
abbrev place_in : ℕ → List ℕ → Result (Option Place) IndexError
place_in a bytes = result_map (place_at a) (starts_in bytes)

-- ---- starts of 4 bytes above 0x401000: three starts, two sources, two statements, paths of 5 bytes, an identity of 2

abbrev header_4 : List ℕ
header_4 =
    0x4c ∷ 0x49 ∷ 0x4e ∷ 0x45 ∷ 0x49 ∷ 0x44 ∷ 0x58 ∷ 0 ∷ 2 ∷ 0 ∷ 0 ∷ 0 ∷ 8 ∷ 0 ∷ 4 ∷ 0
    ∷ 0 ∷ 0x10 ∷ 0x40 ∷ 0 ∷ 0 ∷ 0 ∷ 0 ∷ 0 ∷ 3 ∷ 0 ∷ 0 ∷ 0 ∷ 2 ∷ 0 ∷ 0 ∷ 0 ∷ 5 ∷ 0 ∷ 0 ∷ 0 ∷ 2 ∷ 0 ∷ 0 ∷ 0
    ∷ 2 ∷ 0 ∷ 0 ∷ 0 ∷ 0 ∷ 0 ∷ 0 ∷ 0 ∷ []

-- /a.c of the unit at 0, whose name has the number 0x17216, and a file of the unit at 0x123 whose header has no such
-- file: its name has the number 0
abbrev sources_4 : List ℕ
sources_4 =
    replicate 8 0 ++ 0 ∷ 0 ∷ 0 ∷ 0 ∷ 4 ∷ 0 ∷ 0 ∷ 0 ∷ 0 ∷ 0 ∷ 0 ∷ 0 ∷ 0x16 ∷ 0x72 ∷ 1 ∷ 0
    ∷ 0x23 ∷ 1 ∷ replicate 14 0 ++ 7 ∷ replicate 7 0

-- at 0x401000 line 3 of the first, column 5, where a prologue ends; at 0x401010 nothing; at 0x401120 line 258 of the
-- second, a statement
abbrev starts_4 : List ℕ
starts_4 = 0 ∷ 0 ∷ 0 ∷ 0 ∷ 0x10 ∷ 0 ∷ 0 ∷ 0 ∷ 0x20 ∷ 1 ∷ 0 ∷ 0 ∷ []

abbrev entries_4 : List ℕ
entries_4 =
    0 ∷ 0 ∷ 0 ∷ 0 ∷ 3 ∷ 0 ∷ 0 ∷ 0 ∷ 5 ∷ 0 ∷ 0 ∷ 0x40
    ∷ 0xff ∷ 0xff ∷ 0xff ∷ 0xff ∷ replicate 8 0
    ++ 1 ∷ 0 ∷ 0 ∷ 0 ∷ 2 ∷ 1 ∷ 0 ∷ 0 ∷ 0 ∷ 0 ∷ 0 ∷ 0x80 ∷ []

-- line 258 of the second at 0x401120, and line 4 of the first at 0x401008: the number of its name is the higher one
abbrev statements_4 : List ℕ
statements_4 =
    1 ∷ 0 ∷ 0 ∷ 0 ∷ 2 ∷ 1 ∷ 0 ∷ 0 ∷ 0x20 ∷ 1 ∷ 0 ∷ 0
    ∷ 0 ∷ 0 ∷ 0 ∷ 0 ∷ 4 ∷ 0 ∷ 0 ∷ 0 ∷ 8 ∷ 0 ∷ 0 ∷ 0 ∷ []

abbrev path_4 : List ℕ
path_4 = 0x2f ∷ 0x61 ∷ 0x2e ∷ 0x63 ∷ []

abbrev paths_4 : List ℕ
paths_4 = path_4 ++ 0 ∷ []

abbrev index_4 : List ℕ
index_4 = header_4 ++ sources_4 ++ starts_4 ++ entries_4 ++ statements_4 ++ paths_4 ++ 0xab ∷ 0xcd ∷ []

abbrev first_place : Place
first_place = record { path = Ok path_4; line = 3; column = 5; is_stmt = false; prologue_end = true; unit = 0 }

abbrev second_place : Place
second_place = record {
  path = Err (Reason 7);
  line = 258;
  column = 0;
  is_stmt = true;
  prologue_end = false;
  unit = 0x123;
}

pub three_starts : starts_in index_4 ≡ Ok (
    record { address = 0x40_1000; place = Some first_place }
    ∷ record { address = 0x40_1010; place = None }
    ∷ record { address = 0x40_1120; place = Some second_place }
    ∷ [])
three_starts = refl

-- the identity comes last, and what follows the index isn't looked at
pub identity_4 : result_map (λ index. index.identity) (index_at (index_4 ++ 0xff ∷ [])) ≡ Ok (0xab ∷ 0xcd ∷ [])
identity_4 = refl

pub two_statements : result_map statements_of (index_at index_4) ≡ Ok (
    record { path = Err (Reason 7); line = 258; address = 0x40_1120 }
    ∷ record { path = Ok path_4; line = 4; address = 0x40_1008 }
    ∷ [])
two_statements = refl

pub name_in_source : result_map (λ index. name_at index 0) (index_at index_4) ≡ Ok 0x1_7216
name_in_source = refl

-- the number of a.c: 97, 46 and 99
pub number_of_name : path_number (Ok path_4) ≡ (97 * 31 + 46) * 31 + 99
number_of_name = refl

pub number_in_hex : path_number (Ok path_4) ≡ 0x1_7216
number_in_hex = refl

-- an address is of the last start that isn't above it
pub at_start : place_in 0x40_1000 index_4 ≡ Ok (Some first_place)
at_start = refl

pub before_gap : place_in 0x40_100f index_4 ≡ Ok (Some first_place)
before_gap = refl

pub in_gap : place_in 0x40_1010 index_4 ≡ Ok None
in_gap = refl

pub past_gap : place_in 0x40_1120 index_4 ≡ Ok (Some second_place)
past_gap = refl

-- before the first start nothing holds, and after the last one goes on
pub below_all : place_in 0x40_0fff index_4 ≡ Ok None
below_all = refl

pub above_all : place_in 0xffff_ffff_ffff_ffff index_4 ≡ Ok (Some second_place)
above_all = refl

-- ---- starts of 8 bytes: one, and a statement there, whose source has a path of 4 bytes, which no zero byte follows

abbrev index_8 : List ℕ
index_8 =
    take 14 header_4 ++ 8 ∷ 0 ∷ replicate 8 0 ++ 1 ∷ 0 ∷ 0 ∷ 0 ∷ 1 ∷ 0 ∷ 0 ∷ 0 ∷ 4 ∷ 0 ∷ 0 ∷ 0 ∷ 0 ∷ 0 ∷ 0 ∷ 0
    ∷ 1 ∷ 0 ∷ 0 ∷ 0 ∷ replicate 12 0 ++ 0 ∷ 0 ∷ 0 ∷ 0 ∷ 4 ∷ 0 ∷ 0 ∷ 0 ∷ replicate 8 0
    ++ 1 ∷ 0 ∷ 0 ∷ 0 ∷ 0 ∷ 0 ∷ 0 ∷ 0x80
    ∷ 0 ∷ 0 ∷ 0 ∷ 0 ∷ 1 ∷ 0 ∷ 0 ∷ 0 ∷ 0 ∷ 0 ∷ 0 ∷ 0xc0
    ∷ 0 ∷ 0 ∷ 0 ∷ 0 ∷ 1 ∷ 0 ∷ 0 ∷ 0 ∷ 1 ∷ 0 ∷ 0 ∷ 0 ∷ 0 ∷ 0 ∷ 0 ∷ 0x80 ∷ path_4

pub high_start : starts_in index_8 ≡ Ok (
    record {
      address = 0x8000_0000_0000_0001;
      place = Some (record {
        path = Err Outside;
        line = 1;
        column = 0;
        is_stmt = true;
        prologue_end = true;
        unit = 0;
      });
    }
    ∷ [])
high_start = refl

pub high_statement : result_map statements_of (index_at index_8) ≡ Ok (
    record { path = Err Outside; line = 1; address = 0x8000_0000_0000_0001 } ∷ [])
high_statement = refl

-- ---- refusals

pub not_index : starts_in (slice_set index_4 7 1) ≡ Err NotIndex
not_index = refl

pub short_magic : starts_in (take 7 index_4) ≡ Err NotIndex
short_magic = refl

pub short_header : starts_in (take 47 index_4) ≡ Err HeaderCut
short_header = refl

pub version_1 : starts_in (slice_set index_4 8 1) ≡ Err (Version 1)
version_1 = refl

pub address_size_3 : starts_in (slice_set index_4 12 3) ≡ Err (AddressSize 3)
address_size_3 = refl

pub start_size_2 : starts_in (slice_set index_4 14 2) ≡ Err (StartSize 2)
start_size_2 = refl

-- a base that isn't 0, where starts have 8 bytes
pub base_1 : starts_in (slice_set index_8 16 1) ≡ Err (Base 1)
base_1 = refl

-- the highest base where they have 4, and the one above it
pub highest : starts_in (take 16 header_4 ++ 0 ∷ 0 ∷ 0 ∷ 0 ∷ 0xff ∷ 0xff ∷ 0xff ∷ 0xff ∷ replicate 24 0) ≡ Ok []
highest = refl

pub above_highest : starts_in (take 16 header_4 ++ 1 ∷ 0 ∷ 0 ∷ 0 ∷ 0xff ∷ 0xff ∷ 0xff ∷ 0xff ∷ replicate 24 0)
    ≡ Err (Base 0xffff_ffff_0000_0001)
above_highest = refl

pub cut : starts_in (take 174 index_4) ≡ Err Cut
cut = refl

pub whole : result_map (λ index. index.starts) (index_at (take 175 index_4)) ≡ Ok 3
whole = refl

-- ---- optimised code: lines 10 and 11 at 0x1000, line 12 at 0x1004, and an end at 0x1008. No code is between the first
-- two rows, and both are statements: so code of both lines begins at 0x1000 (DWARF 5, section 6.2.2, is_stmt),
-- and the second row holds there

abbrev row_at : ℕ → ℕ → Bool → LineRow
row_at address line end = record {
  tombstone = false;
  address = address;
  op_index = 0;
  file = 1;
  line = line;
  column = 0;
  is_stmt = true;
  basic_block = false;
  end_sequence = end;
  prologue_end = false;
  epilogue_begin = false;
  isa = 0;
  discriminator = 0;
}

abbrev optimised_rows : List LineRow
optimised_rows = row_at 0x1000 10 false ∷ row_at 0x1000 11 false ∷ row_at 0x1004 12 false ∷ row_at 0x1008 12 true ∷ []

pub rows_of_line_10 : addresses_in (λ file. true) 10 optimised_rows ≡ 0x1000 ∷ []
rows_of_line_10 = refl

-- the starts of such rows, of a file whose path isn't known
abbrev unknown : ℕ → Option Place
unknown line =
    Some (record {
      path = Err (Reason 8);
      line = line;
      column = 0;
      is_stmt = true;
      prologue_end = false;
      unit = 0;
    })

pub starts_of_optimised : (t : Texts)
    → starts_of_rows t (record { offset = 0; header = None; fault = None; first = 0; end = 0 }) optimised_rows ≡
    record { address = 0x1000; place = unknown 10 }
    ∷ record { address = 0x1000; place = unknown 11 }
    ∷ record { address = 0x1004; place = unknown 12 }
    ∷ record { address = 0x1008; place = None }
    ∷ []
starts_of_optimised t = refl

-- and their statements
pub statements_of_optimised : (t : Texts)
    → begun t (record { offset = 0; header = None; fault = None; first = 0; end = 0 }) None optimised_rows ≡
    record { path = Err (Reason 8); line = 10; address = 0x1000 }
    ∷ record { path = Err (Reason 8); line = 11; address = 0x1000 }
    ∷ record { path = Err (Reason 8); line = 12; address = 0x1004 }
    ∷ []
statements_of_optimised t = refl

-- the same of /a.c
abbrev of_line : ℕ → Option Place
of_line line =
    Some (record {
      path = Ok path_4;
      line = line;
      column = 0;
      is_stmt = true;
      prologue_end = false;
      unit = 0;
    })

abbrev optimised : List Start
optimised =
    record { address = 0x1000; place = of_line 10 }
    ∷ record { address = 0x1000; place = of_line 11 }
    ∷ record { address = 0x1004; place = of_line 12 }
    ∷ record { address = 0x1008; place = None }
    ∷ []

abbrev begins : ℕ → ℕ → StatementMeaning
begins line address = record { path = Ok path_4; line = line; address = address }

abbrev optimised_statements : List StatementMeaning
optimised_statements = begins 10 0x1000 ∷ begins 11 0x1000 ∷ begins 12 0x1004 ∷ []

pub line_10 : addresses_of path_4 optimised_statements 10 ≡ 0x1000 ∷ []
line_10 = refl

pub line_11 : addresses_of path_4 optimised_statements 11 ≡ 0x1000 ∷ []
line_11 = refl

pub line_12 : addresses_of path_4 optimised_statements 12 ≡ 0x1004 ∷ []
line_12 = refl

-- the last start of an address holds there
pub last_holds : place_at 0x1000 optimised ≡ of_line 11
last_holds = refl

pub three_ranges : ranges_of optimised ≡
    record { start = 0x1000; end = Some 0x1004; place = of_line 11 }
    ∷ record { start = 0x1004; end = Some 0x1008; place = of_line 12 }
    ∷ record { start = 0x1008; end = None; place = None }
    ∷ []
three_ranges = refl

-- ---- two sequences that overlap: line 10 from 0x1000 up to 0x1010, and in an earlier unit line 20 from 0x1004 up to
-- 0x1008. What is found begins anew at 0x1008, but line 10 begins at 0x1000 alone

abbrev overlapped : List StatementMeaning
overlapped = begins 20 0x1004 ∷ begins 10 0x1000 ∷ []

pub begins_once : addresses_of path_4 overlapped 10 ≡ 0x1000 ∷ []
begins_once = refl

pub row_begins_once : addresses_in (λ file. true) 10 (row_at 0x1000 10 false ∷ row_at 0x1010 10 true ∷ []) ≡ 0x1000 ∷ []
row_begins_once = refl

-- the addresses of a line ascend, each once
pub in_ascending_order : addresses_of path_4 (begins 10 0x2000 ∷ begins 10 0x1000 ∷ begins 10 0x2000 ∷ []) 10
    ≡ 0x1000 ∷ 0x2000 ∷ []
in_ascending_order = refl
