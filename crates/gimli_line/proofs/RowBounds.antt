-- A run gives no more rows and refusals than its program has bytes.
use Rattle.std.specs.Prelude.{◌≡◌, ◌+◌, ◌≤◌, if◌then◌else◌, ◌∷◌}
use Rattle.gimli_line.proofs.Common
use Common.{ℕ, zero, suc, Bool, true, false, List, [], length, Option, Ok, Err, ap, refl, arith, length-append}
use Common.{length-map, OrderAndLimit, Read, Error, AddressOverflow, LineRow, File, Header, Parameters, Ins, makes_row}
use Common.{files_after, decoded_at, decoded_after, overflows, is_refused, step_of, made_step, next_registers}
use Common.{made_from, Event, Events, row, fault, row_at, made_at, end_events, EventWithFiles, with_files, made_after}
use Common.{is_given, given_of, files_at, program_made, Makes, EventsWithFiles, RunState, made_left, events_left}
use Rattle.gimli_line.specs.run.InstructionGrammar.{Decodes}
use Rattle.gimli_line.specs.run.InstructionGrammar.{decoded_upto}
use Rattle.gimli_line.proofs.InstructionLaws.{one_decoding}

-- ---- no more events than instructions, and one more at a refused end

one_at_most : (overflow made : Bool) (r : LineRow)
    → length (if overflow then fault AddressOverflow ∷ [] else (if made then row r ∷ [] else [])) ≤ 1
one_at_most true made r = omega arith
one_at_most false true r = omega arith
one_at_most false false r = omega arith

length_with_files : (files : List File) (events : List Event) → length (with_files files events) ≡ length events
length_with_files files events = grind (arith, length-map)

few_after : (parameters : Parameters) (files : List Ins → List File) (past list : List Ins) (end : Option Error)
    → length (made_after parameters files past list end) ≤ length list + length (end_events end)
few_after parameters files past [] end = grind (arith)
few_after parameters files past (i ∷ list) end =
    let here = made_at parameters past i in
    omega (
      arith,
      length-append (with_files (files past) here) (made_after parameters files (i ∷ past) list end),
      length_with_files (files past) here,
      one_at_most (overflows parameters past i) (makes_row i) (row_at parameters past i),
      few_after parameters files (i ∷ past) list end,
    )

few_from : (appends : Bool) (parameters : Parameters) (r : LineRow) (files : List File) (list : List Ins)
    (end : Option Error)
    → length (made_from appends parameters r files list end) ≤ length list + length (end_events end)
few_from appends parameters r files [] end = omega (arith, length_with_files files (end_events end))
few_from appends parameters r files (i ∷ list) end =
    let here = made_step parameters i r in
    let later = made_from appends parameters (next_registers parameters i r) (files_after appends i files) list end in
    omega (
      arith,
      length-append (with_files files here) later,
      length_with_files files here,
      one_at_most (is_refused parameters i r) (makes_row i) (step_of parameters i r),
      few_from appends parameters (next_registers parameters i r) (files_after appends i files) list end,
    )

few_given : (events : List EventWithFiles) → length (given_of events) ≤ length events
few_given [] = omega arith
few_given (e ∷ events) = by (is_given e.event) (few_given events)
  where
    by : (b : Bool) → length (given_of events) ≤ length events
        → length (if b then e ∷ given_of events else given_of events) ≤ suc (length events)
    by true few = omega (arith)
    by false few = omega (arith)

-- ---- no more instructions than bytes; where the end is refused, a byte is left for it

module _ (layout : OrderAndLimit) (h : Header) where
  upto_bounded : (more : ℕ) (bytes : List ℕ)
      → length (decoded_upto layout h more bytes).0 + length (end_events (decoded_upto layout h more bytes).1)
      ≤ more
  unfolding decoded_upto
  upto_bounded zero bytes = omega arith
  upto_bounded (suc more) [] = omega arith
  upto_bounded (suc more) (b ∷ bytes) = after (λ rest. upto_bounded _ _) _
    where
      after : ((rest : List ℕ)
          → length (decoded_upto layout h more rest).0 + length (end_events (decoded_upto layout h more rest).1)
          ≤ more)
          → (r : Read Ins)
          → length (decoded_after layout h (decoded_upto layout h more) r).0
          + length (end_events (decoded_after layout h (decoded_upto layout h more) r).1)
          ≤ suc more
      after bound (Ok i, rest) = omega (arith, bound rest)
      after bound (Err e, rest) = omega arith

  taken_bounded : (bytes : List ℕ)
      → length (decoded_at layout h bytes).0 + length (end_events (decoded_at layout h bytes).1) ≤ length bytes
  taken_bounded bytes = upto_bounded _ _

  decoded_bounded : (bytes : List ℕ) (list : List Ins) (end : Option Error) → Decodes layout h bytes list end
      → length list + length (end_events end) ≤ length bytes
  decoded_bounded bytes list end c =
      let same : length list + length (end_events end)
      ≡ length (decoded_at layout h bytes).0 + length (end_events (decoded_at layout h bytes).1) =
      ap (λ (p : List Ins × Option Error). length p.0 + length (end_events p.1))
      (one_decoding layout h bytes list end c) in
      omega (arith, taken_bounded bytes)

  -- ---- no more events than bytes

  pub made_bounded : (appends : Bool) (bytes : List ℕ) (events : List EventWithFiles)
      → Makes layout appends h bytes events → length events ≤ length bytes
  made_bounded appends bytes events m = omega (
    arith,
    ap length m.made,
    few_after h.parameters (files_at appends h.files) [] m.list m.end,
    decoded_bounded bytes m.list m.end m.decoding,
  )

  pub events_bounded : (bytes : List ℕ) (events : List Event) → Events layout h bytes events
      → length events ≤ length bytes
  events_bounded bytes events given =
      let made = made_after h.parameters (λ before. []) [] given.list given.end in
      omega (
        arith,
        ap length given.given,
        length-map (given_of made) (λ t. t.event),
        few_given made,
        few_after h.parameters (λ before. []) [] given.list given.end,
        decoded_bounded bytes given.list given.end given.decoding,
      )

  pub with_files_bounded : (appends : Bool) (bytes : List ℕ) (events : List EventWithFiles)
      → EventsWithFiles layout appends h bytes events
      → length events ≤ length bytes
  with_files_bounded appends bytes events given =
      let made = program_made appends h given.list given.end in
      omega (
        arith,
        ap length given.given,
        few_given made,
        made_bounded appends bytes made
            (record { list = given.list; end = given.end; decoding = given.decoding; made = refl }),
      )

pub made_left_bounded : (rows : RunState) → length (made_left rows) ≤ length rows.unread.bytes
made_left_bounded rows = grind (arith, few_from, taken_bounded)

pub left_bounded : (rows : RunState) → length (events_left rows) ≤ length rows.unread.bytes
left_bounded rows = grind (arith, few_given, made_left_bounded)
