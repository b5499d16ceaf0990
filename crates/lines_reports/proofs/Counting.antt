-- Counting pieces.
use Rattle.std.proofs.Common.{◌≡◌, ◌≢◌, ℕ, ◌+◌, ◌-◌, ◌<◌, Bool, true, false, if◌then◌else◌, List, []}
use Rattle.std.proofs.Common.{◌∷◌, ◌++◌, length, sum, map, refl, sym}
use Rattle.std.proofs.Common.{ap, ◌∙◌, subst}
use Rattle.std.proofs.Common.{append_assoc, arith, inl, inr}
use Rattle.std.specs.Prelude.{nat_eq, slice_index_or, slice_set, Option, Some, None, Result, Ok, Err, OnOk, OnErr}
use Rattle.std.specs.Prelude.{IfErr}
use Rattle.std.proofs.lemmas.Bool.{eqb-true, eqb-false}
use Rattle.std.proofs.lemmas.List.{get_or-set_same, get_or-set_other, length-append, append-nil}
use Rattle.std.proofs.lemmas.List.Sums.{sum-map, sum_by-cons}
use Rattle.gimli_core.specs.Layout.{OrderAndLimit}
use Rattle.gimli_core.specs.declared.error.Error.{Error}
use Rattle.gimli_line.specs.header.Header.{Header}
use Rattle.gimli_line.specs.run.Instruction.{Ins}
use Rattle.gimli_line.specs.run.InstructionGrammar.{SpellsInstruction, instruction_production}
use Rattle.gimli_line.specs.run.InstructionGrammar.{TakesNext}
use Rattle.gimli_line.specs.run.Unread.{Unread as Instructions}
use Rattle.lines_reports.specs.Pieces.{Piece, all_bytes, instruction_piece, opcode_size, plain_piece, ArePieces}
use Rattle.lines_reports.specs.Spent.{number, spent_on}
use Rattle.lines_reports.specs.declared.sizes.InstructionBytes.{InstructionBytes}
use Rattle.lines_reports.specs.Tally.{share_of, no_share, with_piece, counted, Counts}
use Rattle.lines_reports.specs.declared.spent.Spent.{Spent}
use Rattle.lines_reports.specs.declared.spent.Spent.TheVariants.{Unread}
use Rattle.lines_reports.specs.declared.tally.Share.{Share}
use Rattle.lines_reports.specs.declared.tally.Tally.{Tally}
use Rattle.lines_reports.specs.inside.Progress.{AreCounted}
use Rattle.lines_reports.proofs.Passing.{opcode_within}

ok_same : {A E : Type 0} {a b : A} → ◌≡◌ {A = Result A E} (Ok a) (Ok b) → a ≡ b
ok_same e = cc

no_bytes : (bytes : List ℕ) → length bytes ≡ 0 → bytes ≡ []
no_bytes [] is = refl
no_bytes (b ∷ bytes) is = absurd (omega (arith, is))

-- ---- one piece

-- the place of one kind has one share more, and each other is as it was
pub one_share : (shares : List Share) (kind own : ℕ) (share : Share) → own < length shares
    → slice_index_or (slice_set shares own share) kind no_share
    ≡ (if nat_eq kind own then share else slice_index_or shares kind no_share)
one_share shares kind own share lt = at_test (nat_eq kind own) refl
  where
    at_test : (test : Bool) → nat_eq kind own ≡ test
        → slice_index_or (slice_set shares own share) kind no_share
        ≡ (if test then share else slice_index_or shares kind no_share)
    at_test true is = rw (eqb-true kind own is) (get_or-set_same shares own share no_share lt)
    at_test false is = get_or-set_other shares own kind share no_share (eqb-false kind own is)

-- a tally whose place of a kind has one piece more
pub one_piece : (old new : Tally) (kind : Spent) (bytes operands own : ℕ) (share : Share) → own ≡ number kind
    → own < length old.shares
    → new.shares ≡ slice_set old.shares own share
    → share
    ≡ with_piece (slice_index_or old.shares own no_share) (record { kind = kind; bytes = bytes; operands = operands })
    → Counts old (record { kind = kind; bytes = bytes; operands = operands } ∷ []) new
one_piece old new kind bytes operands own share is lt set with other =
    ap (λ (shares : List Share). slice_index_or shares (number other) no_share) set
    ∙ one_share old.shares (number other) own share lt
    ∙ at_test (nat_eq (number other) own) refl
    ∙ ap (λ (n : ℕ). if nat_eq (number other) n then with_piece (share_of old other) piece else share_of old other) is
  where
    piece : Piece
    piece = record { kind = kind; bytes = bytes; operands = operands }

    at_test : (test : Bool) → nat_eq (number other) own ≡ test
        → (if test then share else share_of old other)
        ≡ (if test then with_piece (share_of old other) piece else share_of old other)
    at_test true same =
        with
        ∙ ap (λ (n : ℕ). with_piece (slice_index_or old.shares n no_share) piece)
        (sym (eqb-true (number other) own same))
    at_test false same = refl

-- ---- several pieces

pub counted_both : (kind : Spent) (share : Share) (pieces others : List Piece)
    → counted kind share (pieces ++ others) ≡ counted kind (counted kind share pieces) others
counted_both kind share [] others = refl
counted_both kind share (piece ∷ pieces) others =
    counted_both kind (if nat_eq (number kind) (number piece.kind) then with_piece share piece else share) pieces others

pub counts_both : (old middle new : Tally) (pieces others : List Piece) → Counts old pieces middle
    → Counts middle others new
    → Counts old (pieces ++ others) new
counts_both old middle new pieces others a b kind =
    b kind ∙ ap (λ (share : Share). counted kind share others) (a kind)
    ∙ sym (counted_both kind (share_of old kind) pieces others)

module _ (layout : OrderAndLimit) (h : Header) where
  -- nothing is counted yet
  pub counted_none : (program : List ℕ) (tally : Tally) → AreCounted layout h program tally program tally
  counted_none program tally = record { pieces = []; counts = λ kind. refl; before = λ others are. are }

  -- one instruction more
  pub counted_more : (program rest left front : List ℕ) (i : Ins) (old middle new : Tally) → rest ≡ front ++ left
      → SpellsInstruction layout h front i → AreCounted layout h program old rest middle
      → Counts middle (instruction_piece i front ∷ []) new → AreCounted layout h program old left new
  counted_more program rest left front i old middle new is spells so_far counts = record {
    pieces = so_far.pieces ++ instruction_piece i front ∷ [];
    counts = counts_both old middle new so_far.pieces (instruction_piece i front ∷ []) so_far.counts counts;
    before = λ others are.
        rw (append_assoc so_far.pieces (instruction_piece i front ∷ []) others)
        (so_far.before (instruction_piece i front ∷ others) (inl (i, front, left, is, spells, refl, are)));
  }

  -- the next instruction was read, and its bytes passed over and counted
  pub next_counted : (program rest left : List ℕ) (old middle new : Tally) (before after : Instructions)
      (next : Option Ins) (i : Ins) (kind : Spent)
      (sizes : InstructionBytes) (size : ℕ) → size ≡ length after.bytes → next ≡ Some i → TakesNext h before after next
      → rest ≡ before.bytes
      → before.layout ≡ layout
      → AreCounted layout h program old rest middle
      → ((n : OrderAndLimit) (k : Header) (j : Ins) (front behind : List ℕ) → rest ≡ front ++ behind
      → size ≡ length behind → SpellsInstruction n k front j
      → ◌≡◌ {A = Result InstructionBytes Error} (Ok sizes)
      (Ok (record { opcode = opcode_size front; operands = length front - opcode_size front })))
      → ((n : OrderAndLimit) (k : Header) (j : Ins) (front behind : List ℕ) → rest ≡ front ++ behind
      → size ≡ length behind → SpellsInstruction n k front j
      → left ≡ behind)
      → kind ≡ spent_on i
      → Counts middle (record { kind = kind; bytes = sizes.opcode; operands = sizes.operands } ∷ []) new
      → AreCounted layout h program old left new × (left ≡ after.bytes)
  next_counted program rest left old middle new before after None i kind sizes size long is takes same notes so_far
      counted leaves
      on counts =
      absurd cc
  next_counted program rest left old middle new before after (Some j) i kind sizes size long is takes same notes so_far
      counted
      leaves on counts =
      let one : j ≡ i = cc in
      let front = takes.0 in
      let whole : rest ≡ front ++ after.bytes = same ∙ takes.1 in
      let spells : SpellsInstruction layout h front i =
      subst (λ (n : OrderAndLimit). SpellsInstruction n h front i) notes
      (subst (λ (k : Ins). SpellsInstruction before.layout h front k) one takes.2) in
      let own : sizes ≡ record { opcode = opcode_size front; operands = length front - opcode_size front } =
      ok_same (counted layout h i front after.bytes whole long spells) in
      let behind : left ≡ after.bytes = leaves layout h i front after.bytes whole long spells in
      let piece : ◌≡◌ {A = Piece} (record { kind = kind; bytes = sizes.opcode; operands = sizes.operands })
      (instruction_piece i front) =
      ap (λ (k : Spent). let p : Piece = record { kind = k; bytes = sizes.opcode; operands = sizes.operands } in p) on
      ∙ ap
      (λ (s : InstructionBytes). let p : Piece =
      record { kind = spent_on i; bytes = s.opcode; operands = s.operands } in
      p)
      own in
      let more : AreCounted layout h program old after.bytes new =
      counted_more program rest after.bytes front i old middle new whole spells so_far
      (subst (λ (p : Piece). Counts middle (p ∷ []) new) piece counts) in
      (subst (λ (xs : List ℕ). AreCounted layout h program old xs new) (sym behind) more, behind)

  -- all is counted
  pub counted_end : (program : List ℕ) (old new : Tally) → AreCounted layout h program old [] new
      → (pieces : List Piece) × ArePieces layout h program pieces × Counts old pieces new
  counted_end program old new so_far =
      (so_far.pieces, rw (append-nil so_far.pieces) at (so_far.before [] refl), so_far.counts)

  -- all but what can't be read, and that is counted too
  pub counted_fault : (program rest : List ℕ) (e : Error) (old middle new : Tally)
      → AreCounted layout h program old rest middle
      → (instruction_production layout h).Fault rest e → Counts middle (plain_piece Unread (length rest) ∷ []) new
      → (pieces : List Piece) × ArePieces layout h program pieces × Counts old pieces new
  counted_fault program rest e old middle new so_far fault counts = (
    so_far.pieces ++ plain_piece Unread (length rest) ∷ [],
    so_far.before (plain_piece Unread (length rest) ∷ []) (inr (e, fault, refl, refl)),
    counts_both old middle new so_far.pieces (plain_piece Unread (length rest) ∷ []) so_far.counts counts,
  )

  -- a program up to its end or its fault, and then the bytes that are left
  pub program_counted : (program rest : List ℕ) (old middle new : Tally) (size : ℕ) (result : Result (Unit {0}) Error)
      → AreCounted layout h program old rest middle → OnOk result (rest ≡ [])
      → IfErr result ((instruction_production layout h).Fault rest)
      → OnErr result (rest ≢ []) → size ≡ length rest → (size ≡ 0 → new ≡ middle)
      → (size ≢ 0 → Counts middle (plain_piece Unread size ∷ []) new)
      → (pieces : List Piece) × ArePieces layout h program pieces × Counts old pieces new
  program_counted program rest old middle new size (Ok u) so_far end fault some is none more =
      let nothing : size ≡ 0 = is ∙ ap length end in
      let whole : AreCounted layout h program old [] middle =
      subst (λ (xs : List ℕ). AreCounted layout h program old xs middle) end so_far in
      counted_end program old new
      (subst (λ (t : Tally). AreCounted layout h program old [] t) (sym (none nothing)) whole)
  program_counted program rest old middle new size (Err e) so_far end fault some is none more =
      let left : size ≢ 0 = λ zero. some (no_bytes rest (sym is ∙ zero)) in
      let counts : Counts middle (plain_piece Unread (length rest) ∷ []) new =
      subst (λ (n : ℕ). Counts middle (plain_piece Unread n ∷ []) new) is (more left) in
      counted_fault program rest e old middle new so_far fault counts

  -- ---- all bytes

  one_more : (piece : Piece) (pieces : List Piece)
      → sum (map all_bytes (piece ∷ pieces)) ≡ all_bytes piece + sum (map all_bytes pieces)
  one_more piece pieces =
      sum-map all_bytes (piece ∷ pieces) ∙ sum_by-cons all_bytes piece pieces
      ∙ ap (λ (n : ℕ). all_bytes piece + n) (sym (sum-map all_bytes pieces))

  pub all_are_counted : (bytes : List ℕ) (pieces : List Piece) → ArePieces layout h bytes pieces
      → sum (map all_bytes pieces) ≡ length bytes
  all_are_counted bytes [] are = sym (ap length are)
  all_are_counted bytes (piece ∷ pieces) (inl one) =
      let i = one.0 in
      let front = one.1 in
      let rest = one.2 in
      let within = opcode_within layout h front i one.4 in
      let tail = all_are_counted rest pieces one.6 in
      let first : all_bytes piece ≡ length front = ap all_bytes one.5 ∙ omega (arith, within) in
      one_more piece pieces ∙ omega (arith, first, tail, length-append front rest, ap length one.3)
  all_are_counted bytes (piece ∷ pieces) (inr one) =
      let first : all_bytes piece ≡ length bytes = ap all_bytes one.2 ∙ omega arith in
      let last : sum (map all_bytes pieces) ≡ 0 = ap (λ (ps : List Piece). sum (map all_bytes ps)) one.3 in
      one_more piece pieces ∙ omega (arith, first, last)
