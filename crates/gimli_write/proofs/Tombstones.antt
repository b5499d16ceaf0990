-- Whether a sequence ends under a tombstone: what the registers say is what looking back says.
use Rattle.std.specs.Prelude.{◌≡◌, ◌≢◌, ◌&&◌, ◌∷◌, ◌++◌, if◌then◌else◌}
use Rattle.gimli_write.proofs
use proofs.Common
use Common.{ℕ, Bool, true, false, List, [], refl, sym, ap, ◌∙◌, subst, Some}
use Common.{OrderAndLimit, Error, Header, Parameters, Ins, is_end, decoded_at}
use Common.{registers_after, Unread, SpellsInstruction, instruction_production}
use Rattle.gimli_write.specs
use specs.convert.Mapped.{gave_row, NoneEndsUnderTombstone, NoSequenceEndsUnderTombstone}
use specs.inside.convert.Tombstones.{Watched, first_watched, gave_after, hides, none_hides, none_left_hides, WatchSays}
use Rattle.gimli_line.specs.run.Machine.{next_registers}
use Rattle.gimli_line.proofs.Backwards.{tombstone_after}
use proofs.SourceSteps.{decoded_none, decoded_fault, decoded_some, is_shorter}

-- ---- looking back

one_seen : (ends hidden gave : Bool) {rest : Bool} → (if ends && hidden && gave then false else rest) ≡ true
    → (ends ≡ true → hidden ≡ true → gave ≡ false) × (rest ≡ true)
one_seen true true true is = absurd cc
one_seen true true false is = (λ _ _. refl, is)
one_seen true false gave is = (λ _ h. absurd cc, is)
one_seen false hidden gave is = (λ e _. absurd cc, is)

seen_one : (ends hidden gave : Bool) {rest : Bool} → (ends ≡ true → hidden ≡ true → gave ≡ false) → rest ≡ true
    → (if ends && hidden && gave then false else rest) ≡ true
seen_one true true true seen is = let never = seen refl refl in absurd cc
seen_one true true false seen is = is
seen_one true false gave seen is = is
seen_one false hidden gave seen is = is

module _ (p : Parameters) where
  gave_is : (past : List Ins) (i : Ins)
      → gave_after i (registers_after p past) (gave_row p past) ≡ gave_row p (i ∷ past)
  gave_is past i = rw (tombstone_after p past) refl

  seen_then : (past list : List Ins) → none_hides p (registers_after p past) (gave_row p past) list ≡ true
      → NoneEndsUnderTombstone p past list
  seen_then past [] is = tt
  seen_then past (i ∷ list) is =
      let parts = one_seen (is_end i) (registers_after p past).tombstone (gave_row p past) is in (
        λ ends hidden. parts.0 ends (tombstone_after p past ∙ hidden),
        seen_then (i ∷ past) list
            (subst (λ gave. none_hides p (registers_after p (i ∷ past)) gave list ≡ true) (gave_is past i) parts.1),
      )

  then_seen : (past list : List Ins) → NoneEndsUnderTombstone p past list
      → none_hides p (registers_after p past) (gave_row p past) list ≡ true
  then_seen past [] none = refl
  then_seen past (i ∷ list) none =
      seen_one (is_end i) (registers_after p past).tombstone (gave_row p past)
      (λ ends hidden. none.0 ends (sym (tombstone_after p past) ∙ hidden))
      (subst (λ gave. none_hides p (registers_after p (i ∷ past)) gave list ≡ true) (sym (gave_is past i))
      (then_seen (i ∷ past) list none.1))

-- ---- a whole program

module _ (layout : OrderAndLimit) (h : Header) (bytes : List ℕ) where
  abbrev whole : Unread
  whole = record { layout = layout; bytes = bytes }

  pub all_seen : none_left_hides h (first_watched h whole) ≡ true → NoSequenceEndsUnderTombstone layout h bytes
  all_seen = seen_then h.parameters [] (decoded_at layout h bytes).0

  pub seen_all : NoSequenceEndsUnderTombstone layout h bytes → none_left_hides h (first_watched h whole) ≡ true
  seen_all = then_seen h.parameters [] (decoded_at layout h bytes).0

-- what is left at the start, where the header was lent
pub from_start : (layout : OrderAndLimit) (h k : Header) (n : OrderAndLimit) (first : Watched) → k ≡ h → n ≡ layout
    → first ≡ first_watched k (record { bytes = k.program; layout = n }) → (last : Bool)
    → none_left_hides k first ≡ last
    → none_left_hides h (first_watched h (record { bytes = h.program; layout = layout })) ≡ last
from_start layout h k n first lent order start last is =
    ap (λ (k : Header). none_left_hides k (first_watched k (record { bytes = k.program; layout = layout }))) (sym lent)
    ∙ ap (λ (n : OrderAndLimit). none_left_hides k (first_watched k (record { bytes = k.program; layout = n })))
    (sym order)
    ∙ ap (none_left_hides k) (sym start) ∙ is

-- ---- one instruction

module _ (h : Header) (old : Watched) where
  pub nothing_hides : old.unread.bytes ≡ [] → none_left_hides h old ≡ true
  nothing_hides none =
      ap (λ c. none_hides h.parameters old.row old.gave_row c.0)
      (decoded_none old.unread.layout h old.unread.bytes none)

  pub fault_hides : (e : Error) → old.unread.bytes ≢ []
      → (instruction_production old.unread.layout h).Fault old.unread.bytes e → none_left_hides h old ≡ true
  fault_hides e some fault =
      ap (λ c. none_hides h.parameters old.row old.gave_row c.0)
      (decoded_fault old.unread.layout h old.unread.bytes e some fault)

  module _ (new : Watched) (i : Ins) (front : List ℕ) (layout : new.unread.layout ≡ old.unread.layout)
      (parts : old.unread.bytes ≡ front ++ new.unread.bytes)
      (spelled : SpellsInstruction old.unread.layout h front i)
      (row : new.row ≡ next_registers h.parameters i old.row)
      (gave : new.gave_row ≡ gave_after i old.row old.gave_row) where
    by_first : none_left_hides h old
        ≡ (if hides i old.row old.gave_row then false else none_left_hides h new)
    by_first =
        ap (λ c. none_hides h.parameters old.row old.gave_row c.0)
        (decoded_some old.unread.layout h old.unread.bytes i front new.unread.bytes parts spelled)
        ∙ rw (layout, row, gave) refl

    pub instruction_hides : (b : Bool) → b ≡ hides i old.row old.gave_row → WatchSays h old new (Some b)
    instruction_hides true is = by_first ∙ ap (λ b. if b then false else none_left_hides h new) (sym is)
    instruction_hides false is = (
      by_first ∙ ap (λ b. if b then false else none_left_hides h new) (sym is),
      is_shorter old.unread.layout h old.unread.bytes i front new.unread.bytes parts spelled,
    )
