-- A sequence that is resumed gives what its bytes give by looking back, as a program of their own.
use Rattle.std.specs.Prelude.{◌≡◌, ◌∷◌, ◌++◌}
use Rattle.gimli_line.proofs
use proofs.Common
use Common.{ℕ, false, List, [], map, Option, refl, sym, ap, subst, ◌∙◌, All, map-append, Error, OrderAndLimit, LineRow}
use Common.{Header, without_files, HeaderSource, Ins, decoded_at, Event, row, EventWithFiles, Events, events_of}
use Common.{program_events, events_left, start_of_run, GivesRowsAlone, IsRow, Unread}
use Rattle.std.proofs.lemmas.List.Elements.{All-nil, All-cons}
use Rattle.gimli_line.specs.run.InstructionGrammar.{Decodes}
use Rattle.gimli_line.specs.run.Sequences.{Sequence, HasRun, HaveRuns, ResumesToRows}
use proofs.InstructionLaws.{is_decoded, one_decoding}
use proofs.Runs.{bare_decoding}
use proofs.RunLists.{given_from_start}

-- ---- bytes give one run

module _ (n : OrderAndLimit) (h : Header) (bytes : List ℕ) where
  same_decoding : (list other : List Ins) (end finish : Option Error) → Decodes n h bytes list end
      → Decodes n h bytes other finish
      → program_events h.parameters list end ≡ program_events h.parameters other finish
  same_decoding list other end finish a b = ap (λ (p : List Ins × Option Error). program_events h.parameters p.0 p.1)
      (one_decoding n h bytes list end a ∙ sym (one_decoding n h bytes other finish b))

  pub one_run : (run other : List Event) → Events n h bytes run → Events n h bytes other → run ≡ other
  one_run run other a b = a.given ∙ same_decoding _ _ _ _ a.decoding b.decoding ∙ sym b.given

pub one_list_of_runs : (h : Header) (parts : List Sequence) (runs others : List (List Event)) → HaveRuns h parts runs
    → HaveRuns h parts others → runs ≡ others
one_list_of_runs h [] [] [] a b = refl
one_list_of_runs h [] [] (other ∷ others) a b = absurd b
one_list_of_runs h [] (run ∷ runs) others a b = absurd a
one_list_of_runs h (s ∷ parts) [] others a b = absurd a
one_list_of_runs h (s ∷ parts) (run ∷ runs) [] a b = absurd b
one_list_of_runs h (s ∷ parts) (run ∷ runs) (other ∷ others) a b =
    let first : run ≡ other = one_run _ h _ _ _ a.0.given b.0.given in
    let later : runs ≡ others = one_list_of_runs h parts runs others a.1 b.1 in
    cc

-- ---- rows at the start of a sequence

are_rows : (events : List EventWithFiles) (rows : List LineRow) → events_of events ≡ map row rows → All IsRow events
are_rows [] rows same = All-nil _
are_rows (e ∷ events) [] same = absurd cc
are_rows (e ∷ events) (r ∷ rows) same = All-cons IsRow e events (r, at_head) (are_rows events rows at_tail)
  where
    at_head : e.event ≡ row r
    at_head = cc

    at_tail : events_of events ≡ map row rows
    at_tail = cc

module _ (h : Header) (c : HeaderSource) (s : Unread) where
  abbrev decoded : List Ins × Option Error
  decoded = decoded_at s.layout (without_files h) s.bytes

  decoding : Decodes s.layout h s.bytes decoded.0 decoded.1
  decoding = bare_decoding _ h _ _ _ (is_decoded _ _ _)

  -- they give the run of the bytes
  pub gives_run : (run : List Event) → Events s.layout h s.bytes run
      → events_of (events_left (start_of_run false h c s)) ≡ run
  gives_run run has = given_from_start false h.parameters h.files decoded.0 decoded.1
      ∙ same_decoding s.layout h s.bytes decoded.0 has.list decoded.1 has.end decoding has.decoding ∙ sym has.given

  -- and rows alone, where that has rows alone
  pub gives_rows_alone : (rows : List LineRow) → Events s.layout h s.bytes (map row rows)
      → GivesRowsAlone (start_of_run false h c s)
  gives_rows_alone rows has = record {
    complete = refl;
    rows = are_rows _ _ (gives_run _ has);
  }

-- ---- sequences with runs

to_rows : (h : Header) (s : Sequence) (run : List Event) → HasRun h s run → ResumesToRows h s
to_rows h s run has = record {
  rows = has.is.rows ++ has.is.last ∷ [];
  given = subst (λ events. Events s.unread.layout h s.unread.bytes events)
      (has.is.given ∙ sym (map-append _ _ _))
      has.given;
}

pub resume_to_rows : (h : Header) (parts : List Sequence) (runs : List (List Event)) → HaveRuns h parts runs
    → All (ResumesToRows h) parts
resume_to_rows h [] runs all = All-nil _
resume_to_rows h (s ∷ parts) [] all = absurd all
resume_to_rows h (s ∷ parts) (run ∷ runs) all =
    All-cons (ResumesToRows h) s parts (to_rows h s run all.0) (resume_to_rows h parts runs all.1)
