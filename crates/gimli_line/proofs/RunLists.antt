-- What instructions give, one list of them after another; the files mean nothing to it.
use Rattle.std.specs.Prelude.{◌≡◌, if◌then◌else◌, ◌∷◌, ◌++◌}
use Rattle.gimli_line.proofs.Common
use Common.{Bool, true, false, not, List, [], Option, Some, None, refl, sym, ap, ◌∙◌, append_assoc, filter, append-nil}
use Common.{Error, LineRow, File, Header, Parameters, Ins, files_after, Event, row, fault, made_at, EventWithFiles}
use Common.{with_files, made_after, is_given, given_of, events_of, events_after, program_events, program_made, initial}
use Common.{made_step, next_registers, made_from, run, registers_from, files_from, ℕ, OrderAndLimit, Events}
use Common.{EventsWithFiles}
use Rattle.gimli_line.proofs.Backwards.{made_start}

-- what a point gives, and then the rest
pub given_here : (files : List File) (here : List Event) (later : List EventWithFiles)
    → events_of (given_of (with_files files here ++ later)) ≡ filter is_given here ++ events_of (given_of later)
given_here files [] later = refl
given_here files (fault e ∷ here) later = ap (λ (xs : List Event). fault e ∷ xs) (given_here files here later)
given_here files (row r ∷ here) later = by (not r.tombstone) (given_here files here later)
  where
    rest : List EventWithFiles
    rest = given_of (with_files files here ++ later)

    by : (b : Bool) → events_of rest ≡ filter is_given here ++ events_of (given_of later)
        → events_of (if b then record { event = row r; files = files } ∷ rest else rest)
        ≡ (if b then row r ∷ filter is_given here else filter is_given here) ++ events_of (given_of later)
    by true same = ap (λ es. row r ∷ es) same
    by false same = same

-- what a point gives
abbrev pub events_at : Parameters → List Ins → Ins → List Event
events_at h past i = filter is_given (made_at h past i)

pub after_here : (h : Parameters) (past : List Ins) (i : Ins) (list : List Ins) (end : Option Error)
    → events_after h past (i ∷ list) end ≡ events_at h past i ++ events_after h (i ∷ past) list end
after_here h past i list end = given_here [] (made_at h past i) (made_after h (λ before. []) (i ∷ past) list end)

-- the same, whatever files are there
files_aside : (a c : Bool) (h : Parameters) (r : LineRow) (files others : List File) (list : List Ins)
    (end : Option Error)
    → events_of (given_of (made_from a h r files list end)) ≡ events_of (given_of (made_from c h r others list end))
files_aside a c h r files others [] None = refl
files_aside a c h r files others [] (Some e) = refl
files_aside a c h r files others (i ∷ list) end =
    let here = made_step h i r in
    let next = next_registers h i r in
    given_here files here (made_from a h next (files_after a i files) list end)
    ∙ ap (λ (xs : List Event). filter is_given here ++ xs)
    (files_aside a c h next (files_after a i files) (files_after c i others) list end)
    ∙ sym (given_here others here (made_from c h next (files_after c i others) list end))

pub given_from_start : (a : Bool) (h : Parameters) (files : List File) (list : List Ins) (end : Option Error)
    → events_of (given_of (made_from a h (initial h) files list end)) ≡ program_events h list end
given_from_start a h files list end = files_aside a false h (initial h) files [] list end
    ∙ ap (λ (es : List EventWithFiles). events_of (given_of es)) (made_start false h [] list end)

pub given_without_files : (a : Bool) (h : Header) (list : List Ins) (end : Option Error)
    → events_of (given_of (program_made a h list end)) ≡ program_events h.parameters list end
given_without_files a h list end =
    ap (λ (es : List EventWithFiles). events_of (given_of es)) (sym (made_start a h.parameters h.files list end))
    ∙ given_from_start a h.parameters h.files list end

-- events that have files are events
pub without_files : (layout : OrderAndLimit) (a : Bool) (h : Header) (bytes : List ℕ) (events : List EventWithFiles)
    → EventsWithFiles layout a h bytes events → Events layout h bytes (events_of events)
without_files layout a h bytes events given = record {
  list = given.list;
  end = given.end;
  decoding = given.decoding;
  given = ap events_of given.given ∙ given_without_files a h given.list given.end;
}

-- one list, and then more
pub given_joined : (a : Bool) (h : Parameters) (r : LineRow) (files : List File) (list more : List Ins)
    (end : Option Error)
    → events_of (given_of (made_from a h r files (list ++ more) end))
    ≡ run h r list ++ events_of (given_of (made_from a h (registers_from h r list) (files_from a files list) more end))
given_joined a h r files [] more end = refl
given_joined a h r files (i ∷ list) more end =
    let here = made_step h i r in
    let next = next_registers h i r in
    let rest = events_of
    (given_of (made_from a h (registers_from h next list) (files_from a (files_after a i files) list) more end)) in
    let first : run h r (i ∷ list) ≡ filter is_given here ++ run h next list =
    given_here [] here (made_from false h next (files_after false i []) list None)
    ∙ ap (λ (xs : List Event). filter is_given here ++ xs)
    (files_aside false false h next (files_after false i []) [] list None) in
    given_here files here (made_from a h next (files_after a i files) (list ++ more) end)
    ∙ ap (λ (xs : List Event). filter is_given here ++ xs) (given_joined a h next (files_after a i files) list more end)
    ∙ sym (append_assoc (filter is_given here) (run h next list) rest)
    ∙ ap (λ (xs : List Event). xs ++ rest) (sym first)

pub runs_joined : (h : Parameters) (r : LineRow) (list more : List Ins)
    → run h r (list ++ more) ≡ run h r list ++ run h (registers_from h r list) more
runs_joined h r list more = given_joined false h r [] list more None ∙ ap (λ (xs : List Event). run h r list ++ xs)
    (files_aside false false h (registers_from h r list) (files_from false [] list) [] more None)

pub run_of_one : (h : Parameters) (i : Ins) (r : LineRow) → run h r (i ∷ []) ≡ filter is_given (made_step h i r)
run_of_one h i r = given_here [] (made_step h i r) [] ∙ append-nil (filter is_given (made_step h i r))
