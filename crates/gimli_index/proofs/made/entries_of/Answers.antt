use Rattle.std.proofs.Common.{◌≡◌, ◌∙◌, true, List, [], ap, map, subst, sym}
use Rattle.std.specs.Prelude.{flat_map}
use Rattle.gimli_lookup.specs.Probes.{never_go_down}
use Rattle.gimli_lookup.specs.Section.{KeptUnit}
use Rattle.gimli_lookup.specs.ProgramPaths.{texts_seen}
use Rattle.gimli_index.specs.declared.contents.Entry.{Entry}
use Rattle.gimli_index.specs.declared.turns.Turn.{Turn}
use Rattle.gimli_index.specs.inside.Turns.{Walked, end_after, rows_of_turns, starts_of_turn, turn_rows}
use Rattle.gimli_index.proofs.Entered.{none_entered}
use Rattle.gimli_index.proofs.TurnLines.{all_entered, some_unit}
use Rattle.gimli_index.proofs.WalkedStarts.{none_walked}
use Rattle.gimli_index.proofs.made.entries_of.Goals as goal

pub take_ranges-requires-clause-entered : goal.take_ranges-requires-clause-entered
take_ranges-requires-clause-entered g c =
    let t = texts_seen g.R.Reader.seen c.args.origin.now.paths.now in
    rw (c.in_ok-entries.ensures, c.ranges-ranges.ensures)
    (none_entered t c.args.origin.now.lookup.now c.args.table.now c.requires)

pub returns-then-are_in_turn-clause-entered : goal.returns-then-are_in_turn-clause-entered
returns-then-are_in_turn-clause-entered g c =
    let t = texts_seen g.R.Reader.seen c.args.origin.now.paths.now in
    let units : List KeptUnit = c.args.origin.now.lookup.now in
    let limit = c.args.origin.now.limit in
    let turns : List Turn = c.in_ok-turns.turns.items in
    let down : never_go_down (rows_of_turns turns) ≡ true =
    ap (λ (ts : List Turn). never_go_down (rows_of_turns ts)) (sym c.deref-2.ensures.value) ∙ sym c.are_in_turn.ensures
    ∙ c.if-are_in_turn.true in
    let start = subst (λ (es : List Entry). Walked t units limit c.args.table.now es [] 0) (sym c.in_ok-entries.ensures)
    (none_walked t units c.args.table.now c.requires) in
    let lent = c.deref-then-are_in_turn.ensures.value in
    let walked =
    subst (λ (ts : List Turn).
    never_go_down (rows_of_turns ts) ≡ true
    → Walked t units limit c.take_turns.new.table c.take_turns.new.entries.items
    (flat_map (starts_of_turn t) (map (turn_rows units some_unit) ts)) (end_after 0 (rows_of_turns ts))) lent
    (c.in_ok-take_turns.ensures.walked some_unit start) in
    all_entered t units turns c.in_ok-turns.ensures.turns down c.take_turns.new.table c.take_turns.new.entries.items
    (end_after 0 (rows_of_turns turns))
    (walked down)
