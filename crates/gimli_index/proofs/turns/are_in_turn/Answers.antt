use Rattle.std.proofs.Common.{◌∙◌, ◌+◌, ℕ, Some, ap, drop, sym}
use Rattle.gimli_lookup.specs.Probes.{never_go_below}
use Rattle.gimli_index.specs.declared.turns.Turn.{Turn}
use Rattle.gimli_index.specs.inside.Turns.{rows_of_turns}
use Rattle.gimli_index.proofs.TurnSteps.{begins_below, goes_down, goes_on, here_at, none_go, turn_here}
use Rattle.gimli_index.proofs.turns.are_in_turn.Goals.{in-Some+else-first-end, in_default}
use Rattle.gimli_index.proofs.turns.are_in_turn.Goals as goal

pub returns-then-not-never_go_down : goal.returns-then-not-never_go_down
returns-then-not-never_go_down c =
    let turns = c.args.turns.now in
    let k = c.loop-turn.turn-index in
    let rest = rows_of_turns (drop (k + 1) turns) in
    sym (c.loop-turn.invariant
    ∙ ap (never_go_below c.loop-turn.end)
    (turn_here turns k c.turn-item.result
    (here_at turns k c.turn-item.result c.loop-turn-test.true ∙ ap (λ (x : Turn). Some x) (sym c.turn-item.is)))
    ∙ goes_down c.loop-turn.end _ rest (sym c.never_go_down.ensures ∙ c.if-not-never_go_down.true))

pub returns-then-first-end : goal.returns-then-first-end
returns-then-first-end c =
    let turns = c.args.turns.now in
    let k = c.loop-turn.turn-index in
    let rest = rows_of_turns (drop (k + 1) turns) in
    sym (c.loop-turn.invariant
    ∙ ap (never_go_below c.loop-turn.end)
    (turn_here turns k c.turn-item.result
    (here_at turns k c.turn-item.result c.loop-turn-test.true ∙ ap (λ (x : Turn). Some x) (sym c.turn-item.is)))
    ∙ begins_below c.loop-turn.end _ rest c.in-Some.first c.in-Some.last (sym c.range.ensures ∙ c.in-Some.is)
    c.if-first-end.true)

pub loop-turn-preserved : goal.loop-turn-preserved
loop-turn-preserved c =
    let turns = c.args.turns.now in
    let k = c.loop-turn.turn-index in
    let rest = rows_of_turns (drop (k + 1) turns) in
    let so_far =
    c.loop-turn.invariant
    ∙ ap (never_go_below c.loop-turn.end)
    (turn_here turns k c.turn-item.result
    (here_at turns k c.turn-item.result c.loop-turn-test.true ∙ ap (λ (x : Turn). Some x) (sym c.turn-item.is))) in
    elim c.match-range.branch [
      | in-Some+else-first-end w ↦
          so_far
          ∙ goes_on c.loop-turn.end _ rest w.in-Some.first w.in-Some.last
          (sym c.never_go_down.ensures ∙ c.if-not-never_go_down.false)
          (sym c.range.ensures ∙ w.in-Some.is) w.if-first-end.false
          ∙ ap (λ (n : ℕ). never_go_below n rest) (sym w.end-is)
      | in_default w ↦
          so_far ∙ none_go c.loop-turn.end _ rest (sym c.range.ensures ∙ w.in_default.is)
          ∙ ap (λ (n : ℕ). never_go_below n rest) (sym w.end-is)
    ]
