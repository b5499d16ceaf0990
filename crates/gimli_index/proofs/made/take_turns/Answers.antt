use Rattle.std.proofs.Common.{◌∙◌, List, Some, ap, map, subst, sym}
use Rattle.std.specs.Prelude.{flat_map}
use Rattle.std.proofs.lemmas.List.{take_all}
use Rattle.gimli_lookup.specs.ProgramPaths.{texts_seen}
use Rattle.gimli_index.specs.declared.turns.Turn.{Turn}
use Rattle.gimli_index.specs.inside.Turns.{Walked, end_after, rows_of_turns, starts_of_turn, turn_rows}
use Rattle.gimli_index.proofs.TurnSteps.{here_at, turns_walked}
use Rattle.gimli_index.proofs.made.take_turns.Goals as goal

pub loop-turn-preserved : goal.loop-turn-preserved
loop-turn-preserved g c =
    let t = texts_seen g.R.Reader.seen c.args.origin.now.paths.now in
    let units = c.args.origin.now.lookup.now in
    let turns = c.args.turns.now in
    let k = c.loop-turn.turn-index in
    let said = c.in_ok-take_turn.ensures in
    record {
      are = said.are;
      walked = λ d start down.
          turns_walked t units d c.loop-turn.table c.take_turn.new.table c.loop-turn.entries.items
          c.take_turn.new.entries.items turns
          k c.turn-item.result
          (here_at turns k c.turn-item.result c.loop-turn-test.true
          ∙ ap (λ (x : Turn). Some x) (sym c.turn-item.is))
          down
          (c.loop-turn.invariant.walked d start down) (said.walked d);
    }

pub returns-clause-walked : goal.returns-clause-walked
returns-clause-walked g c =
    let t = texts_seen g.R.Reader.seen c.args.origin.now.paths.now in
    let units = c.args.origin.now.lookup.now in
    let limit = c.args.origin.now.limit in
    let turns = c.args.turns.now in
    λ d start down.
    subst (λ (ts : List Turn).
    Walked t units limit c.loop-turn.table c.loop-turn.entries.items
    (flat_map (starts_of_turn t) (map (turn_rows units d) ts))
    (end_after 0 (rows_of_turns ts)))
    (take_all c.loop-turn.turn-index turns c.loop-turn-test.false) (c.loop-turn.invariant.walked d start down)
