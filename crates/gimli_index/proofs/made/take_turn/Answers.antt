use Rattle.std.proofs.Common.{◌∙◌, List, None, subst, sym}
use Rattle.gimli_lookup.specs.ProgramPaths.{texts_seen}
use Rattle.gimli_index.specs.declared.contents.Entry.{Entry}
use Rattle.gimli_index.specs.declared.contents.Source.{Source}
use Rattle.gimli_index.specs.inside.Table.{IsPushed}
use Rattle.gimli_index.specs.inside.Turns.{turn_rows}
use Rattle.gimli_index.proofs.TurnSteps.{on_ok, turn_walked}
use Rattle.gimli_index.proofs.made.take_turn.Goals as goal

pub returns-clause-walked : goal.returns-clause-walked
returns-clause-walked g c =
    let t = texts_seen g.R.Reader.seen c.args.origin.now.paths.now in
    let units = c.args.origin.now.lookup.now in
    let turn = c.args.turn in
    let table = c.take_rows.new.table in
    let before = c.take_rows.new.entries.items in
    let after = c.push.new.entries.items in
    let entry : Entry = record { address = c.in-Some.last; place = None } in
    on_ok c.push.result (IsPushed c.sources.result.now before after entry) _ c.push.ensures.pushed
    (λ pushed d said end walked order.
    turn_walked t units table before after (turn_rows units d turn) said end c.in-Some.last _
    (sym c.range.ensures ∙ c.in-Some.is)
    (c.in_ok-take_rows.ensures.walked d said end walked order) order
    (subst (λ (ss : List Source). IsPushed ss before after entry) c.sources.ensures pushed))
