use Rattle.std.proofs.Common.{◌<◌, ◌+◌, ◌||◌, ℕ, None, length, take, sym, ap, ◌∙◌, arith}
use Rattle.std.specs.Prelude.{◌==◌}
use Rattle.std.proofs.lemmas.List.Folds.{list_any_more}
use Rattle.gimli_lookup.proofs.FileMarks.{none_marked, marked_too}
use Rattle.gimli_index.specs.Named.{number_in}
use Rattle.gimli_index.specs.declared.contents.Entry.{Entry}
use Rattle.gimli_index.specs.inside.Kept.{entries_name}
use Rattle.gimli_index.proofs.named.mark_entries.Goals as goal

abbrev nowhere : Entry
nowhere = record { address = 0; place = None }

pub loop-entry-init : goal.loop-entry-init
loop-entry-init c = none_marked c.args.named.now

pub loop-entry-preserved : goal.loop-entry-preserved
loop-entry-preserved c =
    let all = c.args.entries.now in
    let i = c.loop-entry.entry-index in
    let inside : i < length all = omega arith in
    let before = entries_name (take i all) in
    marked_too before (λ n. c.number_in.result == n) (entries_name (take (i + 1) all)) c.args.named.now
    c.loop-entry.named c.mark.new.named
    (λ n. ap (λ (k : ℕ). before n || (k == n)) c.number_in.ensures
    ∙ sym (list_any_more (λ (e : Entry). number_in e.place == n) all i nowhere inside))
    c.loop-entry.invariant c.mark.ensures
