use Rattle.std.proofs.Common.{◌∙◌, ◌<◌, ◌≤◌, ◌+◌, ◌++◌, false, Bool, List, length, drop, ap, sym, arith}
use Rattle.std.proofs.lemmas.List.{drop_all}
use Rattle.gimli_index.specs.declared.contents.Source.{Source}
use Rattle.gimli_index.specs.inside.Kept.{kept}
use Rattle.gimli_index.proofs.KeptSources.{one_kept}
use Rattle.gimli_index.proofs.Lists.{append_none}
use Rattle.gimli_index.proofs.named.kept_sources.Goals as goal

abbrev nothing : Source
nothing = record { unit = 0; first = 0; size = 0; reason = 0 }

pub loop-index-preserved : goal.loop-index-preserved
loop-index-preserved c =
    let named = c.args.named.now in
    let sources = c.args.sources.now in
    let i = c.loop-index.index in
    let old = c.loop-index.some.items in
    let source_there : i < length sources = omega arith in
    let mark_there : i < length named = omega (arith, source_there, c.requires) in
    ap (λ (ss : List Source). ss ++ kept (drop (i + 1) named) (drop (i + 1) sources)) c.in_ok-push_if.ensures
    ∙ one_kept named sources i false nothing mark_there source_there old
    ∙ c.loop-index.invariant

pub returns : goal.returns
returns c =
    let named = c.args.named.now in
    let sources = c.args.sources.now in
    let i = c.loop-index.index in
    let past : length named ≤ i = omega (arith, c.requires) in
    sym (append_none c.loop-index.some.items)
    ∙ ap (λ (ms : List Bool). c.loop-index.some.items ++ kept ms (drop i sources)) (sym (drop_all i named past))
    ∙ c.loop-index.invariant
