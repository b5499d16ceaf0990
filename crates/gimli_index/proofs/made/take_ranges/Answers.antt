use Rattle.std.proofs.Common.{◌∙◌, ℕ, List, Option, Some, subst, sym}
use Rattle.gimli_lookup.specs.Ranges.{AreFoundIn}
use Rattle.gimli_lookup.specs.Section.{KeptUnit}
use Rattle.gimli_lookup.specs.ProgramPaths.{texts_seen}
use Rattle.gimli_index.specs.declared.contents.Entry.{Entry}
use Rattle.gimli_index.specs.declared.contents.Source.{Source}
use Rattle.gimli_index.specs.inside.Table.{Entered, IsPushed}
use Rattle.gimli_index.proofs.Entered.{pushed, rows_found, still_entered, unit_within}
use Rattle.gimli_index.proofs.made.take_ranges.Goals as goal

pub ranges-2-preserved : goal.ranges-2-preserved
ranges-2-preserved g c =
    let t = texts_seen g.R.Reader.seen c.args.origin.now.paths.now in
    let units = c.args.origin.now.lookup.now in
    let old = c.ranges-2.table in
    let new = c.place_of.new.self in
    let before = c.ranges-2.entries.items in
    let after = c.push.new.entries.items in
    let range = c.in-Some.range in
    let said = c.in-Some.ensures in
    let placed = c.in_ok-place.ensures in
    let place = c.in_ok-place.place in
    let entry : Entry = record { address = range.start; place = place } in
    let limit = c.args.origin.now.limit in
    let so_far : Entered t units limit old before (Some range.start) =
    subst (λ (o : Option ℕ). Entered t units limit old before o) said.start c.ranges-2.invariant.entered in
    let found : AreFoundIn units range =
    subst (λ (us : List KeptUnit). AreFoundIn us range) c.ranges-2.invariant.units said.found in
    let is_pushed : IsPushed new.sources before after entry =
    subst (λ (ss : List Source). IsPushed ss before after entry) c.sources.ensures c.in_ok-push.ensures.pushed in
    record {
      units = said.units ∙ c.ranges-2.invariant.units;
      entered = subst (λ (o : Option ℕ). Entered t units limit new after o) (sym said.left)
          (pushed t units new before after range place
          (still_entered t units old new before (Some range.start) so_far placed.keeps placed.are) said.end found
          placed.inside placed.place placed.column is_pushed);
    }

pub place_of-requires-clause-found : goal.place_of-requires-clause-found
place_of-requires-clause-found g c =
    let units = c.args.origin.now.lookup.now in
    let range = c.in-Some.range in
    let said = c.in-Some.ensures in
    let found : AreFoundIn units range =
    subst (λ (us : List KeptUnit). AreFoundIn us range) c.ranges-2.invariant.units said.found in
    rows_found units range said.end found

pub place_of-requires-clause-unit : goal.place_of-requires-clause-unit
place_of-requires-clause-unit g c =
    let units = c.args.origin.now.lookup.now in
    let range = c.in-Some.range in
    let said = c.in-Some.ensures in
    let found : AreFoundIn units range =
    subst (λ (us : List KeptUnit). AreFoundIn us range) c.ranges-2.invariant.units said.found in
    unit_within units range said.end found
