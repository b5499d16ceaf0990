use Rattle.std.proofs.Common.{[], refl, sym, ap, ◌∙◌, rules}
use Rattle.std.proofs.lemmas.List.{append-nil}
use Rattle.gimli_line.proofs.Sources.{still_one}
use Rattle.gimli_lookup.proofs.section_unit.UnitLookup.new.Goals as goal

pub returns-in-Err-clause-kept : goal.returns-in-Err-clause-kept
returns-in-Err-clause-kept g c = rw c.in-Err.is (record {
  sequences = [];
  added = sym (append-nil c.args.sequences.now.items);
  first = search rules;
  end = search rules;
  outcome = (refl, refl, refl);
})

pub invariant_of-result-2 : goal.invariant_of-result-2
invariant_of-result-2 g c =
    let order = rw c.in-Ok.is at c.requires.order in
    let same = rw c.in-Ok.is at c.requires.offset in
    rw c.in_ok-boxed.ensures.ok (
      still_one _ _ c.in_ok-unit_run-in-Ok.ensures.run (record { readers = order; unread = λ adds. refl }),
      c.in_ok-unit_run-in-Ok.ensures.run.source.offset ∙ ap (λ o. g.R.Offset.ReaderOffset.number o.0) same,
    )
