use Rattle.gimli_lookup.specs.Strings.{strings}
use Rattle.gimli_c.specs.Listed.{IsFileAnswer}
use Rattle.gimli_c.proofs.Indexes.{AreAnswered}
use Rattle.gimli_c.proofs.listed.list_files.Given as goal
use Rattle.gimli_c.specs.Location.{slice_seen}

abbrev pub invariant-loop-slot : goal.invariant-loop-slot
invariant-loop-slot l =
    AreAnswered (IsFileAnswer l.header.meaning (strings slice_seen l.sections) l.comp_dir l.texts.items) l.slot
    l.initial.files l.files
