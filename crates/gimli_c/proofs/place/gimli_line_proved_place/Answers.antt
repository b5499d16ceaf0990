use Rattle.gimli_c.proofs.Places.{same_places}
use Rattle.gimli_c.proofs.place.gimli_line_proved_place.Goals as goal

pub returns-clause-place : goal.returns-clause-place
returns-clause-place c =
    same_places c.args.section.now c.args.options.now.is_big _ _ _ _ _ _ _ _ c.args.address c.place_in.new.row _ _ _ _ _
    c.new.ensures.bytes c.new-2.ensures.bytes c.sections_in-sections.ensures c.place_in.ensures.place
