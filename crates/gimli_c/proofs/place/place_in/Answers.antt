use Rattle.std.proofs.Common.{◌^◌, ◌∙◌, ℕ, List, Option, refl, sym, inl, inr}
use Rattle.std.specs.Option.{option_map}
use Rattle.gimli_compilation.specs.Directories.{directory_for}
use Rattle.gimli_compilation.specs.Sections.{sections_of}
use Rattle.gimli_c.specs.MadeIndex.{program}
use Rattle.gimli_c.specs.declared.status.TheConstants.{NO_ROOM, OK, OUT_OF_MEMORY}
use Rattle.gimli_c.proofs.Copied.{apart, copies_more, not_copied, not_copied_at}
use Rattle.gimli_c.proofs.Places.{place_in, no_place_in}
use Rattle.gimli_c.specs.Location.{slice_seen}
use Rattle.gimli_c.proofs.place.place_in.Goals as goal

pub returns-in-Err-clause-place : goal.returns-in-Err-clause-place
returns-in-Err-clause-place c =
    let is = c.in-Err.ensures.err in
    not_copied _ _ _ _ _ (λ ok. apart OUT_OF_MEMORY OK refl (sym is ∙ ok))
    (λ room. apart OUT_OF_MEMORY NO_ROOM refl (sym is ∙ room)) (inr (inr (inl is)))

pub returns-in_default-clause-place : goal.returns-in_default-clause-place
returns-in_default-clause-place c = not_copied_at _ _ _ _ _ refl refl (inr (inr (inl refl)))

pub returns-clause-place : goal.returns-clause-place
returns-clause-place c =
    let options = c.args.options.now in
    let texts = c.args.texts.now in
    let p =
    program c.args.section.now options.is_big options.address_size options.lowest texts.debug_line_str.slice.now
    texts.debug_str.slice.now in
    let sections =
    sections_of slice_seen (2 ^ 64) c.args.sections.now in
    let directory : ℕ → Option (List ℕ) = λ line.
    option_map (λ s. s.slice.now) (directory_for c.in-Ok-new.compilations line) in
    let are = c.in-Ok.ensures.ok texts.debug_line_str.slice.now texts.debug_str.slice.now in
    copies_more _ _ _ _ _ _ _ _ _
    (λ whole is.
    place_in p sections sections c.in-Ok.program.lookup directory _ c.args.address c.copy_place.new.row refl are refl
    c.in-Ok-new.ensures.ok _ is)
    (λ s why.
    no_place_in p sections sections c.in-Ok.program.lookup directory _ c.args.address c.copy_place.new.row refl are
    refl c.in-Ok-new.ensures.ok s why)
    (rw c.in-Ok.ensures.paths at (rw c.set_compilations.ensures at c.copy_place.ensures.place))
