use Rattle.gimli_write.proofs
use proofs.Common.{◌∙◌, drop, slice_layout}
use Rattle.gimli_write.specs.inside.RoundTrip.{unit_entry_with}
use proofs.ReadUnits.{
  same_unit,
  same_fault,
  same_sections,
  same_layout,
  same_header,
  texts_there,
  header_refused,
  same_answers,
  same_refusal,
}
use proofs.read_back.read_section.Goals as goal

pub read_program-requires : goal.read_program-requires
read_program-requires g c =
    let is_big = g.E.Endianity.is_big c.args.endian in
    let unit_entry = unit_entry_with c.args.address_size c.args.directory.now in
    let bytes = drop c.args.offset.0 c.args.section.now in
    let h = c.in-Ok.program.meaning in
    let unit =
    same_unit _ _ _ h c.new-section.ensures.order
    c.new-directory.ensures.bytes c.new-section.ensures.bytes c.in-Ok.ensures.unit in
    let is =
    same_sections (c.new.ensures.bytes ∙ c.as_slice.ensures.value) (c.new-2.ensures.bytes ∙ c.as_slice-2.ensures.value)
    c.sections.view_is in
    rw is (texts_there (slice_layout is_big) unit_entry bytes _ h c.requires.unit unit)

pub returns-in-Ok-clause-ok : goal.returns-in-Ok-clause-ok
returns-in-Ok-clause-ok g c h begins =
    let is_big = g.E.Endianity.is_big c.args.endian in
    let unit_entry = unit_entry_with c.args.address_size c.args.directory.now in
    let bytes = drop c.args.offset.0 c.args.section.now in
    let k = c.in-Ok.program.meaning in
    let unit =
    same_unit _ _ _ k c.new-section.ensures.order
    c.new-directory.ensures.bytes c.new-section.ensures.bytes c.in-Ok.ensures.unit in
    let is =
    same_sections (c.new.ensures.bytes ∙ c.as_slice.ensures.value) (c.new-2.ensures.bytes ∙ c.as_slice-2.ensures.value)
    c.sections.view_is in
    let n = same_layout _ c.in-Ok.ensures.layout c.new-section.ensures.order in
    same_answers _ n is (same_header (slice_layout is_big) unit_entry bytes unit begins) c.read_program.ensures.ok

pub returns-in-Ok-clause-err : goal.returns-in-Ok-clause-err
returns-in-Ok-clause-err g c h begins =
    let is_big = g.E.Endianity.is_big c.args.endian in
    let unit_entry = unit_entry_with c.args.address_size c.args.directory.now in
    let bytes = drop c.args.offset.0 c.args.section.now in
    let k = c.in-Ok.program.meaning in
    let unit =
    same_unit _ _ _ k c.new-section.ensures.order
    c.new-directory.ensures.bytes c.new-section.ensures.bytes c.in-Ok.ensures.unit in
    let n = same_layout _ c.in-Ok.ensures.layout c.new-section.ensures.order in
    same_refusal _ n (same_header (slice_layout is_big) unit_entry bytes unit begins) c.read_program.ensures.err

pub returns-in-Err-clause-err : goal.returns-in-Err-clause-err
returns-in-Err-clause-err g c h begins =
    let is_big = g.E.Endianity.is_big c.args.endian in
    let unit_entry = unit_entry_with c.args.address_size c.args.directory.now in
    let bytes = drop c.args.offset.0 c.args.section.now in
    header_refused (slice_layout is_big) unit_entry bytes h _ _ begins
    (λ other. same_fault _ _ _ _ _ _ _ _ _ c.new-section.ensures.order
    c.new-directory.ensures.bytes c.new-section.ensures.bytes (c.in-Err.ensures.refusal other))
    c.from_read.ensures.memory
