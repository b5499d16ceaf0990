use Rattle.gimli_line.proofs
use proofs.Common.{rules, Bool, ap, ◌∙◌, layout_of, number_at, Header, Parameters, read_of, order_of, part_read_of}
use proofs.Order.{taken_part}
use proofs.OtherExecutions.{opened, ends, sets_address, sets_discriminator}
use proofs.run.row.LineRow.exec_extended_opcode.Goals as goal

pub returns-in-DW_LNE_end_sequence-clause-executed : goal.returns-in-DW_LNE_end_sequence-clause-executed
returns-in-DW_LNE_end_sequence-clause-executed g c =
    let n = layout_of (g.R.Reader.seen c.args.input.now).is_big g.R.Offset.ReaderOffset.limit in
    let h = c.args.header.now.meaning in
    let whole = opened n h _ _ _ _ _ c.in-Some.ensures.read (part_read_of c.in-Ok.ensures) in
    rw (whole, c.set_register.ensures) (λ is.
    ends n h _ _ _ c.in-Ok-read_u8.opcode (read_of c.in-Ok-read_u8.ensures) c.args.self.now (search rules))

pub returns-in-Ok-read_set_address-clause-executed : goal.returns-in-Ok-read_set_address-clause-executed
returns-in-Ok-read_set_address-clause-executed g c =
    let n = layout_of (g.R.Reader.seen c.args.input.now).is_big g.R.Offset.ReaderOffset.limit in
    let h = c.args.header.now.meaning in
    let whole = opened n h _ _ _ _ _ c.in-Some.ensures.read (part_read_of c.in-Ok.ensures) in
    let same = ap (λ (m : Header). m.parameters) (ap (λ v. v.meaning) c.header.view_is) in
    let order = order_of c.in-Ok-read_u8.ensures ∙ taken_part _ _ c.in-Ok.ensures ∙ c.in-Some.ensures.order in
    let operands = (g.R.Reader.seen c.read_u8.new.self).bytes in
    let operand =
    read_of c.in-Ok-read_set_address.ensures
    ∙ ap (λ (is_big : Bool). number_at is_big c.header.inside.parameters.encoding.address_size operands) order
    ∙ ap (λ (k : Parameters). number_at n.is_big k.encoding.address_size operands) same in
    rw whole (λ is.
    sets_address n h _ _ _ c.in-Ok-read_u8.opcode (read_of c.in-Ok-read_u8.ensures) c.args.self.now (search rules) _ _
    operand _ same _ c.exec_set_address.ensures)

pub returns-in-Some-read_short_uleb128-clause-executed : goal.returns-in-Some-read_short_uleb128-clause-executed
returns-in-Some-read_short_uleb128-clause-executed g c =
    let n = layout_of (g.R.Reader.seen c.args.input.now).is_big g.R.Offset.ReaderOffset.limit in
    let h = c.args.header.now.meaning in
    let whole = opened n h _ _ _ _ _ c.in-Some.ensures.read (part_read_of c.in-Ok.ensures) in
    rw (whole, c.set_register-in-DW_LNE_set_discriminator.ensures) (λ is.
    sets_discriminator n h _ _ _ c.in-Ok-read_u8.opcode (read_of c.in-Ok-read_u8.ensures) c.args.self.now (search rules)
    _ _
    c.in-Some-read_short_uleb128.ensures.read)
