use Rattle.gimli_line.proofs
use proofs.Common.{rules, ap, sym, ◌∙◌, nat_le, layout_of, Parameters, read_of, part_read_of}
use proofs.OtherExecutions.{opened, defines}
use proofs.run.from_bytes.read_defined_file.Goals as goal

pub returns-in-Ok-parse-clause-read : goal.returns-in-Ok-parse-clause-read
returns-in-Ok-parse-clause-read g c =
    let n = layout_of _ _ in
    let h = c.args.header.now.meaning in
    let whole = opened n h _ _ _ _ _ c.in-Some.ensures.read (part_read_of c.in-Ok.ensures) in
    let same = ap (λ m. m.parameters) (ap (λ v. v.meaning) c.header.view_is) in
    let old = ap (λ (k : Parameters). nat_le k.encoding.version 4) (sym same) ∙ search rules in
    whole ∙ defines n h _ _ _ c.in-Ok-read_u8.opcode (read_of c.in-Ok-read_u8.ensures) (search rules) old _ _
    (part_read_of c.in-Ok-read_null_terminated_slice.ensures) _ _
    (read_of c.in-Ok-parse.ensures.read)
