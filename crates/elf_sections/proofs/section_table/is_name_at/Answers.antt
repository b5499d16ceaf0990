use Rattle.std.proofs.Common.{◌-◌, ◌∙◌, sym, length, take, drop, arith}
use Rattle.std.proofs.lemmas.Slice.{between_to_end}
use Rattle.elf_sections.proofs.Names.{byte_after, another, zero_inside}
use Rattle.elf_sections.proofs.section_table.is_name_at.Goals as goal
use Rattle.elf_sections.proofs.section_table.is_name_at.Goals.{
  then-contains-via-then-contains,
  then-contains-via-else-contains+then-not-starts_with,
}

pub returns-then-contains : goal.returns-then-contains
returns-then-contains c =
    elim c.then-contains.branch [
      | then-contains-via-then-contains w ↦
          zero_inside c.args.names.now c.args.name.now c.args.offset (sym c.contains.ensures.value ∙ w.if-contains.true)
      | then-contains-via-else-contains+then-not-starts_with w ↦
          another c.args.names.now c.in-Some.text.now c.args.name.now c.args.offset
          (c.in-Some.ensures.lookup.0.2
          ∙ between_to_end c.args.names.now c.args.offset (length c.args.names.now) (omega arith))
          (sym c.contains.ensures.value ∙ w.if-contains.false)
          (sym w.starts_with.ensures.value ∙ w.if-not-starts_with.true)
    ]

pub returns-in-len1-up : goal.returns-in-len1-up
returns-in-len1-up c =
    byte_after c.args.names.now c.in-Some.text.now c.args.name.now
    (take (length c.in-Some.text.now - length c.args.name.now) (drop (length c.args.name.now) c.in-Some.text.now))
    c.args.offset
    (c.in-Some.ensures.lookup.0.2
    ∙ between_to_end c.args.names.now c.args.offset (length c.args.names.now) (omega arith))
    (sym c.contains.ensures.value ∙ c.if-contains.false) (sym c.starts_with.ensures.value ∙ c.if-not-starts_with.false)
    (between_to_end c.in-Some.text.now (length c.args.name.now) (length c.in-Some.text.now) (omega arith))
    c.in-len1-up.len_at_least
