use Rattle.std.proofs.Common.{ℕ, ◌+◌, ◌%◌, ◌^◌, ◌≤◌, ◌<◌, List, ◌++◌, length, take, drop, sym, ap, subst, ◌∙◌, arith}
use Rattle.std.proofs.Math.Nat.{mod-eq_of_lt}
use Rattle.gimli_core.specs.Numbers.{number_bytes}
use Rattle.gimli_core.specs.Order.{is_big_endian}
use Rattle.elf_sections.specs.Layout.{with_number}
use Rattle.elf_sections.specs.Machine.{size_of}
use Rattle.elf_sections.specs.declared.machine.Width.{Width}
use Rattle.elf_sections.proofs.Written.{one_byte, byte_set, number_put}
use Rattle.elf_sections.proofs.layout.Layout.put_number.Goals as goal

pub returns-in-One : goal.returns-in-One
returns-in-One c =
    let within : c.args.offset + 1 ≤ length c.args.bytes.now
    = subst (λ (width : Width). c.args.offset + size_of width ≤ length c.args.bytes.now) c.in-One.is c.requires in
    byte_set c.args.offset (c.args.number % 256) c.args.bytes.now (omega arith)
    ∙ ap (λ (number : List ℕ).
    take c.args.offset c.args.bytes.now ++ number ++ drop (c.args.offset + 1) c.args.bytes.now)
    (sym (one_byte (is_big_endian c.args.self.order) c.args.number))
    ∙ ap (λ (width : Width). with_number c.args.self (size_of width) c.args.offset c.args.number c.args.bytes.now)
    (sym c.in-One.is)

pub returns-in-Two : goal.returns-in-Two
returns-in-Two c =
    number_put c.args.offset 2 c.args.bytes.now c.write_u16.new.buf
    (number_bytes (is_big_endian c.args.self.order) 2 (c.args.number % 65536))
    (subst (λ (width : Width). c.args.offset + size_of width ≤ length c.args.bytes.now) c.in-Two.is c.requires)
    c.write_u16.ensures
    ∙ ap (λ (width : Width). with_number c.args.self (size_of width) c.args.offset c.args.number c.args.bytes.now)
    (sym c.in-Two.is)

pub returns-in-Four : goal.returns-in-Four
returns-in-Four c =
    number_put c.args.offset 4 c.args.bytes.now c.write_u32.new.buf
    (number_bytes (is_big_endian c.args.self.order) 4 (c.args.number % 4294967296))
    (subst (λ (width : Width). c.args.offset + size_of width ≤ length c.args.bytes.now) c.in-Four.is c.requires)
    c.write_u32.ensures
    ∙ ap (λ (width : Width). with_number c.args.self (size_of width) c.args.offset c.args.number c.args.bytes.now)
    (sym c.in-Four.is)

pub returns-in-Eight : goal.returns-in-Eight
returns-in-Eight c =
    let fits : c.args.number < 2 ^ 64 = omega arith in
    number_put c.args.offset 8 c.args.bytes.now c.write_u64.new.buf
    (number_bytes (is_big_endian c.args.self.order) 8 c.args.number)
    (subst (λ (width : Width). c.args.offset + size_of width ≤ length c.args.bytes.now) c.in-Eight.is c.requires)
    c.write_u64.ensures
    ∙ ap (λ (number : ℕ).
    take c.args.offset c.args.bytes.now ++ number_bytes (is_big_endian c.args.self.order) 8 number
    ++ drop (c.args.offset + 8) c.args.bytes.now)
    (sym (mod-eq_of_lt fits))
    ∙ ap (λ (width : Width). with_number c.args.self (size_of width) c.args.offset c.args.number c.args.bytes.now)
    (sym c.in-Eight.is)
