use Rattle.std.proofs.Common.{refl, sym, inl, ◌∙◌, arith}
use Rattle.gimli_index.specs.Lines.{addresses_left}
use Rattle.gimli_c.proofs.Arrays.{written_none, written_take}
use Rattle.gimli_c.proofs.TakenOne.{within, next_item, rest_items, no_item}
use Rattle.gimli_c.proofs.index.lines.put_addresses.Goals as goal

pub loop-slot-init : goal.loop-slot-init
loop-slot-init c = (sym (written_none c.args.room.now), refl, omega arith)

pub loop-slot-preserved : goal.loop-slot-preserved
loop-slot-preserved c =
    let all = addresses_left c.args.found in
    let rest = addresses_left c.next.new.self in
    let here = sym c.loop-slot.invariant.1 ∙ c.in-Some.ensures.steps in
    let inside = within all c.loop-slot.slot c.in-Some.address rest here in (
      c.put_address.ensures all c.args.room.now (next_item all c.loop-slot.slot c.in-Some.address rest here)
          c.loop-slot.invariant.0,
      rest_items all c.loop-slot.slot c.in-Some.address rest here,
      omega (arith, inside),
    )

pub returns-in_default-clause-put : goal.returns-in_default-clause-put
returns-in_default-clause-put c =
    let all = addresses_left c.args.found in
    c.loop-slot.invariant.0
    ∙ written_take c.loop-slot.slot all c.args.room.now
    (inl (no_item all c.loop-slot.slot (sym c.loop-slot.invariant.1 ∙ c.in_default.ensures.steps.0)))

pub returns-in_default-clause-count : goal.returns-in_default-clause-count
returns-in_default-clause-count c =
    let all = addresses_left c.args.found in
    let past = no_item all c.loop-slot.slot (sym c.loop-slot.invariant.1 ∙ c.in_default.ensures.steps.0) in
    omega (arith, past, c.loop-slot.invariant.2)

pub returns-clause-count : goal.returns-clause-count
returns-clause-count c = omega (arith, c.loop-slot.invariant.2, c.requires)
