use Rattle.std.specs.Prelude.{◌++◌}
use Rattle.gimli_write.proofs
use proofs.Common.{sym, ap, ◌∙◌, ins_seen, Unread}
use Rattle.gimli_write.specs.inside.convert.Tombstones.{watched}
use proofs.Tombstones.{nothing_hides, fault_hides, instruction_hides}
use proofs.convert.tombstones.Watch.step.Goals as goal

pub returns-in-Err : goal.returns-in-Err
returns-in-Err g c =
    let e = c.in-Err.ensures.refusal in fault_hides c.args.header.now.meaning (watched c.args.self.now) _ e.0 e.2

pub returns-in-Ok-None : goal.returns-in-Ok-None
returns-in-Ok-None g c =
    let n = rw c.in-Ok-None.field-0-is at c.in-Ok-None.ensures.next in
    nothing_hides c.args.header.now.meaning (watched c.args.self.now) n.0

pub returns-in-Ok-Some : goal.returns-in-Ok-Some
returns-in-Ok-Some g c =
    let n = rw c.in-Ok-Some.field-0-is at c.in-Ok-Some.ensures.next in
    let i = ins_seen g.R.Reader.seen g.R.Offset.ReaderOffset.number c.in-Ok-Some.instruction in
    let unread = c.execute.ensures.unread in
    instruction_hides c.args.header.now.meaning (watched c.args.self.now) (watched c.execute.new.self) i n.0
    (ap (λ (u : Unread). u.layout) unread ∙ c.in-Ok-Some.ensures.layout)
    (n.1 ∙ ap (λ (u : Unread). n.0 ++ u.bytes) (sym unread)) n.2 c.execute.ensures.row c.execute.ensures.gave _
    c.execute.ensures.hides
