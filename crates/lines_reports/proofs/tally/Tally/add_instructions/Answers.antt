use Rattle.std.proofs.Common.{List, ℕ, sym, ap, subst, ◌∙◌}
use Rattle.std.specs.Prelude.{option_map}
use Rattle.gimli_core.specs.Layout.{OrderAndLimit}
use Rattle.gimli_line.specs.header.Header.{Header}
use Rattle.gimli_line.specs.run.Instruction.{ins_seen}
use Rattle.gimli_line.specs.run.Unread.{Unread}
use Rattle.lines_reports.specs.inside.Progress.{AreCounted}
use Rattle.lines_reports.proofs.Counting.{counted_none, next_counted}
use Rattle.lines_reports.proofs.tally.Tally.add_instructions.Goals as goal

pub instructions-init : goal.instructions-init
instructions-init g c =
    let h : Header = c.args.header.now.meaning in
    let layout : OrderAndLimit = c.args.header.now.layout in
    record {
      counted =
          subst (λ (xs : List ℕ). AreCounted layout h h.program c.args.self.now xs c.args.self.now)
          (sym c.requires.bytes)
          (counted_none layout h h.program c.args.self.now);
      same = c.requires.bytes ∙ sym (ap (λ (u : Unread). u.bytes) c.instructions-instructions.ensures);
      layout = ap (λ (u : Unread). u.layout) c.instructions-instructions.ensures;
    }

pub returns-in_err-bytes-clause-counted : goal.returns-in_err-bytes-clause-counted
returns-in_err-bytes-clause-counted g c =
    let next = rw c.in-Some.is at c.in_ok-instruction.ensures.next in
    let no =
    c.in_err-bytes.ensures.sizes _ c.args.header.now.meaning _ next.0 _ (c.instructions.invariant.same ∙ next.1)
    (c.into_u64.ensures ∙ c.len.ensures) next.2 in
    absurd cc

pub returns-in_err-bytes-clause-fault : goal.returns-in_err-bytes-clause-fault
returns-in_err-bytes-clause-fault g c =
    let next = rw c.in-Some.is at c.in_ok-instruction.ensures.next in
    let no =
    c.in_err-bytes.ensures.sizes _ c.args.header.now.meaning _ next.0 _ (c.instructions.invariant.same ∙ next.1)
    (c.into_u64.ensures ∙ c.len.ensures) next.2 in
    absurd cc

pub returns-in_err-bytes-clause-some : goal.returns-in_err-bytes-clause-some
returns-in_err-bytes-clause-some g c =
    let next = rw c.in-Some.is at c.in_ok-instruction.ensures.next in
    let no =
    c.in_err-bytes.ensures.sizes _ c.args.header.now.meaning _ next.0 _ (c.instructions.invariant.same ∙ next.1)
    (c.into_u64.ensures ∙ c.len.ensures) next.2 in
    absurd cc

pub instructions-preserved : goal.instructions-preserved
instructions-preserved g c =
    let h : Header = c.args.header.now.meaning in
    let layout : OrderAndLimit = c.args.header.now.layout in
    let seen = ins_seen g.R.Reader.seen g.R.Offset.ReaderOffset.number in
    let done =
    next_counted layout h h.program (g.R.Reader.seen c.instructions.rest).bytes
    (g.R.Reader.seen c.instruction_bytes.new.rest).bytes c.args.self.now
    c.instructions.self c.add.new.self c.instructions.instructions c.next_instruction.new.self
    (option_map seen c.in_ok-instruction.field-0)
    (seen c.in-Some.instruction) c.on.result c.in_ok-bytes.bytes _ (c.into_u64.ensures ∙ c.len.ensures)
    (ap (option_map seen) c.in-Some.is)
    c.in_ok-instruction.ensures.next
    c.instructions.invariant.same c.instructions.invariant.layout c.instructions.invariant.counted
    c.in_ok-bytes.ensures.sizes
    c.in_ok-bytes.ensures.left c.on.ensures c.add.ensures in
    record {
      counted = done.0;
      same = done.1;
      layout = c.next_instruction.ensures.layout ∙ c.instructions.invariant.layout;
    }
