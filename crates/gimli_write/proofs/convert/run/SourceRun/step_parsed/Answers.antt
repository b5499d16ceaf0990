use Rattle.std.specs.Prelude.{◌≡◌}
use Rattle.gimli_write.proofs
use proofs.Common.{false, refl, ap, SetAddress, DefineFile, file_seen, ins_seen, defines_file}
use proofs.TablesAtEnd.{none_last, fault_last, file_last}
use proofs.SourceSteps.{state, other_kind, spelled_as, is_shorter, none_left, at_fault, after_file}
use proofs.SourceFromBytes.{steps_source}
use proofs.convert.run.SourceRun.step_parsed.Goals as goal

pub returns-in-Err : goal.returns-in-Err
returns-in-Err g c =
    let e = rw c.header.ensures at c.in-Err.ensures.refusal in
    let s =
    state c.self.inside.program.meaning c.self.inside.row c.self.inside.base c.self.inside.pending
    c.self.inside.instructions in
    rw (← c.self.view_is) (record {
      reading = tt;
      refusal = λ sections tables. at_fault sections tables s _ e.0 e.2;
      tables = tt;
      stopped = λ sections tables. fault_last sections tables s _ e.0 e.2;
      shorter = tt;
      header = refl;
      layout = c.in-Err.ensures.layout;
    })

pub returns-in-Ok-None : goal.returns-in-Ok-None
returns-in-Ok-None g c =
    let n = rw c.in-Ok-None.field-0-is at c.in-Ok-None.ensures.next in
    let s =
    state c.self.inside.program.meaning c.self.inside.row c.self.inside.base c.self.inside.pending
    c.self.inside.instructions in
    rw (← c.self.view_is) (record {
      reading = λ sections tables. none_left sections tables s n.0;
      refusal = tt;
      tables = λ sections tables. none_last sections tables s n.0;
      stopped = tt;
      shorter = n.1;
      header = refl;
      layout = c.in-Ok-None.ensures.layout;
    })

pub returns-in-DefineFile : goal.returns-in-DefineFile
returns-in-DefineFile g c =
    let n = rw c.in-Ok-Some.field-0-is at c.in-Ok-Some.ensures.next in
    let s =
    state c.self.inside.program.meaning c.self.inside.row c.self.inside.base c.self.inside.pending
    c.self.inside.instructions in
    let u = c.next_instruction.new.self in
    let layout = c.in-Ok-Some.ensures.layout in
    let lent : c.header.result.now.meaning ≡ c.self.inside.program.meaning = rw c.header.ensures refl in
    let f = file_seen g.R.Reader.seen g.R.Offset.ReaderOffset.number c.in-DefineFile.file in
    let is : ins_seen g.R.Reader.seen g.R.Offset.ReaderOffset.number c.in-Ok-Some.instruction
    ≡ DefineFile f = rw c.in-DefineFile.is refl in
    let spelled = spelled_as _ _ lent is n.2 in
    rw (← c.self.view_is) (record {
      reading = λ sections tables. after_file sections tables s u layout f _ n.1 spelled;
      refusal = tt;
      tables = λ sections tables. file_last sections tables s u layout f _ n.1 spelled;
      stopped = tt;
      shorter = is_shorter s.unread.layout s.header s.unread.bytes _ _ _ n.1 spelled;
      header = refl;
      layout = layout;
    })

pub returns-in-SetAddress : goal.returns-in-SetAddress
returns-in-SetAddress g c =
    let n = rw c.in-Ok-Some.field-0-is at c.in-Ok-Some.ensures.next in
    let s =
    state c.self.inside.program.meaning c.self.inside.row c.self.inside.base c.self.inside.pending
    c.self.inside.instructions in
    let u = c.next_instruction.new.self in
    let lent : c.header.result.now.meaning ≡ c.self.inside.program.meaning = rw c.header.ensures refl in
    let is : ins_seen g.R.Reader.seen g.R.Offset.ReaderOffset.number c.in-Ok-Some.instruction
    ≡ SetAddress c.in-SetAddress.address = rw c.in-SetAddress.is refl in
    let spelled = spelled_as _ _ lent is n.2 in
    rw (← c.self.view_is) (steps_source _ _ s c.set_address.new.self u c.in-Ok-Some.ensures.layout
    (SetAddress c.in-SetAddress.address) (n.0, n.1, spelled) _
    (ap (λ q. q.header) c.set_address.ensures) (ap (λ q. q.unread) c.set_address.ensures) refl refl
    c.set_address.ensures refl tt)

pub returns-in_default : goal.returns-in_default
returns-in_default g c =
    let n = rw c.in-Ok-Some.field-0-is at c.in-Ok-Some.ensures.next in
    let i = ins_seen g.R.Reader.seen g.R.Offset.ReaderOffset.number c.in-Ok-Some.instruction in
    let s =
    state c.self.inside.program.meaning c.self.inside.row c.self.inside.base c.self.inside.pending
    c.self.inside.instructions in
    let u = c.next_instruction.new.self in
    let lent : c.header.result.now.meaning ≡ c.self.inside.program.meaning = rw c.header.ensures refl in
    let spelled = spelled_as _ _ {i = i} {j = i} lent refl n.2 in
    let file : defines_file i ≡ false = other_kind g.R.Reader.seen g.R.Offset.ReaderOffset.number _
    (λ f is. c.in_default.not-DefineFile f is) in
    rw (← c.self.view_is) (steps_source _ _ s c.execute.new.self u c.in-Ok-Some.ensures.layout i (n.0, n.1, spelled) _
    c.execute.ensures.header c.execute.ensures.unread file
    c.execute.ensures.fits c.execute.ensures.step c.execute.ensures.made c.execute.ensures.overflow)
