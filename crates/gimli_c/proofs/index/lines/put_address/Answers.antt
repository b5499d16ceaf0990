use Rattle.std.proofs.Common.{arith}
use Rattle.gimli_c.proofs.Arrays.{copied_next}
use Rattle.gimli_c.proofs.TakenOne.{past_room}
use Rattle.gimli_c.proofs.index.lines.put_address.Goals as goal

pub returns-then-slot-room : goal.returns-then-slot-room
returns-then-slot-room c = λ xs old is so_far. copied_next xs old c.args.room.now c.args.slot c.args.address is so_far

pub returns-else-slot-room : goal.returns-else-slot-room
returns-else-slot-room c = λ xs old is so_far. past_room xs old c.args.room.now c.args.slot (omega arith) so_far
