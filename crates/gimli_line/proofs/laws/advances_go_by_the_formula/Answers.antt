use Rattle.std.specs.Prelude.{◌≡◌, ◌+◌, ◌*◌, ◌/◌, ◌%◌, ◌^◌, ◌<◌}
use Rattle.gimli_line.proofs.Common.{ℕ, arith, OperationPointer}
use Rattle.gimli_line.proofs.laws.advances_go_by_the_formula.Goals as goal

-- where an instruction has one operation
one_operation : (address op_index n minimum : ℕ) → n < 2 ^ 64 → op_index < 1
    → (let p : OperationPointer = record { address = address + minimum * n % 2 ^ 64; op_index = 0 } in p)
    ≡ record {
      address = address + minimum * ((op_index + n) % 2 ^ 64 / 1) % 2 ^ 64;
      op_index = (op_index + n) % 2 ^ 64 % 1;
    }
one_operation address op_index n minimum short within = grind arith

pub returns : goal.returns
returns c parameters n p short within = grind arith
