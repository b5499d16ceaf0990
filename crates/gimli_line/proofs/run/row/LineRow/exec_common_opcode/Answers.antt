use Rattle.std.specs.Prelude.{◌≡◌}
use Rattle.gimli_line.proofs
use proofs.Common.{rules, arith, to_z, of_z, w64}
use Rattle.std.proofs.lemmas.Int.{ints}
use proofs.Executions.{copies, negates, advances_line, sets_file, sets_column}
use proofs.run.row.LineRow.exec_common_opcode.Goals as goal

pub returns-in-DW_LNS_copy-clause-executed : goal.returns-in-DW_LNS_copy-clause-executed
returns-in-DW_LNS_copy-clause-executed g c = grind (arith, copies, rules)

pub returns-in-Some-clause-executed : goal.returns-in-Some-clause-executed
returns-in-Some-clause-executed g c =
    let back : to_z w64 (of_z w64 c.in-Some.line_advance) ≡ c.in-Some.line_advance = omega (arith, ints) in
    rw (c.set_register.ensures, back) (λ is n h.
    advances_line n h _ _ _ c.args.opcode.0 (search rules) _ c.in-Some.ensures.read)

pub returns-in-Some-read_short_uleb128-clause-executed : goal.returns-in-Some-read_short_uleb128-clause-executed
returns-in-Some-read_short_uleb128-clause-executed g c =
    rw c.set_register-in-DW_LNS_set_file.ensures (λ is n h.
    sets_file n h _ _ _ c.args.opcode.0 (search rules) _ c.in-Some-read_short_uleb128.ensures.read)

pub returns-in-Some-read_short_uleb128-2-clause-executed : goal.returns-in-Some-read_short_uleb128-2-clause-executed
returns-in-Some-read_short_uleb128-2-clause-executed g c =
    rw c.set_register-in-DW_LNS_set_column.ensures (λ is n h.
    sets_column n h _ _ _ c.args.opcode.0 (search rules) _ c.in-Some-read_short_uleb128-2.ensures.read)

pub returns-in-DW_LNS_negate_stmt-clause-executed : goal.returns-in-DW_LNS_negate_stmt-clause-executed
returns-in-DW_LNS_negate_stmt-clause-executed g c =
    rw c.set_register-in-DW_LNS_negate_stmt.ensures (λ is n h. negates n h _ _ c.args.opcode.0 (search rules))
