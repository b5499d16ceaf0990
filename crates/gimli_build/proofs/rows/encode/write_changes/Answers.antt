use Rattle.std.specs.Prelude.{◌≡◌}
use Rattle.gimli_build.proofs
use proofs.Common
use Common.{Bool, true, false, nat_eq, not, refl, NegateStatement, SetFile, SetColumn, SetIsa, file_number, when}
use Common.{differ}
use Rattle.std.specs.Bool.{beq}
use proofs.writing.InstructionsWritten.{four_parts}
use proofs.writing.Writes.{bytes_unwritten, joins, unwritten, passed_on}
use proofs.rows.encode.write_changes.Goals as goal

differs : (a b : Bool) → not (beq a b) ≡ differ a b
differs true true = refl
differs true false = refl
differs false true = refl
differs false false = refl

pub returns-in_err-write_if-2-clause-writes : goal.returns-in_err-write_if-2-clause-writes
returns-in_err-write_if-2-clause-writes g c =
    passed_on c.from_residual-in_err-write_if-2.ensures.1
    (unwritten c.in_ok-write_if.ensures c.in_err-write_if-2.ensures)

pub returns-in_err-write_if-3-clause-writes : goal.returns-in_err-write_if-3-clause-writes
returns-in_err-write_if-3-clause-writes g c =
    passed_on c.from_residual-in_err-write_if-3.ensures.1
    (unwritten (joins c.in_ok-write_if.ensures c.in_ok-write_if-2.ensures) c.in_err-write_if-3.ensures)

pub returns-in_err-write_if-4-clause-writes : goal.returns-in_err-write_if-4-clause-writes
returns-in_err-write_if-4-clause-writes g c =
    passed_on c.from_residual-in_err-write_if-4.ensures.1
    (unwritten (joins (joins c.in_ok-write_if.ensures c.in_ok-write_if-2.ensures) c.in_ok-write_if-3.ensures)
    c.in_err-write_if-4.ensures)

pub returns-clause-writes : goal.returns-clause-writes
returns-clause-writes g c =
    let row = c.args.row.now in
    let previous = c.args.previous.now in
    let first = when (differ row.is_statement previous.is_statement) NegateStatement in
    let second = when (not (nat_eq row.file previous.file)) (SetFile (file_number c.args.version row.file)) in
    let third = when (not (nat_eq row.column previous.column)) (SetColumn row.column) in
    let fourth = when (not (nat_eq row.isa previous.isa)) (SetIsa row.isa) in
    let statement = rw (differs row.is_statement previous.is_statement) at c.in_ok-write_if.ensures in
    let file = rw (c.ne.ensures, c.raw.ensures) at c.in_ok-write_if-2.ensures in
    four_parts first second third fourth
    (joins (joins (joins statement file) c.in_ok-write_if-3.ensures) c.in_ok-write_if-4.ensures)

pub returns-in_err-write_if-clause-writes : goal.returns-in_err-write_if-clause-writes
returns-in_err-write_if-clause-writes g c =
    passed_on c.from_residual.ensures.1 (bytes_unwritten c.in_err-write_if.ensures)
