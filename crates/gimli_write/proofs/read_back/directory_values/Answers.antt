use Rattle.std.proofs.Common.{rules, arith}
use Rattle.gimli_write.proofs.read_back.directory_values.Goals as goal
use Rattle.gimli_write.proofs.read_back.directory_values.Goals.{
  then-version-le4+in-Some+in_ok-push,
  then-version-le4+in_default,
  else-version-le4,
}

-- src/read_back.rt:82:1
pub returns-clause-ok : goal.returns-clause-ok
returns-clause-ok g c =
    grind (arith, then-version-le4+in-Some+in_ok-push, rules, then-version-le4+in_default, else-version-le4)
