use Rattle.gimli_build.proofs
use proofs.Common.{rules, sym, ap, length}
use proofs.building.TableLemmas.{numbered_more}
use proofs.built.files.FilesIterator.next.Goals as goal

pub returns-clause-steps : goal.returns-clause-steps
returns-clause-steps c = rw (← c.self.view_is, ← c.table.view_is)
    (numbered_more c.table.inside.files.entries c.self.inside.next _ _ (sym c.in_ok-key.ensures.entry))

pub returns-clause-goes : goal.returns-clause-goes
returns-clause-goes c = let s = returns-clause-steps c in search (rules, ap length s)
