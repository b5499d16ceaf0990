use Rattle.gimli_build.proofs
use proofs.building.TableLemmas.{directories_cloned, files_cloned}
use proofs.built.files.FileTableClone.clone.Goals as goal

pub invariant_of-result : goal.invariant_of-result
invariant_of-result c = rw (
  directories_cloned _ _ c.in_ok-clone.ensures.cases,
  files_cloned _ _ c.in_ok-clone-2.ensures.cases,
) c.self.invariant

pub returns : goal.returns
returns c = record {
  cases = rw (← c.self.view_is) (λ i. record {
    directories = directories_cloned _ _ c.in_ok-clone.ensures.cases i;
    files = files_cloned _ _ c.in_ok-clone-2.ensures.cases i;
  });
}
