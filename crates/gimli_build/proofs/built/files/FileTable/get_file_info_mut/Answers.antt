use Rattle.gimli_build.proofs
use proofs.Common.{◌∙◌, ap, refl, sym, option_copied_mut, directories_of}
use proofs.building.TableLemmas.{files_with, written-AreTables, details_at}
use proofs.built.files.FileTable.get_file_info_mut.Goals as goal

pub invariant_of-self-lent : goal.invariant_of-self-lent
invariant_of-self-lent c = λ w. written-AreTables _ _ _ w c.self.invariant

pub returns : goal.returns
returns c = (
  (
    refl,
    λ w. rw (← c.self.view_is, ← c.id.view_is) (ap (λ fs.
        record { directories = directories_of c.self.inside.directories.keys; files = fs })
        (files_with _ _ w)),
  ),
  record {
    lends = tt;
    value = rw (← c.self.view_is, ← c.id.view_is) (details_at c.self.inside.files.entries c.id.inside.0 _
        (sym (ap option_copied_mut c.unwrap.ensures) ∙ c.get_index_mut.ensures.value));
  },
)
