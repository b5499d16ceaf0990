-- Files that were there keep their ids and their numbers.
use Rattle.std.specs.Prelude.{◌++◌, ◌∷◌}
use Rattle.gimli_write.proofs.Common
use Common.{List, [], sym, ap, ◌∙◌, arith, Some, length-append, get_or_append_left, slice_get-get_or}
use Common.{Keeps, SourceTables, KeepsFiles}

module _ {A : Type 0} where
  -- one more comes last
  pub keeps_more : (xs : List A) (x : A) → Keeps xs (xs ++ x ∷ [])
  keeps_more xs x = record {
    grows = omega (arith, length-append xs (x ∷ []));
    stays = λ i h. slice_get-get_or _ i x (omega (arith, length-append xs (x ∷ [])))
        ∙ ap Some (get_or_append_left xs (x ∷ []) x i h) ∙ sym (slice_get-get_or _ i x h);
  }

pub files_self : {c : SourceTables} → KeepsFiles c c
files_self = grind arith

pub files_then : {a b c : SourceTables} → KeepsFiles a b → KeepsFiles b c → KeepsFiles a c
files_then first second = grind arith
