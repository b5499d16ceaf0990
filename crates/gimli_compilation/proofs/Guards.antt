-- Offsets and other bytes, as productions.
use Rattle.std.proofs.Common.{◌≡◌, ℕ, List, [], Result, Ok, refl, ap}
use Rattle.gimli_core.specs.Reading.{Read}
use Rattle.gimli_core.specs.declared.error.Error.{Error}
use Rattle.gimli_core.specs.Production.{Production, Reads}
use Rattle.gimli_core.proofs.Productions.{reads_both, reads_check}
use Rattle.gimli_core.proofs.ProductionLaws.{reads_some_bytes}
use Rattle.gimli_compilation.specs.Unit.{apart, from_offset}

-- a production from an offset on
pub reads_from_offset : {A : Type 0} (limit offset : ℕ) (l : Production A) → Reads l
    → Reads (from_offset limit offset l)
reads_from_offset limit offset l r =
    reads_both (reads_check _ _) (λ fits. reads_both (reads_some_bytes offset) (λ before. r))

-- a production on other bytes
pub reads_apart : {A : Type 0} (others : List ℕ) (l : Production A) → Reads l → Reads (apart others l)
reads_apart {A} others l r = record {
  found = λ bytes x rest e.
      let f = r.found others x _ (whole _ x (ap (λ y. y.0) e)) in
      ([], ap (λ y. y.1) e, (refl, (f.0, _, f.1, f.2)));
  only = λ front x rest s. rw (s.0, s.1.2, r.only s.1.0 x s.1.1 s.1.3) refl;
  fault = λ bytes e is. r.fault others e is;
  refused = λ bytes e f. r.refused others e f;
}
  where
    whole : (y : Read A) (x : A) → y.0 ≡ Ok x → y ≡ (Ok x, y.1)
    whole y x is = ap (λ (z : Result A Error). let s : Read A = (z, y.1) in s) is
