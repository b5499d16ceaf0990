-- A header, and a run, that still come from the same source.
use Rattle.std.specs.Prelude.{◌≡◌}
use Rattle.gimli_line.proofs.Common
use Common.{Bool, refl, sym, ap, subst, ◌∙◌, SeenHeader, HeaderSource, KeepsSource, RunState, AddsInOrder}
use Common.{IsOfOneOrder, KeepsRun, SeesHeader, Seen}

pub source_kept : (Fits : Bool → Type 0) (source : HeaderSource) → KeepsSource Fits source source
source_kept Fits source = record { layout = refl; offset = refl; handed = refl; order = λ order fits are. are }

-- fewer orders fit
pub fits_less : (Fits Less : Bool → Type 0) (old new : HeaderSource) → ((order : Bool) → Less order → Fits order)
    → KeepsSource Fits old new
    → KeepsSource Less old new
fits_less Fits Less old new less keeps = record {
  layout = keeps.layout;
  offset = keeps.offset;
  handed = keeps.handed;
  order = λ order fits. keeps.order order (less order fits);
}

pub source_both : (Fits : Bool → Type 0) (a b c : HeaderSource) → KeepsSource Fits a b → KeepsSource Fits b c
    → KeepsSource Fits a c
source_both Fits a b c p q = record {
  layout = q.layout ∙ p.layout;
  offset = q.offset ∙ p.offset;
  handed = q.handed ∙ p.handed;
  order = λ order fits are. q.order order fits (p.order order fits are);
}

-- ---- runs

-- the instructions to come have the order that they had
still_adds : (a b : RunState) → KeepsRun a b → (order : Bool) → AddsInOrder a order → AddsInOrder b order
still_adds a b keeps order adds = λ appends. ap (λ n. n.is_big) keeps.unread ∙ adds (sym keeps.appends ∙ appends)

pub keeps_same : (x y : RunState) → x ≡ y → KeepsRun x y
keeps_same x y same = subst (KeepsRun x) same
    (record { fixed = refl; appends = refl; unread = refl; source = source_kept _ _ })

pub keeps_both : (x y z : RunState) → KeepsRun x y → KeepsRun y z → KeepsRun x z
keeps_both x y z p q = record {
  fixed = q.fixed ∙ p.fixed;
  appends = q.appends ∙ p.appends;
  unread = q.unread ∙ p.unread;
  source =
      source_both _ _ _ _ p.source (fits_less _ _ _ _ (still_adds x y p) q.source);
}

-- a run goes on, and the header is seen then
pub sees_after : {R Offset Endian : Type 0} (seen : R → Seen) (number : Offset → _) (x y : RunState)
    (h : SeenHeader R Offset Endian)
    → KeepsRun x y
    → SeesHeader seen number y h → SeesHeader seen number x h
sees_after seen number x y h p q = record {
  fixed = q.fixed ∙ p.fixed;
  source = source_both _ _ _ _ p.source
      (fits_less _ _ _ _ (still_adds x y p) q.source);
}

-- ---- one order

pub still_one : (x y : RunState) → KeepsRun x y → IsOfOneOrder x → IsOfOneOrder y
still_one x y keeps one = record {
  readers = rw keeps.source.layout (keeps.source.order x.source.layout.is_big one.unread one.readers);
  unread = rw keeps.source.layout (still_adds x y keeps _ one.unread);
}
