-- Marks of files.
use Rattle.std.proofs.Common.{◌≡◌, ◌||◌, ℕ, Bool, true, false, List, refl, ap, ◌∙◌}
use Rattle.std.specs.Prelude.{Option, Some, None, slice_get, option_map}
use Rattle.gimli_lookup.specs.RowFiles.{AreMarked}

or_false : (b : Bool) → b ≡ (b || false)
or_false true = refl
or_false false = refl

or_or : (a b c : Bool) → ((a || b) || c) ≡ (a || (b || c))
or_or true b c = refl
or_or false b c = refl

stays : (m : Option Bool) → m ≡ option_map (λ mark. mark || false) m
stays None = refl
stays (Some b) = ap Some (or_false b)

-- no number passes
pub none_marked : (marks : List Bool) → AreMarked (λ n. false) marks marks
none_marked marks n = stays (slice_get marks n)

both : (a b c : Bool) (m : Option Bool) → (a || b) ≡ c
    → option_map (λ mark. mark || b) (option_map (λ mark. mark || a) m) ≡ option_map (λ mark. mark || c) m
both a b c None is = refl
both a b c (Some m) is = ap Some (or_or m a b ∙ ap (λ (x : Bool). m || x) is)

-- marks after marks
pub marked_too : (before here all : ℕ → Bool) (old now new : List Bool) → ((n : ℕ) → (before n || here n) ≡ all n)
    → AreMarked before old now → AreMarked here now new → AreMarked all old new
marked_too before here all old now new is first second n =
    second n ∙ ap (λ (m : Option Bool). option_map (λ mark. mark || here n) m) (first n)
    ∙ both (before n) (here n) (all n) (slice_get old n) (is n)
