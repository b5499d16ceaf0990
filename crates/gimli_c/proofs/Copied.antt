-- What calls that copy bytes do.
use Rattle.std.proofs.Common.{◌≡◌, ℕ, List, true, false, nat_eq, refl, sym, ap, subst, ◌∙◌, arith}
use Rattle.std.proofs.lemmas.Bool.{false≢true}
use Rattle.std.proofs.lemmas.Bool.Decides.{nat_tests}
use Rattle.std.specs.Prelude.{◌≢◌}
use Rattle.gimli_c.specs.Written.{Copies}
use Rattle.gimli_c.specs.declared.status.TheConstants.{NO_ROOM, OK}

same : (n : ℕ) → nat_eq n n ≡ true
same n = grind (arith, nat_tests)

-- two numbers of which a test says that they differ
pub apart : (a b : ℕ) → nat_eq a b ≡ false → a ≢ b
apart a b differ is = false≢true (sym differ ∙ ap (nat_eq a) (sym is) ∙ same a)

module _ (Is : List ℕ → Type 0) (IsReason : ℕ → Type 0) (status : ℕ) (old : List ℕ) (size_old : ℕ) where
  -- bytes of which this holds are copied
  pub copied : (bytes new : List ℕ) (size_new : ℕ) → Is bytes
      → Copies (λ whole. whole ≡ bytes) (λ _. ⊥) status old new size_old size_new
      → Copies Is IsReason status old new size_old size_new
  copied bytes new size_new is c = record {
    found = λ ok.
        let given = c.found ok in
        record { whole = given.whole; is = subst Is (sym given.is) is; put = given.put; size_is = given.size_is };
    larger = λ no_room.
        let given = c.larger no_room in
        record {
          whole = given.whole;
          is = subst Is (sym given.is) is;
          longer = given.longer;
          size_is = given.size_is;
        };
    refused = λ some other. absurd (c.refused some other);
    kept = c.kept;
    no_size = c.no_size;
  }

  -- nothing is written, for a reason
  pub not_copied : status ≢ OK → status ≢ NO_ROOM → IsReason status
      → Copies Is IsReason status old old size_old size_old
  not_copied some other reason = record {
    found = λ ok. absurd (some ok);
    larger = λ no_room. absurd (other no_room);
    refused = λ _ _. reason;
    kept = λ _. refl;
    no_size = λ _ _. refl;
  }

  -- the same of a status that is known
  pub not_copied_at : nat_eq status OK ≡ false → nat_eq status NO_ROOM ≡ false → IsReason status
      → Copies Is IsReason status old old size_old size_old
  not_copied_at some other reason = not_copied (apart status OK some) (apart status NO_ROOM other) reason

-- what holds of what is copied, and why nothing is, by other names
pub copies_more : (Is Other : List ℕ → Type 0) (IsReason OtherReason : ℕ → Type 0) (status : ℕ) (old new : List ℕ)
    (size_old size_new : ℕ) → ((whole : List ℕ) → Is whole → Other whole)
    → ((s : ℕ) → IsReason s → OtherReason s) → Copies Is IsReason status old new size_old size_new
    → Copies Other OtherReason status old new size_old size_new
copies_more Is Other IsReason OtherReason status old new size_old size_new f g c = record {
  found = λ ok.
      let given = c.found ok in
      record { whole = given.whole; is = f given.whole given.is; put = given.put; size_is = given.size_is };
  larger = λ no_room.
      let given = c.larger no_room in
      record { whole = given.whole; is = f given.whole given.is; longer = given.longer; size_is = given.size_is };
  refused = λ some other. g status (c.refused some other);
  kept = c.kept;
  no_size = c.no_size;
}
