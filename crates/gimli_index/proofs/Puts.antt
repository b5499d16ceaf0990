-- Bytes that are appended one element after the other.
use Rattle.std.proofs.Common.{◌≡◌, ℕ, List, ◌++◌, ap, ◌∙◌, append_assoc}

-- more bytes after some
pub then_put : (old done more mid new : List ℕ) → mid ≡ old ++ done → new ≡ mid ++ more → new ≡ old ++ (done ++ more)
then_put old done more mid new before put = put ∙ ap (λ (l : List ℕ). l ++ more) before ∙ append_assoc old done more
