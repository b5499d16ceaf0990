-- What calls return: a value, or a refusal.
use Rattle.std.specs.Prelude.{◌≡◌, ◌≢◌, Result, Ok, Err}

-- one call after another, up to the first refusal
infixl 10 ◌>>=◌
abbrev pub ◌>>=◌ : {A B E : Type 0} → Result A E → (A → Result B E) → Result B E
(Ok x) >>= f = f x
(Err e) >>= f = Err e

-- what a call returned, its value seen by view, is this result; a refusal for missing memory says
-- nothing of it
abbrev pub Gives : {X Y E : Type 0} → E → (X → Y) → Result X E → Result Y E → Type 0
Gives no_memory view (Ok x) given = given ≡ Ok (view x)
Gives no_memory view (Err e) given = e ≢ no_memory → given ≡ Err e
