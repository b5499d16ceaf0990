-- What a hash says of an equality.
use Rattle.std.specs.Prelude.{◌≡◌, Bool, true}

-- equal values hash alike: what is handed to a hasher is the same
abbrev pub HashAlike : {A B : Type 0} → (A → A → Bool) → (A → B) → Type 0
HashAlike {A} eq hash_input = (x y : A) → eq x y ≡ true → hash_input x ≡ hash_input y
