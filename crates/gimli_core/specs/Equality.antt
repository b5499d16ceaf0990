-- What an equality says, and a clone.
use Rattle.std.specs.Prelude.{◌≡◌, Bool, Decides}
use Rattle.std.specs.declared.clone.Clone as clone

-- it holds exactly where the two are the same, which is where they agree in all their parts
abbrev pub IsExact : {A : Type 0} → (A → A → Bool) → Type 0
IsExact {A} eq = (x y : A) → Decides (eq x y) (x ≡ y)

-- it holds exactly where the two look the same, seen by view
abbrev pub ComparesBy : {A B : Type 0} → (A → B) → (A → A → Bool) → Type 0
ComparesBy {A} view eq = (x y : A) → Decides (eq x y) (view x ≡ view y)

-- ---- clones

-- each clone is the value that it was made of
abbrev pub IsSameClone : {A : Type 0} → (A → A → Type 0) → Type 0
IsSameClone {A} is_clone = (x y : A) → is_clone x y → y ≡ x

-- no clone is refused
abbrev pub AreAlwaysCloned : {A : Type 0} → (A → Type 0) → Type 0
AreAlwaysCloned {A} is_infallible = (x : A) → is_infallible x

-- both: a clone is never refused, and it is the value itself
abbrev pub GivesSame : {A : Type 0} → (A → A → Type 0) → (A → Type 0) → Type 0
GivesSame {A} is_clone is_infallible = (x : A) → is_infallible x × ((y : A) → is_clone x y → y ≡ x)

-- the same, of the clones of a type
abbrev pub ClonesGiveSame : {A : Type 0} → clone.Ghosts A → Type 0
ClonesGiveSame clones = GivesSame clones.is_clone clones.is_infallible
