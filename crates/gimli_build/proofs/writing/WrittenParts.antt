-- What bytes are made of that were joined.
use Rattle.std.specs.Prelude.{◌≡◌, ◌++◌}
use Rattle.gimli_build.proofs.Common.{ℕ, List, length, Ok, Err, refl, sym, Result, Error, result_append, after_length}

-- what was written is one thing
pub same_written : (a b : List ℕ) → ◌≡◌ {A = Result (List ℕ) Error} (Ok a) (Ok b) → b ≡ a
same_written a b e = let p : a ≡ b = cc in sym p

-- both parts were written
pub record Both (r s : Result (List ℕ) Error) (bytes : List ℕ) : Type 0 where
  pub first : List ℕ
  pub rest : List ℕ
  pub first_is : r ≡ Ok first
  pub rest_is : s ≡ Ok rest
  pub whole : bytes ≡ first ++ rest

pub both_written : (r s : Result (List ℕ) Error) (bytes : List ℕ) → result_append r s ≡ Ok bytes → Both r s bytes
both_written (Ok a) (Ok b) bytes e =
    let p : a ++ b ≡ bytes = cc in record { first = a; rest = b; first_is = refl; rest_is = refl; whole = sym p }
both_written (Ok a) (Err d) bytes e = absurd cc
both_written (Err d) s bytes e = absurd cc

-- bytes that can't be refused, and what was written after them
pub record Behind (first : List ℕ) (s : Result (List ℕ) Error) (bytes : List ℕ) : Type 0 where
  pub rest : List ℕ
  pub rest_is : s ≡ Ok rest
  pub whole : bytes ≡ first ++ rest

pub after_written : (first : List ℕ) (s : Result (List ℕ) Error) (bytes : List ℕ)
    → result_append (Ok first) s ≡ Ok bytes → Behind first s bytes
after_written first (Ok b) bytes e =
    let p : first ++ b ≡ bytes = cc in record { rest = b; rest_is = refl; whole = sym p }
after_written first (Err d) bytes e = absurd cc

-- what was written, and bytes after it that can't be refused
pub record Before (r : Result (List ℕ) Error) (last : List ℕ) (bytes : List ℕ) : Type 0 where
  pub front : List ℕ
  pub front_is : r ≡ Ok front
  pub whole : bytes ≡ front ++ last

pub before_written : (r : Result (List ℕ) Error) (last bytes : List ℕ) → result_append r (Ok last) ≡ Ok bytes
    → Before r last bytes
before_written (Ok a) last bytes e =
    let p : a ++ last ≡ bytes = cc in record { front = a; front_is = refl; whole = sym p }
before_written (Err d) last bytes e = absurd cc

-- a length, and what it counts
pub record Counted (length_of : ℕ → Result (List ℕ) Error) (r : Result (List ℕ) Error) (bytes : List ℕ) : Type 0 where
  pub inside : List ℕ
  pub size : List ℕ
  pub inside_is : r ≡ Ok inside
  pub size_is : length_of (length inside) ≡ Ok size
  pub whole : bytes ≡ size ++ inside

pub counted_written : (length_of : ℕ → Result (List ℕ) Error) (r : Result (List ℕ) Error) (bytes : List ℕ)
    → after_length length_of r ≡ Ok bytes
    → Counted length_of r bytes
counted_written length_of (Ok inside) bytes e =
    let b = before_written _ _ _ e in
    record { inside = inside; size = b.front; inside_is = refl; size_is = b.front_is; whole = b.whole }
counted_written length_of (Err d) bytes e = absurd cc
