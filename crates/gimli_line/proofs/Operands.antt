-- Passing over the operands of an opcode, as a loop does.
use Rattle.std.specs.Prelude.{◌≡◌, ◌+◌, ◌-◌, ◌<◌, ◌∷◌, ◌++◌}
use Rattle.gimli_line.proofs.Common
use Common.{ℕ, suc, List, Ok, Err, refl, sym, ap, ◌∙◌, arith, Error, Read, ◌>>=◌, Production, times, unsigned}
use Common.{bind_ok, ok_parts, reads_times, reads_unsigned, without_value}

module _ {A : Type 0} (l : Production A) where
  after_item : (x : A) (r : Read (List A))
      → without_value (r >>= λ xs left. (let s : Read (List A) = (Ok (x ∷ xs), left) in s)) ≡ without_value r
  after_item x (Ok xs, left) = refl
  after_item x (Err e, left) = refl

  pub passes_on : (count i : ℕ) (bytes : List ℕ) (x : A) (left : List ℕ) (total : Read (Unit {0})) → i < count
      → (Ok x, left) ≡ l.read bytes
      → without_value ((times (count - i) l).read bytes) ≡ total
      → without_value ((times (count - (i + 1)) l).read left) ≡ total
  passes_on count i bytes x left total lt is so_far =
      let k : count - i ≡ suc (count - (i + 1)) = omega arith in
      let one : without_value ((times (count - i) l).read bytes)
      ≡ without_value ((times (count - (i + 1)) l).read left) =
      rw (k, ← is) (after_item x _) in
      sym one ∙ so_far

  pub pass_ends : (count i : ℕ) (bytes : List ℕ) (e : Error) (left : List ℕ) (total : Read (Unit {0})) → i < count
      → (Err e, left) ≡ l.read bytes
      → without_value ((times (count - i) l).read bytes) ≡ total → (Err e, left) ≡ total
  pass_ends count i bytes e left total lt is so_far = grind arith

-- what was passed over stood in front of what is left
pub passed_front : (count : ℕ) (bytes left : List ℕ) (u : Unit {0})
    → (Ok u, left) ≡ without_value ((times count unsigned).read bytes)
    → (front : List ℕ) × (bytes ≡ front ++ left)
passed_front count bytes left u is =
    let a =
    bind_ok _ (λ xs rest. (let s : Read (Unit {0}) = (Ok tt, rest) in s)) u _
    (sym is) in
    let f = (reads_times count unsigned reads_unsigned).found bytes a.0 a.1 a.2 in
    (f.0, f.1 ∙ ap (λ xs. f.0 ++ xs) (ok_parts tt u _ _ a.3).1)
