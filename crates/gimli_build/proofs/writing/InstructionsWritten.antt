-- Instructions written one after the other.
use Rattle.std.specs.Prelude.{◌≡◌, ◌++◌, ◌∷◌, ◌+◌, ◌-◌, ◌*◌, if◌then◌else◌}
use Rattle.gimli_build.proofs.Common
use Common.{List, [], ℕ, Ok, Err, refl, Bool, true, false, Some, None, nat_le, sym, Result, result_map, Error, Ghosts}
use Common.{Ins, instructions_bytes, instruction_bytes, result_append, Writes, always, none-some, flat_map-append}
use Common.{LineEncoding, ConstAddPc, AdvancePc, operation_part, row_maker, constant_advance}

pub bytes_append : (is js : List Ins) → instructions_bytes (is ++ js) ≡ instructions_bytes is ++ instructions_bytes js
bytes_append is js = flat_map-append instruction_bytes is js

-- where no byte has the special opcode, it is past 255
pub past : (fits : Bool) (s : ℕ) → (if fits then Some s else None) ≡ None → fits ≡ false
past true s none = absurd (none-some s (sym none))
past false s none = refl

-- what a byte has
pub found : (fits : Bool) (s t : ℕ) → (if fits then Some s else None) ≡ Some t → (fits ≡ true) × (t ≡ s)
found true s t same = let p : s ≡ t = cc in (refl, sym p)
found false s t same = absurd (none-some t same)

-- with const_add_pc it does
pub by_constant : (e : LineEncoding) (s n : ℕ) → nat_le (s + n * e.line_range) 255 ≡ false
    → nat_le (s + (n - constant_advance e) * e.line_range) 255 ≡ true
    → operation_part e s n ≡ ConstAddPc ∷ row_maker e (s + (n - constant_advance e) * e.line_range) ∷ []
by_constant e s n over rest = rw (over, rest) refl

-- with it none does either
pub by_advance : (e : LineEncoding) (s n : ℕ) → nat_le (s + n * e.line_range) 255 ≡ false
    → nat_le (s + (n - constant_advance e) * e.line_range) 255 ≡ false
    → operation_part e s n ≡ AdvancePc n ∷ row_maker e s ∷ []
by_advance e s n over rest = rw (over, rest) refl

-- ---- calls that append the bytes of instructions

-- four parts
pub four_parts : {W X : Type 0} {sink : Ghosts W} {old new : W} {r : Result X Error} (f g h k : List Ins)
    → Writes sink old new r
    (always (Ok (instructions_bytes f ++ instructions_bytes g ++ instructions_bytes h ++ instructions_bytes k)))
    → Writes sink old new r (always (Ok (instructions_bytes (f ++ g ++ h ++ k))))
four_parts f g h k so = rw (bytes_append (f ++ g ++ h) k, bytes_append (f ++ g) h, bytes_append f g) so

-- the parts of a set address
pub address_parts : (operand : List ℕ) (r : Result (List ℕ) Error)
    → result_append (Ok (0 ∷ [])) (result_append (Ok operand) (result_append (Ok (0x02 ∷ [])) r))
    ≡ result_map (λ address. 0 ∷ operand ++ 0x02 ∷ address) r
address_parts operand (Ok address) = refl
address_parts operand (Err e) = refl
