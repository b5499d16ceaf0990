-- The word of an offset as a number.
use Rattle.std.specs.Prelude.{◌≡◌, ◌<◌, ◌^◌}
use Rattle.gimli_bytes.proofs.Common.{ℕ, Bool, true, false, nat_eq, refl, lt-ltb, eqb-true, udata, section_word}

-- of 64 bits
pub word-is : (is_big : Bool) (n size : ℕ) → n < 2 ^ 64 → section_word is_big n size ≡ udata is_big n size
word-is is_big n size small = by _ refl
  where
    by : (b : Bool) → nat_eq size 8 ≡ b → section_word is_big n size ≡ udata is_big n size
    by false is = rw is refl
    by true is = let eight : size ≡ 8 = eqb-true size 8 is in rw (eight, lt-ltb n (2 ^ 64) small) refl
