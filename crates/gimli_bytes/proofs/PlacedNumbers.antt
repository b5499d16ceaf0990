-- What a linker puts at a place, where it fits: the number itself.
use Rattle.std.specs.Prelude.{◌≡◌, ◌+◌, ◌*◌, ◌^◌, ◌<◌}
use Rattle.gimli_bytes.proofs
use proofs.Common
use Common.{ℕ, Bool, true, false, nat_eq, refl, ap, sym, ◌∙◌, w64, mod-eq_of_lt, eqb-true, cast_unsigned, udata}
use Common.{address_bytes, Placement, section_word, Address, Constant, Symbol}
use Rattle.gimli_bytes.specs.Relocations.{AddressOf, CallFits, lowest_bytes, placed_address, address_placed}
use proofs.SectionWords.{word-is}
use proofs.Relocating.{sum_low}
use proofs.CallsRelocated.{is_size, size_short, wraps}

pub placed-word : (is_big : Bool) (n size : ℕ) → n < 256 ^ size
    → lowest_bytes is_big n size ≡ section_word is_big n size
placed-word is_big n size fits = ap (λ k. udata is_big k size) (mod-eq_of_lt fits) ∙ by (nat_eq size 8) refl
  where
    by : (b : Bool) → nat_eq size 8 ≡ b → udata is_big n size ≡ section_word is_big n size
    by false is = rw is refl
    by true is =
        let eight : size ≡ 8 = eqb-true size 8 is in
        let small : n < 2 ^ 64 = rw eight at fits in
        sym (word-is _ n size small)

pub placed-address : (at : Placement) (is_big : Bool) (address : Address) (size : ℕ)
    → CallFits at (AddressOf address size)
    → placed_address at is_big address size ≡ address_bytes is_big (address_placed at address) size
placed-address at is_big (Constant n) size fits = refl
placed-address at is_big (Symbol symbol addend) size fits =
    let n = fits.0.0 in
    let sum = wraps _ _ n fits.0.1 fits.1 in
    rw fits.0.1 (by n sum.0 sum.1 fits.0.2 (is_size size) refl)
  where
    by : (n q : ℕ) → at.symbol symbol + cast_unsigned w64 addend ≡ n + q * 2 ^ 64 → n < 256 ^ size → (b : Bool)
        → is_size size ≡ b
        → lowest_bytes is_big (at.symbol symbol + cast_unsigned w64 addend) size ≡ udata is_big n size
    by n q sum small true is = ap (λ k. udata is_big k size) (sum_low _ _ _ n q (size_short _ is) sum small)
    by n q sum small false is = rw is refl
