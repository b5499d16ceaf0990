-- A call that passes its numbers on to another: what is wanted of it is what is wanted of that other.
use Rattle.std.specs.Prelude.{◌≡◌, ◌≢◌, ◌+◌, ◌-◌, ◌^◌, ◌%◌, ◌<◌, ◌≤◌, ◌||◌}
use Rattle.gimli_bytes.proofs.Common
use Common.{ℕ, List, Ok, Err, refl, ap, sym, inr, length, ne_eqb, nat_eq, lt-ltb, arith, IsTrue, Bool, true, false}
use Common.{Result, bit_and, SFits, ℤ, pos, negsuc, w64, of_z, number_bytes, result_map, sdata, twos_complement, udata}
use Common.{le-ltb, DwEhPe, IsAppend, ValueTooLarge, UnsupportedWordSize}
use Rattle.gimli_bytes.specs
use specs.Hand.{Hand, plain}
use specs.Written.{IsOverwrite}
use Common.{pointer_data, pointer_at_end, format_of, Address, Constant, Error, UnsupportedPointerEncoding}
use specs.declared.sink.Sink.{Ghosts}
use Rattle.gimli_bytes.proofs.Parts.{begins_self}

-- what is wanted, said otherwise
pub append_as : {W X : Type 0} {sink : Ghosts W} {old new : W} {result : Result X Error}
    {wanted other : Result (List ℕ) Error}
    → wanted ≡ other → IsAppend sink old new result (λ hand. other)
    → IsAppend sink old new result (λ hand. wanted)
append_as is append = rw is append

-- refused before anything is written
pub refused_at_once : {W X : Type 0} {sink : Ghosts W} {wanted : Result (List ℕ) Error} {e : Error} (old : W)
    → wanted ≡ Err e
    → IsAppend {X = X} sink old old (Err e) (λ hand. wanted)
refused_at_once {sink = sink} old is = rw is (record {
  keeps = begins_self _;
  ordered = refl;
  stays = λ completes. completes;
  unrefused = λ unrefused. tt;
  ok = λ keeps_bytes. tt;
  completed = λ at completes. tt;
  err = λ memory_alone. refl;
  own = inr refl;
  completed_own = λ at completes. inr refl;
  untouched = λ keeps_bytes. refl;
  none = λ all_or_none. refl;
})

-- the same over bytes that are there
pub over_as : {W X : Type 0} {sink : Ghosts W} {old new : W} {result : Result X Error} {at : ℕ}
    {wanted other : Result (List ℕ) Error}
    → wanted ≡ other → IsOverwrite sink old new result at (λ hand. other)
    → IsOverwrite sink old new result at (λ hand. wanted)
over_as is over = rw is over

pub refused_over : {W X : Type 0} {sink : Ghosts W} {wanted : Result (List ℕ) Error} {e : Error} (old : W) (at : ℕ)
    → wanted ≡ Err e → IsOverwrite {X = X} sink old old (Err e) at (λ hand. wanted)
refused_over {sink = sink} old at is = rw is (record {
  len = refl;
  before = refl;
  ordered = refl;
  stays = λ completes. completes;
  unrefused = λ unrefused. tt;
  refused = refl;
  ok = λ keeps_bytes. tt;
  completed = λ places completes. tt;
  err = λ memory_alone. refl;
  own = inr refl;
  completed_own = λ places completes. inr refl;
})

-- ---- a writer that no linker completes

pub no_truth : IsTrue false → ⊥
no_truth h = cc

pub plainly : {W X : Type 0} {sink : Ghosts W} {old new : W} {result : Result X Error}
    (wanted : Hand → Result (List ℕ) Error) (other : Result (List ℕ) Error)
    → (IsTrue (sink.completes old) → IsTrue false) → wanted plain ≡ other
    → IsAppend sink old new result (λ hand. other) → IsAppend sink old new result wanted
plainly wanted other never is append = record {
  keeps = append.keeps;
  ordered = append.ordered;
  stays = append.stays;
  unrefused = append.unrefused;
  none = append.none;
  ok = rw is append.ok;
  completed = λ at completes. absurd (no_truth (never completes));
  err = rw is append.err;
  own = rw is append.own;
  completed_own = λ at completes. absurd (no_truth (never completes));
  untouched = rw is append.untouched;
}

pub plainly_over : {W X : Type 0} {sink : Ghosts W} {old new : W} {result : Result X Error} (at : ℕ)
    (wanted : Hand → Result (List ℕ) Error) (other : Result (List ℕ) Error)
    → (IsTrue (sink.completes old) → IsTrue false) → wanted plain ≡ other
    → IsOverwrite sink old new result at (λ hand. other) → IsOverwrite sink old new result at wanted
plainly_over at wanted other never is over = record {
  len = over.len;
  before = over.before;
  ordered = over.ordered;
  stays = over.stays;
  unrefused = over.unrefused;
  refused = over.refused;
  ok = rw is over.ok;
  completed = λ places completes. absurd (no_truth (never completes));
  err = rw is over.err;
  own = rw is over.own;
  completed_own = λ places completes. absurd (no_truth (never completes));
}

-- ---- unsigned numbers

pub unsigned_as : (is_big : Bool) (n size known : ℕ) → size ≡ known
    → (nat_eq known 1 || nat_eq known 2 || nat_eq known 3 || nat_eq known 4 || nat_eq known 8) ≡ true
    → n < 256 ^ known → udata is_big n size ≡ Ok (number_bytes is_big known n)
unsigned_as is_big n size known is one less = rw (is, one, lt-ltb n (256 ^ known) less) refl

pub too_large : (is_big : Bool) (n size known : ℕ) → size ≡ known
    → (nat_eq known 1 || nat_eq known 2 || nat_eq known 3 || nat_eq known 4 || nat_eq known 8) ≡ true
    → 256 ^ known ≤ n → udata is_big n size ≡ Err ValueTooLarge
too_large is_big n size known is one more = rw (is, one, le-ltb n (256 ^ known) more) refl

pub other_unsigned : (is_big : Bool) (n size : ℕ) → size ≢ 1 → size ≢ 2 → size ≢ 3 → size ≢ 4 → size ≢ 8
    → udata is_big n size ≡ Err (UnsupportedWordSize size)
other_unsigned is_big n size a b c d e =
    rw (ne_eqb size 1 a, ne_eqb size 2 b, ne_eqb size 3 c, ne_eqb size 4 d, ne_eqb size 8 e) refl

-- ---- pointers

same_format : (format encoding : DwEhPe) → format.0 ≡ bit_and encoding.0 0x0f → format_of encoding ≡ format
same_format format encoding is = ap (λ n. let f : DwEhPe = record { 0 = n } in f) (sym is)

pub absolute_pointer : (is_big : Bool) (old : List ℕ) (address : Address) (n : ℕ) (encoding : DwEhPe) (format : DwEhPe)
    (size : ℕ)
    → address ≡ Constant n
    → bit_and encoding.0 0x70 ≡ 0 → format.0 ≡ bit_and encoding.0 0x0f
    → pointer_at_end is_big old address encoding size ≡ pointer_data is_big n format size
absolute_pointer is_big old address n encoding format size constant kind is =
    rw (constant, kind) (ap (λ f. pointer_data is_big n f size) (same_format _ _ is))

pub relative_pointer : (is_big : Bool) (old : List ℕ) (address : Address) (n place : ℕ) (encoding : DwEhPe)
    (format : DwEhPe) (size : ℕ)
    → address ≡ Constant n
    → bit_and encoding.0 0x70 ≡ 0x10 → place ≡ length old → format.0 ≡ bit_and encoding.0 0x0f
    → pointer_at_end is_big old address encoding size
    ≡ pointer_data is_big ((n + (2 ^ 64 - place)) % 2 ^ 64) format size
relative_pointer is_big old address n place encoding format size constant kind later is = rw (constant, kind, ← later)
    (ap (λ f. pointer_data is_big ((n + (2 ^ 64 - place)) % 2 ^ 64) f size) (same_format _ _ is))

pub other_pointer : (is_big : Bool) (old : List ℕ) (address : Address) (n : ℕ) (encoding : DwEhPe) (size : ℕ)
    → address ≡ Constant n → bit_and encoding.0 0x70 ≢ 0
    → bit_and encoding.0 0x70 ≢ 0x10
    → pointer_at_end is_big old address encoding size ≡ Err (UnsupportedPointerEncoding encoding)
other_pointer is_big old address n encoding size constant not_absolute not_relative =
    rw (constant, ne_eqb _ _ not_absolute, ne_eqb _ _ not_relative) refl

-- ---- signed numbers

pub signed_as : (is_big : Bool) (z passed : ℤ) (size known : ℕ) (bits : Result ℕ Error)
    → size ≡ known → (nat_eq known 1 || nat_eq known 2 || nat_eq known 4 || nat_eq known 8) ≡ true
    → bits ≡ twos_complement known passed → passed ≡ z
    → sdata is_big z size ≡ result_map (number_bytes is_big known) bits
signed_as is_big z passed size known bits is one bits_are same = rw (is, one, bits_are, same) refl

-- all 64 bits
pub all_bits : (z : ℤ) (n : ℕ) → SFits w64 z → n ≡ of_z w64 z
    → (let bits : Result ℕ Error = Ok n in bits) ≡ twos_complement 8 z
all_bits (pos m) n fits is = rw (lt-ltb m (2 ^ 63) (omega arith), is) refl
all_bits (negsuc m) n fits is = rw (lt-ltb m (2 ^ 63) (omega arith), is) refl

-- ---- pointer formats

pub formatted_as : (is_big : Bool) (n : ℕ) (format : DwEhPe) (size known : ℕ) → format.0 ≡ known
    → pointer_data is_big n format size
    ≡ (let f : DwEhPe = record { 0 = known } in pointer_data is_big n f size)
formatted_as is_big n format size known is =
    ap (λ (k : ℕ). let f : DwEhPe = record { 0 = k } in pointer_data is_big n f size) is

pub other_format : (is_big : Bool) (n : ℕ) (format : DwEhPe) (size : ℕ)
    → format.0 ≢ 0x00 → format.0 ≢ 0x01 → format.0 ≢ 0x02 → format.0 ≢ 0x03 → format.0 ≢ 0x04
    → format.0 ≢ 0x09 → format.0 ≢ 0x0a → format.0 ≢ 0x0b → format.0 ≢ 0x0c
    → pointer_data is_big n format size ≡ Err (UnsupportedPointerEncoding format)
other_format is_big n format size a b c d e f g h i =
    rw (
      ne_eqb _ _ a,
      ne_eqb _ _ b,
      ne_eqb _ _ c,
      ne_eqb _ _ d,
      ne_eqb _ _ e,
      ne_eqb _ _ f,
      ne_eqb _ _ g,
      ne_eqb _ _ h,
      ne_eqb _ _ i,
    )
    refl
