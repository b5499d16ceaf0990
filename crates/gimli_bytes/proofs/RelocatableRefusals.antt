-- What calls of a section with relocations are refused with.
use Rattle.std.specs.Prelude.{◌≡◌, ◌⊎◌, ◌+◌, ◌^◌, ◌<◌, if◌then◌else◌}
use Rattle.gimli_bytes.proofs
use proofs.Common
use Common.{inl, inr, ℕ, ℤ, Bool, true, false, List, length, refl, sym, subst, Ok, Err, IfErr, Result, nat_lt, list_any}
use Common.{mod-lt, lt-ltb, number_bytes, result_map, put_over, udata, address_bytes, Placement, overwrite_of, patch}
use Common.{Relocatable, Address, Constant, Symbol, Error, InvalidRange, LengthOutOfBounds, OffsetOutOfBounds}
use Common.{OutOfMemory, UnsupportedWordSize, ValueTooLarge, RelocationTarget, Addends, Listed, InPlace}
use Rattle.gimli_bytes.specs
use specs.Relocations.{Bytes, AddressOf, BytesAt, IsRefusal, IsRelocatableRefusal, number_in_place, touches, with_place}
use specs.Relocations.{with_place_at, placed_address}
use proofs.RelocationLemmas.{pow_positive}
use proofs.CallsRelocated.{is_size}

pub if_err : {X : Type 0} (r : Result X Error) {P Q : Error → Type 0} → ((e : Error) → P e → Q e) → IfErr r P
    → IfErr r Q
if_err (Ok x) f p = tt
if_err (Err e) f p = f e p

same_err : {A : Type 0} (d e : Error) → (let r : Result A Error = Err d in r) ≡ Err e → d ≡ e
same_err d e h = cc

never : {A X : Type 0} {x : A} {e : Error} → (let r : Result A Error = Ok x in r) ≡ Err e → X
never h = absurd cc

-- ---- a number that fits its size is refused for the size alone

in_place_fits : (addends : Addends) (z : ℤ) (size : ℕ) → number_in_place addends z size < 256 ^ size
in_place_fits Listed z size = pow_positive _
in_place_fits InPlace z size = mod-lt _ (pow_positive _)

size_refused : (is_big : Bool) (n size : ℕ) (e : Error) → n < 256 ^ size → udata is_big n size ≡ Err e
    → IsRelocatableRefusal e
size_refused is_big n size e fits h = by (is_size size) refl h
  where
    by : (b : Bool) → is_size size ≡ b
        → (let r : Result (List ℕ) Error =
        if b then (if nat_lt n (256 ^ size) then Ok (number_bytes is_big size n) else Err ValueTooLarge)
        else Err (UnsupportedWordSize size) in r)
        ≡ Err e
        → IsRelocatableRefusal e
    by true is h = never (rw (lt-ltb n (256 ^ size) fits) at h)
    by false is h = subst IsRelocatableRefusal (same_err _ e h) tt

mapped_refused : {A : Type 0} (f : List ℕ → A) (r : Result (List ℕ) Error) (e : Error) → result_map f r ≡ Err e
    → r ≡ Err e
mapped_refused f (Ok word) e h = never h
mapped_refused f (Err d) e h = let is : d ≡ e = cc in rw is refl

memory_is : (e : Error) → e ≡ OutOfMemory → IsRelocatableRefusal e
memory_is e is = subst IsRelocatableRefusal (sym is) tt

-- ---- appends

pub place_refused : (v : Relocatable) (target : RelocationTarget) (z : ℤ) (size : ℕ) (e : Error)
    → (e ≡ OutOfMemory) ⊎ (with_place v target z size ≡ Err e) → IsRelocatableRefusal e
place_refused v target z size e (inl memory) = memory_is e memory
place_refused v target z size e (inr is) =
    let n = number_in_place v.addends z size in
    size_refused _ n _ e (in_place_fits _ z _)
    (mapped_refused _ _ e is)

pub bytes_refused : (v : Relocatable) (x : List ℕ) (e : Error) → IsRefusal v (Bytes x) e → IsRelocatableRefusal e
bytes_refused v x e (inl memory) = memory_is e memory
bytes_refused v x e (inr is) = never is

number_refused : (v : Relocatable) (n size : ℕ) (e : Error) → IsRefusal v (AddressOf (Constant n) size) e
    → IsRelocatableRefusal e ⊎ (udata v.is_big n size ≡ Err e)
number_refused v n size e (inl memory) = inl (memory_is e memory)
number_refused v n size e (inr is) = inr (mapped_refused _ _ e is)

-- by plain numbers, and once a linker has placed all
pub address_refused : (v : Relocatable) (a : Address) (size : ℕ) (e : Error) → IsRefusal v (AddressOf a size) e
    → IsRelocatableRefusal e ⊎ (address_bytes v.is_big a size ≡ Err e)
address_refused v (Constant n) size e refused = number_refused v n size e refused
address_refused v (Symbol symbol addend) size e refused = inl (place_refused v _ addend size e refused)

pub placed_refused : (at : Placement) (v : Relocatable) (a : Address) (size : ℕ) (e : Error)
    → IsRefusal v (AddressOf a size) e
    → IsRelocatableRefusal e ⊎ (placed_address at v.is_big a size ≡ Err e)
placed_refused at v (Constant n) size e refused = number_refused v n size e refused
placed_refused at v (Symbol symbol addend) size e refused = inl (place_refused v _ addend size e refused)

-- ---- bytes over others

over_refused : (old : List ℕ) (at : ℕ) (x : List ℕ) (e : Error) → overwrite_of old at x ≡ Err e → IsRelocatableRefusal e
over_refused old at x e h = by (nat_lt (length old) at) (nat_lt (length old) (at + length x)) h
  where
    by : (a b : Bool)
        → (let r : Result (List ℕ) Error = if a then Err OffsetOutOfBounds
        else (if b then Err LengthOutOfBounds else Ok (put_over old at x)) in
        r)
        ≡ Err e
        → IsRelocatableRefusal e
    by true b h = subst IsRelocatableRefusal (same_err _ e h) tt
    by false true h = subst IsRelocatableRefusal (same_err _ e h) tt
    by false false h = never h

-- unless a place has one of them
free_refused : (touched : Bool) (written : Result (List ℕ) Error) (e : Error)
    → (written ≡ Err e → IsRelocatableRefusal e)
    → (let r : Result (List ℕ) Error = if touched then Err InvalidRange else written in r) ≡ Err e
    → IsRelocatableRefusal e
free_refused true written e others h = subst IsRelocatableRefusal (same_err _ e h) tt
free_refused false written e others h = others h

pub bytes_at_refused : (v : Relocatable) (at : ℕ) (x : List ℕ) (e : Error) → IsRefusal v (BytesAt at x) e
    → IsRelocatableRefusal e
bytes_at_refused v at x e (inl memory) = memory_is e memory
bytes_at_refused v at x e (inr is) =
    let touched = list_any (touches at (length x)) v.relocations in
    let written = overwrite_of v.bytes at x in
    let free : Result (List ℕ) Error = if touched then Err InvalidRange else written in
    free_refused _ _ e (over_refused v.bytes at x e)
    (mapped_refused _ _ e is)

patch_refused : (wanted : Result (List ℕ) Error) (old : List ℕ) (at : ℕ) (e : Error)
    → (wanted ≡ Err e → IsRelocatableRefusal e)
    → patch wanted old at ≡ Err e → IsRelocatableRefusal e
patch_refused (Ok x) old at e refused h = over_refused old at x e h
patch_refused (Err d) old at e refused h = refused h

pub place_at_refused : (v : Relocatable) (at : ℕ) (target : RelocationTarget) (z : ℤ) (size : ℕ) (e : Error)
    → (e ≡ OutOfMemory) ⊎ (with_place_at v at target z size ≡ Err e) → IsRelocatableRefusal e
place_at_refused v at target z size e (inl memory) = memory_is e memory
place_at_refused v at target z size e (inr is) =
    let n = number_in_place v.addends z size in
    let touched = list_any (touches at size) v.relocations in
    let written = patch (udata v.is_big n size) v.bytes at in
    let free : Result (List ℕ) Error = if touched then Err InvalidRange else written in
    free_refused _ _ e (patch_refused _ _ _ e (size_refused _ n _ e (in_place_fits _ z _)))
    (mapped_refused _ _ e is)
