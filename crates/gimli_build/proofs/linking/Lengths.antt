-- Bytes that are written over others change no length.
use Rattle.std.specs.Prelude.{◌≡◌}
use Rattle.gimli_build.proofs.Common.{ℕ, List, length, Ok, Err, ap, ◌∙◌, Result, patch, Error}
use Rattle.gimli_bytes.proofs.PieceLemmas.{length-put_over}
use Rattle.gimli_bytes.proofs.CallsRelocated.{overwrite_parts}

pub patched_length : (wanted : Result (List ℕ) Error) (old new : List ℕ) (at : ℕ) → patch wanted old at ≡ Ok new
    → length new ≡ length old
patched_length (Ok bytes) old new at h =
    let over = overwrite_parts _ _ _ _ h in
    ap length over.new_is ∙ length-put_over _ _ _ over.fits
patched_length (Err e) old new at h = cc
