-- What a call leaves that appends wanted bytes to a writer, with no refusal beside the writer's.
use Rattle.std.specs.Prelude.{◌≡◌, ◌⊎◌}
use Rattle.gimli_bytes.specs.Written.{IsOwn}
use Rattle.gimli_build.specs.Prelude
use Prelude.{ℕ, List, Result, Err, IsTrue, OnOk, IfErr, Hand, Placement, plain, Begins, Appends}
use Prelude.{Error, OutOfMemory, Ghosts}

-- the same wanted of each hand: bytes that no linker changes
abbrev pub always : Result (List ℕ) Error → Hand → Result (List ℕ) Error
always wanted hand = wanted

-- as `WritesOr` has it
pub record Writes {W X : Type 0} (sink : Ghosts W) (old new : W) (result : Result X Error)
    (wanted : Hand → Result (List ℕ) Error) : Type 0 where
  pub keeps : Begins (sink.contents old) (sink.contents new)
  pub ordered : sink.is_big new ≡ sink.is_big old
  pub stays : IsTrue (sink.completes old) → IsTrue (sink.completes new)
  pub unrefused : IsTrue (sink.unrefused old) → OnOk result (IsTrue (sink.unrefused new))
  pub ok : IsTrue sink.keeps_bytes
      → OnOk result (Appends (wanted plain) (sink.contents old) (sink.contents new))
  pub err : IsTrue sink.keeps_bytes → IsTrue sink.fails_for_memory_alone
      → IfErr result (λ e. (e ≡ OutOfMemory) ⊎ (wanted plain ≡ Err e))
  pub own : IsTrue sink.keeps_bytes
      → IfErr result (λ e. IsOwn sink old e ⊎ (wanted plain ≡ Err e))
  pub completed : (at : Placement) → IsTrue (sink.completes old) → OnOk result
      (Appends (wanted (sink.hand at)) (sink.completed at old) (sink.completed at new))
  pub completed_own : (at : Placement) → IsTrue (sink.completes old)
      → IfErr result (λ e. IsOwn sink old e ⊎ (wanted (sink.hand at) ≡ Err e))
