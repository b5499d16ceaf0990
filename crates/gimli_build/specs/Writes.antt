-- What a call leaves that appends wanted bytes to a writer.
use Rattle.std.specs.Prelude.{◌≡◌, ◌⊎◌}
use Rattle.gimli_build.specs.Prelude
use Prelude.{ℕ, List, Result, Err, IsTrue, OnOk, IfErr, Hand, Placement, plain, Begins, Appends}
use Prelude.{Error, OutOfMemory, Ghosts}

-- as `IsAppend`, with refusals of its own, and but for those: a part that is wanted late may be
-- refused, and memory before it
pub record WritesOr {W X : Type 0} (sink : Ghosts W) (Own : Error → Type 0) (old new : W)
    (result : Result X Error) (wanted : Hand → Result (List ℕ) Error) : Type 0 where
  -- whatever the writer, also where the call is refused
  pub keeps : Begins (sink.contents old) (sink.contents new)
  pub ordered : sink.is_big new ≡ sink.is_big old
  pub stays : IsTrue (sink.completes old) → IsTrue (sink.completes new)
  pub unrefused : IsTrue (sink.unrefused old) → OnOk result (IsTrue (sink.unrefused new))
  -- of a writer that keeps its bytes: the wanted bytes come after the old ones; or the refusal is
  -- for memory, or is one of the call's own, or is what is wanted
  pub ok : IsTrue sink.keeps_bytes
      → OnOk result (Appends (wanted plain) (sink.contents old) (sink.contents new))
  pub err : IsTrue sink.keeps_bytes → IsTrue sink.fails_for_memory_alone
      → IfErr result (λ e. (e ≡ OutOfMemory) ⊎ (wanted plain ≡ Err e))
  pub own : IsTrue sink.keeps_bytes → IfErr result (λ e. Own e ⊎ (wanted plain ≡ Err e))
  -- and once a linker has completed both
  pub completed : (at : Placement) → IsTrue (sink.completes old) → OnOk result
      (Appends (wanted (sink.hand at)) (sink.completed at old) (sink.completed at new))
  pub completed_own : (at : Placement) → IsTrue (sink.completes old)
      → IfErr result (λ e. Own e ⊎ (wanted (sink.hand at) ≡ Err e))

-- why the program's own call of `write` is refused, beside what is wanted: tables that can't grow,
-- or an error of the writer
abbrev pub OfMemoryOr : (Error → Type 0) → Error → Type 0
OfMemoryOr Refuses e = (e ≡ OutOfMemory) ⊎ Refuses e
