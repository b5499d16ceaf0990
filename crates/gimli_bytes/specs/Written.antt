-- What a call of a writer leaves. The bytes that a call is to write are "wanted": the bytes, or the
-- refusal of the value or the size.
use Rattle.std.specs.Prelude.{◌≡◌, ◌⊎◌, ◌++◌, ◌+◌, if◌then◌else◌, ℕ, List, length, Result, Ok, Err}
use Rattle.std.specs.Prelude.{nat_lt, take, drop, IsTrue, OnOk, OnErr, IfErr}
use Rattle.gimli_bytes.specs
use specs.Hand.{Hand, Placement, plain}
use specs.declared.error.Error.{Error}
use specs.declared.error.Error.TheVariants.{OutOfMemory, OffsetOutOfBounds, LengthOutOfBounds}
use specs.declared.sink.Sink.{Ghosts}

-- the old bytes are a beginning of the new ones
abbrev pub Begins : List ℕ → List ℕ → Type 0
Begins old new = take (length old) new ≡ old

-- what an append that returned Ok leaves: the wanted bytes after the old ones
abbrev pub Appends : Result (List ℕ) Error → List ℕ → List ℕ → Type 0
Appends (Ok bytes) old new = new ≡ old ++ bytes
Appends (Err e) old new = ⊥

-- what an append leaves whose bytes are known by what is true of them alone
abbrev pub AppendsThat : (List ℕ → Type 0) → List ℕ → List ℕ → Type 0
AppendsThat Is old new = (bytes : List ℕ) × (new ≡ old ++ bytes) × Is bytes

-- what an append may refuse for: memory, where the bytes are known, else the refusal that is wanted
abbrev pub Refuses : Result (List ℕ) Error → Error → Type 0
Refuses (Ok bytes) e = e ≡ OutOfMemory
Refuses (Err wanted) e = e ≡ wanted

-- what an append leaves whose value or size is refused: the bytes as they were
abbrev pub Untouched : Result (List ℕ) Error → List ℕ → List ℕ → Type 0
Untouched (Ok bytes) old new = Unit {0}
Untouched (Err e) old new = new ≡ old

-- bytes put over the old ones from a place on, or the refusal of the place: it may be the end, and
-- no byte may pass the end
abbrev pub overwrite_of : List ℕ → ℕ → List ℕ → Result (List ℕ) Error
overwrite_of old at bytes =
    if nat_lt (length old) at then Err OffsetOutOfBounds
    else (if nat_lt (length old) (at + length bytes) then Err LengthOutOfBounds
    else Ok (take at old ++ bytes ++ drop (at + length bytes) old))

-- the same of wanted bytes, which may be refused before the place is looked at
abbrev pub patch : Result (List ℕ) Error → List ℕ → ℕ → Result (List ℕ) Error
patch (Ok bytes) old at = overwrite_of old at bytes
patch (Err e) old at = Err e

-- what a call over bytes that are there leaves where it returned Ok: the wanted bytes, from the
-- place on, over the old ones
abbrev pub Overwrites : ℕ → Result (List ℕ) Error → List ℕ → List ℕ → Type 0
Overwrites at wanted old new = patch wanted old at ≡ Ok new

-- what it may refuse for: the refusal that is wanted, else that of the place
abbrev pub RefusesAt : ℕ → Result (List ℕ) Error → List ℕ → Error → Type 0
RefusesAt at wanted old e = patch wanted old at ≡ Err e

-- ---- whole calls, each with the writer before and after it

-- where an error of the writer itself came from: a call of it that wanted these bytes returned it
-- at this state, to which no refused call led
pub record IsOwn {W : Type 0} (sink : Ghosts W) (old : W) (e : Error) : Type 0 where
  pub state : W
  pub bytes : Result (List ℕ) Error
  pub keeps : Begins (sink.contents old) (sink.contents state)
  pub unrefused : IsTrue (sink.unrefused old) → IsTrue (sink.unrefused state)
  pub returned : sink.refuses state bytes e

-- a call that appends, and makes at most one `write`; what is wanted may depend on how addresses
-- and offsets into sections are written
pub record IsAppend {W X : Type 0} (sink : Ghosts W) (old new : W) (result : Result X Error)
    (wanted : Hand → Result (List ℕ) Error) : Type 0 where
  -- whatever the writer, also where the call is refused: the old bytes are a beginning, and the
  -- order stays
  pub keeps : Begins (sink.contents old) (sink.contents new)
  pub ordered : sink.is_big new ≡ sink.is_big old
  pub stays : IsTrue (sink.completes old) → IsTrue (sink.completes new)
  pub unrefused : IsTrue (sink.unrefused old) → OnOk result (IsTrue (sink.unrefused new))
  -- where it returns Ok, exactly the wanted bytes come after the old ones
  pub ok : IsTrue sink.keeps_bytes
      → OnOk result (Appends (wanted plain) (sink.contents old) (sink.contents new))
  -- and once a linker has completed both
  pub completed : (at : Placement) → IsTrue (sink.completes old) → OnOk result
      (Appends (wanted (sink.hand at)) (sink.completed at old) (sink.completed at new))
  -- where it refuses, it is for memory, or for what is wanted
  pub err : IsTrue sink.fails_for_memory_alone → IfErr result (Refuses (wanted plain))
  -- whatever the writer, where it refuses, it is for what is wanted, or with what the writer
  -- returns for these bytes at this state
  pub own : IfErr result (λ e. sink.refuses old (wanted plain) e ⊎ (wanted plain ≡ Err e))
  pub completed_own : (at : Placement) → IsTrue (sink.completes old) → IfErr result
      (λ e. sink.refuses old (wanted plain) e ⊎ (wanted (sink.hand at) ≡ Err e))
  -- where the value or the size is refused, the bytes are as they were
  pub untouched : IsTrue sink.keeps_bytes
      → Untouched (wanted plain) (sink.contents old) (sink.contents new)
  -- where it refuses, no byte is appended
  pub none : IsTrue sink.all_or_none → OnErr result (sink.contents new ≡ sink.contents old)

-- a call that appends these bytes, which no linker changes, and may make more than one `write`:
-- where it is refused, a part may be there
pub record IsAppendInParts {W X : Type 0} (sink : Ghosts W) (old new : W) (result : Result X Error)
    (bytes : List ℕ) : Type 0 where
  pub keeps : Begins (sink.contents old) (sink.contents new)
  pub ordered : sink.is_big new ≡ sink.is_big old
  pub stays : IsTrue (sink.completes old) → IsTrue (sink.completes new)
  pub unrefused : IsTrue (sink.unrefused old) → OnOk result (IsTrue (sink.unrefused new))
  pub ok : IsTrue sink.keeps_bytes
      → OnOk result (sink.contents new ≡ sink.contents old ++ bytes)
  pub completed : (at : Placement) → IsTrue (sink.completes old)
      → OnOk result (sink.completed at new ≡ sink.completed at old ++ bytes)
  pub err : IsTrue sink.fails_for_memory_alone → IfErr result (λ e. e ≡ OutOfMemory)
  pub own : IfErr result (IsOwn sink old)

-- a call that writes over bytes that are there, from a place on
pub record IsOverwrite {W X : Type 0} (sink : Ghosts W) (old new : W) (result : Result X Error)
    (at : ℕ) (wanted : Hand → Result (List ℕ) Error) : Type 0 where
  -- whatever the writer, also where the call is refused: the length, the bytes before the place,
  -- and the order stay
  pub len : length (sink.contents new) ≡ length (sink.contents old)
  pub before : take at (sink.contents new) ≡ take at (sink.contents old)
  pub ordered : sink.is_big new ≡ sink.is_big old
  pub stays : IsTrue (sink.completes old) → IsTrue (sink.completes new)
  pub unrefused : IsTrue (sink.unrefused old) → OnOk result (IsTrue (sink.unrefused new))
  -- whatever the writer, where it refuses, no byte is changed
  pub refused : OnErr result (sink.contents new ≡ sink.contents old)
  -- where it returns Ok, exactly the wanted bytes stand from the place on
  pub ok : IsTrue sink.keeps_bytes
      → OnOk result (Overwrites at (wanted plain) (sink.contents old) (sink.contents new))
  -- and once a linker has completed both
  pub completed : (places : Placement) → IsTrue (sink.completes old) → OnOk result (Overwrites at
      (wanted (sink.hand places)) (sink.completed places old) (sink.completed places new))
  -- where it refuses, it is for what is wanted, else for the place
  pub err : IsTrue sink.fails_for_memory_alone
      → IfErr result (RefusesAt at (wanted plain) (sink.contents old))
  pub own : IfErr result (λ e. sink.refuses old (wanted plain) e
      ⊎ RefusesAt at (wanted plain) (sink.contents old) e)
  pub completed_own : (places : Placement) → IsTrue (sink.completes old) → IfErr result (λ e.
      sink.refuses old (wanted plain) e
      ⊎ RefusesAt at (wanted (sink.hand places)) (sink.completed places old) e)
