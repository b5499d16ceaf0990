-- What a call returns of what is read.
use Rattle.std.specs.Prelude.{◌≡◌, ◌≢◌}
use Rattle.gimli_line.specs.Prelude.{
  ℕ,
  List,
  map,
  Result,
  Ok,
  Err,
  Vec,
  Global,
  Read,
  ◌>>=◌,
  Error,
  OutOfMemory,
}

-- what a call returned, its value seen by view, and the bytes that it left are what reading gives,
-- unless memory was missing
abbrev pub IsOutcome : {X Y : Type 0} → (X → Y) → Result X Error → List ℕ → Read Y → Type 0
IsOutcome view (Ok x) left read = read ≡ (Ok (view x), left)
IsOutcome view (Err e) left read = e ≢ OutOfMemory → read.0 ≡ Err e

-- the same of a list, each of whose items is seen by view
abbrev pub IsListOutcome : {X Y : Type 0} → (X → Y) → Result (Vec X Global) Error → List ℕ
    → Read (List Y) → Type 0
IsListOutcome view result left read = IsOutcome (λ list. map view list.items) result left read

-- the same of a table, which is its formats and such a list
abbrev pub IsTableOutcome : {F X Y : Type 0} → (X → Y) → Result (Vec F Global × Vec X Global) Error
    → List ℕ → Read (List F × List Y) → Type 0
IsTableOutcome view result left read =
    IsOutcome (λ table. (table.0.items, map view table.1.items)) result left read

-- what is read, its value passed over
abbrev pub without_value : {A : Type 0} → Read A → Read (Unit {0})
without_value r = r >>= λ x rest. (Ok tt, rest)

-- what is read, its value seen by f
abbrev pub read_map : {A B : Type 0} → (A → B) → Read A → Read B
read_map f r = r >>= λ x rest. (Ok (f x), rest)
