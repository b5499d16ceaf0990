-- Further productions of a format, beside those of the core.
use Rattle.std.specs.Prelude.{◌≡◌, ◌≢◌, ◌-◌}
use Rattle.gimli_line.specs.Prelude
use Prelude.{ℕ, List, [], length, take, nat_eq, not, Ok, Error, text_at}
use Rattle.gimli_core.specs.Production.{Production, ◌>>=◌, ◌>>◌, done, check, byte, text}
use Rattle.gimli_core.specs.Reading.{◌>>=◌ as ◌>=>◌}

-- ---- put together

-- the bytes of a production, in place of its value
abbrev pub bytes_of : {A : Type 0} → Production A → Production (List ℕ)
bytes_of l = record {
  Spells = λ bytes xs. (xs ≡ bytes) × ((x : _) × l.Spells bytes x);
  Fault = l.Fault;
  read =
      λ bytes. l.read bytes >=> λ x rest. (Ok (take (length bytes - length rest) bytes), rest);
}

-- ---- single productions

-- a text that isn't empty, and its zero byte; it is read where no zero byte comes first
abbrev pub path_text : Production (List ℕ)
path_text = record {
  Spells = λ bytes xs. (xs ≢ []) × text.Spells bytes xs;
  Fault = text.Fault;
  read = text_at;
}

-- a byte that isn't 0
unfoldable pub positive : Error → Production ℕ
positive d = do
  n ← byte
  check (not (nat_eq n 0)) d
  done n
