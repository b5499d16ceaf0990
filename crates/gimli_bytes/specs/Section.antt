-- What is seen of a section in one vector: its bytes and its order.
use Rattle.std.specs.Prelude.{ℕ, List, refl}
use Rattle.std.specs.Coded.{Coded, code_by, coded×, coded_ℕ, coded_list}

-- the bytes of a section, and its byte order
pub record Section (E : Type 0) : Type 0 where
  pub bytes : List ℕ
  pub endian : E

-- a section is stored as the pair of its fields
abbrev pub section_code : {E : Type 0} → Coded E → Coded (Section E)
section_code {E = E} e =
    code_by (List ℕ × E) (coded× (coded_list coded_ℕ) e) (λ s. (s.bytes, s.endian))
    (λ p. record { bytes = p.0; endian = p.1 }) (λ _. refl)
