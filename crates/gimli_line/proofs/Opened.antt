-- The header of a unit from its parts.
use Rattle.std.specs.Prelude.{◌≡◌}
use Rattle.gimli_line.proofs.Common
use Common.{ℕ, Bool, List, Result, Ok, Err, refl, sym, ap, subst, ◌∙◌, OrderAndLimit, layout_of, Read, ◌>>=◌}
use Common.{split_at, unit_length, Format, Error, OutOfMemory, Gives, Header, UnitEntry, HeaderOpening}
use Common.{opening_production, fields_production, header_production}
use Rattle.gimli_core.specs.Reading.{with_rest}

-- the answer of the last part is that of all
last_answer : (r : Read Header) (rest : List ℕ)
    → ((with_rest r, rest) >>= λ fields left. (let s : Read Header = (Ok fields.0, left) in s)).0 ≡ r.0
last_answer (Ok h, left) rest = refl
last_answer (Err e, left) rest = refl

module _ (is_big : Bool) (limit : ℕ) (unit_entry : UnitEntry) where
  abbrev layout : OrderAndLimit
  layout = layout_of is_big limit

  -- the answer where everything in front of the fields is there
  pub header_answer : (bytes : List ℕ) (unit : ℕ × Format) (rest inside left : List ℕ) (opened : HeaderOpening)
      (program : List ℕ)
      → (Ok unit, rest) ≡ (unit_length layout).read bytes → (Ok inside, left) ≡ split_at unit.0 rest
      → (Ok opened, program) ≡ (opening_production layout unit_entry.address_size unit.1).read inside
      → ((header_production layout unit_entry).read bytes).0
      ≡ ((fields_production layout unit_entry unit.0 opened program).read opened.fields).0
  unfolding header_production
  header_answer bytes unit rest inside left opened program length whole opening = rw (← length, ← whole, ← opening)
      (last_answer _ _)

  -- the fields take no address size
  size_free : (size unit : ℕ) (opened : HeaderOpening) (program : List ℕ)
      → (fields_production layout (record unit_entry { address_size = size }) unit opened program).read opened.fields
      ≡ (fields_production layout unit_entry unit opened program).read opened.fields
  unfolding fields_production
  size_free size unit opened program = refl

  pub header_answers : {X : Type 0} (view : X → Header) (result : Result X Error) (size : ℕ) (now later : Bool)
      (bytes : List ℕ) (unit : ℕ × Format)
      (rest inside left : List ℕ) (opened : HeaderOpening) (program : List ℕ)
      → (Ok unit, rest) ≡ (unit_length layout).read bytes → (Ok inside, left) ≡ split_at unit.0 rest
      → now ≡ is_big
      → (Ok opened, program) ≡ (opening_production (layout_of now limit) unit_entry.address_size unit.1).read inside
      → later ≡ is_big
      → Gives OutOfMemory view result
      ((fields_production (layout_of later limit) (record unit_entry { address_size = size }) unit.0 opened
      program).read opened.fields).0
      → Gives OutOfMemory view result ((header_production layout unit_entry).read bytes).0
  header_answers view result size now later bytes unit rest inside left opened program length whole same opening kept
      answers =
      let again : (Ok opened, program)
      ≡ (opening_production layout unit_entry.address_size unit.1).read inside = opening
      ∙ ap (λ b. (opening_production (layout_of b limit) unit_entry.address_size unit.1).read inside) same in
      let is = header_answer _ _ _ _ _ _ _ length whole again in
      let others = ap (λ b.
      ((fields_production (layout_of b limit) (record unit_entry { address_size = size }) unit.0 opened program).read
      opened.fields).0)
      kept in
      let free = ap (λ r. r.0) (size_free _ _ _ _) in
      subst (λ r. Gives OutOfMemory view result r) (others ∙ free ∙ sym is) answers
