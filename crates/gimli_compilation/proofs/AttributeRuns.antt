-- Taking the attributes of an entry, one by one.
use Rattle.std.proofs.Common.{◌≡◌, ℕ, true, false, Bool, if◌then◌else◌, List, [], ◌∷◌, Ok, Err, refl, sym, ap, ◌∙◌}
use Rattle.std.specs.Prelude.{nat_eq}
use Rattle.gimli_core.specs.Layout.{OrderAndLimit}
use Rattle.gimli_core.specs.Reading.{Read}
use Rattle.gimli_core.specs.declared.common.Encoding.{Encoding}
use Rattle.gimli_core.specs.declared.error.Error.{Error}
use Rattle.gimli_compilation.specs.declared.abbreviation.Specification.{Specification}
use Rattle.gimli_compilation.specs.declared.attributes.Attributes.{Attributes}
use Rattle.gimli_compilation.specs.declared.form.Value.{Value}
use Rattle.gimli_compilation.specs.Abbreviation.{is_end, specification_production}
use Rattle.gimli_compilation.specs.Form.{form_production}
use Rattle.gimli_compilation.specs.Unit.{attributes_production}
use Rattle.gimli_compilation.specs.Value.{attributes_with}
use Rattle.gimli_compilation.specs.inside.Value.{value_seen, attributes_seen}
use Rattle.gimli_compilation.specs.inside.AbbreviationReading.{listed, IsListed}
use Rattle.gimli_compilation.proofs.Specifications.{listed_more, listed_last}
use Rattle.gimli_core.specs.Layout.{Seen}

-- a value that is seen before or after it is kept
seen_if : {R : Type 0} (view : R → Seen) (test : Bool) (value before : Value R)
    → value_seen view (if test then value else before)
    ≡ (if test then value_seen view value else value_seen view before)
seen_if view true value before = refl
seen_if view false value before = refl

pub seen_with : {R : Type 0} (view : R → Seen) (before : Attributes R) (name : ℕ) (value : Value R)
    → attributes_seen view (attributes_with before name value)
    ≡ attributes_with (attributes_seen view before) name (value_seen view value)
seen_with view before name value =
    rw (
      seen_if view (nat_eq name 0x10) value before.stmt_list,
      seen_if view (nat_eq name 0x1b) value before.comp_dir,
      seen_if view (nat_eq name 0x03) value before.name,
      seen_if view (nat_eq name 0x72) value before.str_offsets_base,
    )
    refl

module _ (layout : OrderAndLimit) (encoding : Encoding) where
  module _ (specified : List ℕ) (s : Specification) (left : List ℕ) (closed : IsListed specified)
      (read : (Ok s, left) ≡ specification_production.read specified)
      (on : is_end s ≡ false) where
    pub attributes_go_on : (before : Attributes (List ℕ)) (value : Value (List ℕ)) (bytes rest : List ℕ)
        (total : Read (Attributes (List ℕ)))
        → (Ok value, rest) ≡ (form_production layout encoding s.form.0).read bytes
        → (attributes_production layout encoding before (listed specified)).read bytes ≡ total
        → (attributes_production layout encoding (attributes_with before s.name.0 value) (listed left)).read rest
        ≡ total
    unfolding attributes_production
    attributes_go_on before value bytes rest total e so_far =
        let here : (attributes_production layout encoding before (s ∷ listed left)).read bytes
        ≡ (attributes_production layout encoding (attributes_with before s.name.0 value) (listed left)).read rest = rw
        (← e) refl in
        sym here
        ∙ sym (ap (λ (ss : List Specification). (attributes_production layout encoding before ss).read bytes)
        (listed_more specified s left closed read on))
        ∙ so_far

    pub attributes_refused : (before : Attributes (List ℕ)) (bytes : List ℕ) (e : Error) (rest : List ℕ)
        (total : Read (Attributes (List ℕ)))
        → (Err e, rest) ≡ (form_production layout encoding s.form.0).read bytes
        → (attributes_production layout encoding before (listed specified)).read bytes ≡ total → (Err e, rest) ≡ total
    unfolding attributes_production
    attributes_refused before bytes e rest total is so_far =
        let here : (attributes_production layout encoding before (s ∷ listed left)).read bytes
        ≡ (Err e, rest) = rw (← is) refl in
        sym here
        ∙ sym (ap (λ (ss : List Specification). (attributes_production layout encoding before ss).read bytes)
        (listed_more specified s left closed read on))
        ∙ so_far

  pub attributes_done : (specified : List ℕ) (s : Specification) (left : List ℕ) (before : Attributes (List ℕ))
      (bytes : List ℕ)
      (total : Read (Attributes (List ℕ)))
      → (Ok s, left) ≡ specification_production.read specified → is_end s ≡ true
      → (attributes_production layout encoding before (listed specified)).read bytes ≡ total
      → (Ok before, bytes) ≡ total
  unfolding attributes_production
  attributes_done specified s left before bytes total read is so_far =
      let here : (attributes_production layout encoding before []).read bytes ≡ (Ok before, bytes) = refl in
      sym here
      ∙ sym (ap (λ (ss : List Specification). (attributes_production layout encoding before ss).read bytes)
      (listed_last specified s left read is))
      ∙ so_far
