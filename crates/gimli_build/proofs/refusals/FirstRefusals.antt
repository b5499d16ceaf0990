-- The part of a program that is refused first.
use Rattle.std.specs.Prelude.{◌≡◌, ◌<◌, ◌∷◌}
use Rattle.gimli_build.proofs
use proofs.Common
use Common.{ℕ, zero, suc, Bool, List, [], refl, sym, ◌∙◌, arith, Option, Some, None, option_map, slice_get}
use Common.{StringTables, Built, CanWrite, Encoding, Error, first_of, first_cause, header_length, unit_length}
use Common.{unit_length_cause, word_cause, item_cause, texts_after, cause_of_directory, cause_of_file, cause_of_item}
use Rattle.std.specs.Option.{option_and_then}
use Rattle.gimli_build.specs.Refused.{FindsFirst, encoding_cause, directory_cause, file_cause, first_with, first_part}
use Rattle.gimli_build.specs.Refused.{first_refusal, program_seen, items_seen, error_of}
use Rattle.gimli_build.specs.declared.unit.refusal.Refusal.{Refusal}
use Rattle.gimli_build.specs.declared.unit.refusal.Symbols.{Symbols}
use Rattle.gimli_build.specs.declared.unit.refusal.Refusal.TheVariants as part
use proofs.refusals.FoundCauses.{cause_found, found_are_first}

-- ---- a search for the first cause

-- the cause of the element with a number
abbrev pub cause_at : {A : Type 0} → (ℕ → A → Option Error) → List A → ℕ → Option Error
cause_at cause xs i = option_and_then (cause i) (slice_get xs i)

finds : {A : Type 0} (cause : ℕ → A → Option Error) (xs : List A) → FindsFirst (cause_at cause xs) (first_with cause xs)
finds cause [] = λ i. refl
finds {A = A} cause (x ∷ xs) = by (cause 0 x) refl (first_with later xs) (finds later xs)
  where
    later : ℕ → A → Option Error
    later i y = cause (suc i) y

    all : cause 0 x ≡ None → ((i : ℕ) → cause_at later xs i ≡ None) → (i : ℕ) → cause_at cause (x ∷ xs) i ≡ None
    all is none zero = is
    all is none (suc i) = none i

    before : (n : ℕ) → cause 0 x ≡ None → ((i : ℕ) → i < n → cause_at later xs i ≡ None)
        → (i : ℕ) → i < suc n → cause_at cause (x ∷ xs) i ≡ None
    before n is none zero lt = is
    before n is none (suc i) lt = none i (omega (arith, lt))

    by : (c : Option Error) → cause 0 x ≡ c → (found : Option (ℕ × Error)) → FindsFirst (cause_at later xs) found
        → FindsFirst (cause_at cause (x ∷ xs))
        (elim c [ Some e ↦ Some (0, e) | None ↦ option_map (λ (f : ℕ × Error). (suc f.0, f.1)) found ])
    by (Some e) is found h = (is, λ i lt. absurd (omega (arith, lt)))
    by None is None h = all is h
    by None is (Some (n, e)) h = (h.0, before n is h.1)

-- there is one such element
one : (cause : ℕ → Option Error) (f g : Option (ℕ × Error)) → FindsFirst cause f → FindsFirst cause g → f ≡ g
one cause None None h k = refl
one cause None (Some (n, e)) h k = let no = h n in let is = k.0 in absurd cc
one cause (Some (n, e)) None h k = let no = k n in let is = h.0 in absurd cc
one cause (Some (n, e)) (Some (m, d)) h k = grind arith

pub found_is : {A : Type 0} (cause : ℕ → A → Option Error) (xs : List A) (found : Option (ℕ × Error))
    → FindsFirst (cause_at cause xs) found → first_with cause xs ≡ found
found_is cause xs found h = one (cause_at cause xs) _ _ (finds cause xs) h

-- ---- the error of a refusal

errors : (e : Option Error) (d f : Option (ℕ × Error)) (h : Option Error) (i : Option (ℕ × Error)) (u : Option Error)
    → option_map error_of (first_of (
    option_map part.Header e ∷ option_map (λ (x : ℕ × Error). part.Directory x.0 x.1) d
    ∷ option_map (λ (x : ℕ × Error). part.File x.0 x.1) f ∷ option_map part.Header h
    ∷ option_map (λ (x : ℕ × Error). part.Item x.0 x.1) i ∷ option_map part.Header u ∷ []))
    ≡ first_of (e ∷ cause_found d ∷ cause_found f ∷ h ∷ cause_found i ∷ u ∷ [])
errors (Some e) d f h i u = refl
errors None (Some d) f h i u = refl
errors None None (Some f) h i u = refl
errors None None None (Some h) i u = refl
errors None None None None (Some i) u = refl
errors None None None None None (Some u) = refl
errors None None None None None None = refl

-- it is the first cause
pub first-is : (is_big : Bool) (unit : Encoding) (p : Built) (handed : StringTables) → CanWrite p handed
    → option_map error_of (first_part is_big unit p handed) ≡ first_cause is_big unit p handed
first-is is_big unit p handed can =
    let directory = first_with (directory_cause p handed) p.directories in
    let file = first_with (λ i. file_cause p handed) p.files in
    let item = first_with (λ i. item_cause p.encoding.address_size) p.items in
    errors (encoding_cause unit p) directory file _ item _
    ∙ sym (found_are_first is_big unit p handed directory file item can
    (finds (directory_cause p handed) p.directories) (finds (λ i. file_cause p handed) p.files)
    (finds (λ i. item_cause p.encoding.address_size) p.items))

-- ---- where a search stops

alone : {A : Type 0} (x : Option A) → first_of (x ∷ []) ≡ x
alone (Some x) = refl
alone None = refl

-- the parts in order
abbrev pub parts : Option Error → Option (ℕ × Error) → Option (ℕ × Error) → Option Error → Option (ℕ × Error)
    → Option Error → Option Refusal
parts e d f h i u =
    first_of (
    option_map part.Header e ∷ option_map (λ x. part.Directory x.0 x.1) d
    ∷ option_map (λ x. part.File x.0 x.1) f ∷ option_map part.Header h
    ∷ option_map (λ x. part.Item x.0 x.1) i ∷ option_map part.Header u ∷ [])

module _ (symbols : Symbols) (is_big : Bool) (unit : Encoding) (p : Built) (handed : StringTables) where
  abbrev directories : Option (ℕ × Error)
  directories = first_with (directory_cause p handed) p.directories

  abbrev files : Option (ℕ × Error)
  files = first_with (λ i. file_cause p handed) p.files

  abbrev counted : Option Error
  counted = word_cause p.encoding.format (header_length p (texts_after p handed))

  abbrev items : Option (ℕ × Error)
  items = first_with (λ i. item_cause p.encoding.address_size) (items_seen symbols p.items)

  abbrev whole : Option Error
  whole = unit_length_cause p.encoding.format (unit_length is_big (program_seen symbols p) (texts_after p handed))

  abbrev first : Option Refusal
  first = first_refusal symbols is_big unit p handed

  module _ (e : Option Error) (e_is : e ≡ encoding_cause unit p) where
    module _ (d : Option (ℕ × Error)) (none : e ≡ None) (d_is : FindsFirst (cause_of_directory p handed) d) where
      d_found : d ≡ directories
      d_found = sym (found_is (directory_cause p handed) p.directories d d_is)

      pub at_directory : (x : ℕ × Error) → d ≡ Some x → Some (part.Directory x.0 x.1) ≡ first
      at_directory x is = λ j. parts ((sym none ∙ e_is) j) ((sym is ∙ d_found) j) files counted items whole

      module _ (f : Option (ℕ × Error)) (d_none : d ≡ None) (f_is : FindsFirst (cause_of_file p handed) f) where
        f_found : f ≡ files
        f_found = sym (found_is (λ i. file_cause p handed) p.files f f_is)

        pub at_file : (x : ℕ × Error) → f ≡ Some x → Some (part.File x.0 x.1) ≡ first
        at_file x is = λ j.
            parts ((sym none ∙ e_is) j) ((sym d_none ∙ d_found) j) ((sym is ∙ f_found) j) counted items whole

        module _ (h : Option Error) (f_none : f ≡ None) (h_is : h ≡ counted) where
          pub at_length : (x : Error) → h ≡ Some x → Some (part.Header x) ≡ first
          at_length x is = λ j.
              parts ((sym none ∙ e_is) j) ((sym d_none ∙ d_found) j) ((sym f_none ∙ f_found) j) ((sym is ∙ h_is) j)
              items whole

          module _ (i : Option (ℕ × Error)) (h_none : h ≡ None)
              (i_is : FindsFirst (cause_of_item (program_seen symbols p)) i) where
            i_found : i ≡ items
            i_found = sym (found_is (λ k. item_cause p.encoding.address_size) (items_seen symbols p.items) i i_is)

            pub at_item : (x : ℕ × Error) → i ≡ Some x → Some (part.Item x.0 x.1) ≡ first
            at_item x is = λ j.
                parts ((sym none ∙ e_is) j) ((sym d_none ∙ d_found) j) ((sym f_none ∙ f_found) j)
                ((sym h_none ∙ h_is) j) ((sym is ∙ i_found) j) whole

            pub at_end : (u : Option Error) → i ≡ None → u ≡ whole → option_map part.Header u ≡ first
            at_end u i_none u_is = sym (alone (option_map part.Header u)) ∙ λ j.
                parts ((sym none ∙ e_is) j) ((sym d_none ∙ d_found) j) ((sym f_none ∙ f_found) j)
                ((sym h_none ∙ h_is) j) ((sym i_none ∙ i_found) j) (u_is j)
