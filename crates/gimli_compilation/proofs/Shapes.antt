-- The numbers of the forms that are known are ones that can be read.
use Rattle.std.proofs.Common.{◌≡◌, ℕ, ◌≤◌, Bool, true, false, if◌then◌else◌, List, [], ◌∷◌, Some, refl, subst, arith}
use Rattle.std.proofs.Common.{IsTrue}
use Rattle.std.specs.Map.{lookup}
use Rattle.std.specs.Prelude.{nat_eq, nat_le, ◌||◌}
use Rattle.std.proofs.lemmas.Bool.{eqb-true}
use Rattle.gimli_core.specs.Numbers.{is_address_size, word_size}
use Rattle.gimli_core.specs.declared.common.Encoding.{Encoding}
use Rattle.gimli_core.specs.declared.common.Format.{Format}
use Rattle.gimli_core.specs.declared.common.Format.TheVariants.{Dwarf32, Dwarf64}
use Rattle.gimli_compilation.specs.declared.form.Shape.{Shape}
use Rattle.gimli_compilation.specs.Form.{reference_size, shapes}
use Rattle.gimli_compilation.specs.inside.Value.{IsReadable}

abbrev AreReadable : List (ℕ × Shape) → Type 0
AreReadable [] = Unit {0}
AreReadable (row ∷ rows) = IsReadable row.1 × AreReadable rows

among_readable : (form : ℕ) (shape : Shape) (rows : List (ℕ × Shape)) → AreReadable rows
    → lookup (nat_eq form) rows ≡ Some shape → IsReadable shape
among_readable form shape [] all is = absurd cc
among_readable form shape (row ∷ rows) all is = at_test (nat_eq form row.0) is (among_readable form shape rows all.1)
  where
    at_test : (test : Bool) → (if test then Some row.1 else lookup (nat_eq form) rows) ≡ Some shape
        → (lookup (nat_eq form) rows ≡ Some shape → IsReadable shape)
        → IsReadable shape
    at_test true is others = let same : row.1 ≡ shape = cc in subst IsReadable same all.0
    at_test false is others = others is

word_readable : (format : Format) → word_size format ≤ 8
word_readable Dwarf32 = omega arith
word_readable Dwarf64 = omega arith

address_readable : (n : ℕ) → IsTrue (is_address_size n) → n ≤ 8
address_readable n known = at (nat_eq n 1) (nat_eq n 2) (nat_eq n 4) (nat_eq n 8) refl refl refl refl known
  where
    at : (a b c d : Bool) → nat_eq n 1 ≡ a → nat_eq n 2 ≡ b → nat_eq n 4 ≡ c → nat_eq n 8 ≡ d
        → (a || b || c || d) ≡ true → n ≤ 8
    at true b c d one two four eight k = let is = eqb-true n 1 one in omega arith
    at false true c d one two four eight k = let is = eqb-true n 2 two in omega arith
    at false false true d one two four eight k = let is = eqb-true n 4 four in omega arith
    at false false false true one two four eight k = let is = eqb-true n 8 eight in omega arith
    at false false false false one two four eight k = absurd cc

module _ (encoding : Encoding) (known : IsTrue (is_address_size encoding.address_size)) where
  reference_readable : reference_size encoding ≤ 8
  reference_readable = at_test (nat_le encoding.version 2)
    where
      at_test : (test : Bool) → (if test then encoding.address_size else word_size encoding.format) ≤ 8
      at_test true = address_readable encoding.address_size known
      at_test false = word_readable encoding.format

  pub form_readable : (form : ℕ) (shape : Shape) → lookup (nat_eq form) (shapes encoding) ≡ Some shape
      → IsReadable shape
  form_readable form shape is =
      let address = address_readable encoding.address_size known in
      let word = word_readable encoding.format in
      among_readable form shape (shapes encoding) (
        address,
        (
          reference_readable,
          (
            word,
            (
              word,
              (
                word,
                (
                  word,
                  (
                    word,
                    (
                      word,
                      (
                        omega arith,
                        (
                          omega arith,
                          (
                            omega arith,
                            (
                              omega arith,
                              (
                                omega arith,
                                (
                                  omega arith,
                                  (
                                    omega arith,
                                    (
                                      omega arith,
                                      (
                                        omega arith,
                                        (
                                          omega arith,
                                          (
                                            omega arith,
                                            (
                                              omega arith,
                                              (
                                                omega arith,
                                                (
                                                  omega arith,
                                                  (
                                                    omega arith,
                                                    (
                                                      omega arith,
                                                      (
                                                        omega arith,
                                                        (
                                                          omega arith,
                                                          (
                                                            omega arith,
                                                            (
                                                              omega arith,
                                                              (
                                                                omega arith,
                                                                (
                                                                  tt,
                                                                  (
                                                                    tt,
                                                                    (
                                                                      tt,
                                                                      (
                                                                        tt,
                                                                        (
                                                                          tt,
                                                                          (
                                                                            tt,
                                                                            (
                                                                              tt,
                                                                              (
                                                                                tt,
                                                                                (
                                                                                  tt,
                                                                                  (
                                                                                    tt,
                                                                                    (
                                                                                      omega arith,
                                                                                      (
                                                                                        omega arith,
                                                                                        (
                                                                                          omega arith,
                                                                                          (tt, (tt, (tt, tt))),
                                                                                        ),
                                                                                      ),
                                                                                    ),
                                                                                  ),
                                                                                ),
                                                                              ),
                                                                            ),
                                                                          ),
                                                                        ),
                                                                      ),
                                                                    ),
                                                                  ),
                                                                ),
                                                              ),
                                                            ),
                                                          ),
                                                        ),
                                                      ),
                                                    ),
                                                  ),
                                                ),
                                              ),
                                            ),
                                          ),
                                        ),
                                      ),
                                    ),
                                  ),
                                ),
                              ),
                            ),
                          ),
                        ),
                      ),
                    ),
                  ),
                ),
              ),
            ),
          ),
        ),
      )
      is
