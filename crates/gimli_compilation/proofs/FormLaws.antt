-- Reading the values of attributes.
use Rattle.std.proofs.Common.{ℕ, List, Option, Some, None}
use Rattle.std.specs.Map.{lookup}
use Rattle.std.specs.Prelude.{nat_eq}
use Rattle.gimli_core.specs.Layout.{OrderAndLimit}
use Rattle.gimli_core.specs.Production.{refuse, Reads}
use Rattle.gimli_core.specs.declared.common.Encoding.{Encoding}
use Rattle.gimli_core.specs.declared.error.Error.TheVariants.{UnknownForm}
use Rattle.gimli_core.proofs.Productions.{reads_refuse}
use Rattle.gimli_core.proofs.Readers.{readers}
use Rattle.gimli_compilation.specs.declared.form.Value.{Value}
use Rattle.gimli_compilation.specs.declared.form.Shape.{Shape}
use Rattle.gimli_compilation.specs.declared.form.Shape.TheVariants.{Fixed, Unsigned, Signed, Block, Counted}
use Rattle.gimli_compilation.specs.declared.form.Shape.TheVariants.{UnsignedCounted, String}
use Rattle.gimli_compilation.specs.Form.{shapes, shape_production, known_form_production, form_production}

module _ (layout : OrderAndLimit) where
  reads_shape : (shape : Shape) → Reads (shape_production layout shape)
  reads_shape (Fixed size kind) = search readers
  reads_shape (Unsigned kind) = search readers
  reads_shape Signed = search readers
  reads_shape (Block size) = search readers
  reads_shape (Counted size) = search readers
  reads_shape UnsignedCounted = search readers
  reads_shape String = search readers

  module _ (encoding : Encoding) where
    reads_known_form : (form : ℕ) → Reads (known_form_production layout encoding form)
    unfolding known_form_production
    reads_known_form form = at_shape (lookup (nat_eq form) (shapes encoding))
      where
        at_shape : (shape : Option Shape)
            → Reads {A = Value (List ℕ)} (elim shape
            [ Some shape ↦ shape_production layout shape | None ↦ refuse (UnknownForm (record { 0 = form })) ])
        at_shape (Some shape) = reads_shape shape
        at_shape None = reads_refuse (UnknownForm (record { 0 = form }))

    pub reads_form : (form : ℕ) → Reads (form_production layout encoding form)
    unfolding form_production
    reads_form form = search (readers, reads_known_form)
