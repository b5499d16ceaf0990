-- The forms of the tables of version 5 (DWARF 5, section 7.5.5): how a value lies in the bytes.
use Rattle.std.specs.Prelude.{ℕ, List}
use Rattle.gimli_core.specs
use specs.Layout.{OrderAndLimit}
use specs.Values.{Value}
use specs.declared.common.Format.{Format}
use specs.Form.{form_production}

module _ (layout : OrderAndLimit) (format : Format) where
  -- the bytes are a value in this form
  abbrev pub SpellsForm : ℕ → List ℕ → Value → Type 0
  SpellsForm form = (form_production layout format form).Spells
