use Rattle.std.proofs.Common.{◌≡◌, length}
use Rattle.gimli_core.specs.Layout.{layout_of}
use Rattle.gimli_compilation.specs.Unit.{attributes_production}
use Rattle.gimli_compilation.specs.Value.{no_attributes}
use Rattle.gimli_compilation.specs.inside.Value.{attributes_seen}
use Rattle.gimli_compilation.specs.inside.AbbreviationReading.{listed, IsListed}
use Rattle.gimli_compilation.proofs.attributes.parse_attributes.Given as goal

abbrev pub invariant-loop-specification : goal.invariant-loop-specification
invariant-loop-specification g l =
    let layout = layout_of (g.R.Reader.seen l.initial.input).is_big g.R.Offset.ReaderOffset.limit in
    record {
      so_far : (attributes_production layout l.encoding (attributes_seen g.R.Reader.seen l.attributes)
          (listed (g.R.Reader.seen l.specifications).bytes)).read
          (g.R.Reader.seen l.input).bytes
          ≡ (attributes_production layout l.encoding no_attributes
          (listed (g.R.Reader.seen l.initial.specifications).bytes)).read
          (g.R.Reader.seen l.initial.input).bytes;
      closed : IsListed (g.R.Reader.seen l.specifications).bytes;
      order : (g.R.Reader.seen l.input).is_big ≡ (g.R.Reader.seen l.initial.input).is_big;
    }

abbrev pub decreases-loop-specification : goal.decreases-loop-specification
decreases-loop-specification g l = length (g.R.Reader.seen l.specifications).bytes
