use Rattle.std.proofs.Common.{◌<◌, List, length, sym, ap, subst, ◌∙◌, arith}
use Rattle.gimli_line.specs.declared.run.row.LineRow.{LineRow}
use Rattle.gimli_lookup.proofs.Sections.{HasPlaces, has_indexes, part_is, within_units}
use Rattle.gimli_lookup.proofs.section_lookup.SectionLookup.sequences_of.Goals as goal

pub part-requires : goal.part-requires
part-requires g c =
    let units = c.self.inside.units.items in
    let sequences = c.self.inside.sequences.items in
    let unit = c.index.result.now in
    let lt : c.args.unit
    < length units = within_units sequences units c.args.unit c.args.self.now c.self.view_is c.requires in
    let indexes : HasPlaces 0 (length sequences) unit =
    subst (HasPlaces 0 (length sequences)) (sym c.index.ensures)
    (has_indexes 0 units (length sequences) c.args.unit unit c.self.invariant.0 lt) in
    record {
      order = omega (arith, indexes.order, c.indexes-indexes.ensures.start, c.indexes-indexes.ensures.end);
      end =
          omega (
            arith,
            indexes.ends,
            c.indexes-indexes.ensures.end,
            ap (λ (rows : List (List LineRow)). length rows) c.as_slice.ensures.value,
          );
    }

pub returns : goal.returns
returns g c = λ d.
    let units = c.self.inside.units.items in
    let sequences = c.self.inside.sequences.items in
    let lt = within_units sequences units c.args.unit c.args.self.now c.self.view_is c.requires in
    (rw (c.indexes-indexes.ensures.start, c.indexes-indexes.ensures.end, c.as_slice.ensures.value) at c.part.ensures)
    ∙ part_is sequences units c.args.unit c.index.result.now d c.args.self.now c.self.view_is lt c.index.ensures
