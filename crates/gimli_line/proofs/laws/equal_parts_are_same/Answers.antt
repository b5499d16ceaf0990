use Rattle.std.specs.Prelude.{◌≡◌}
use Rattle.gimli_line.proofs
use proofs.Common.{refl, unsigned_Decides, booleans_Decides, LineRow}
use proofs.Equality.{both, whole}
use proofs.laws.equal_parts_are_same.Goals as goal

-- a row of these parts
abbrev rebuilt : LineRow → LineRow
rebuilt r = record {
  tombstone = r.tombstone;
  address = r.address;
  op_index = r.op_index;
  file = r.file;
  line = r.line;
  column = r.column;
  is_stmt = r.is_stmt;
  basic_block = r.basic_block;
  end_sequence = r.end_sequence;
  prologue_end = r.prologue_end;
  epilogue_begin = r.epilogue_begin;
  isa = r.isa;
  discriminator = r.discriminator;
}

pub returns-clause-rows : goal.returns-clause-rows
returns-clause-rows c x y = whole
    (both (booleans_Decides x.tombstone y.tombstone) (both (unsigned_Decides x.address y.address)
    (both (unsigned_Decides x.op_index y.op_index)
    (both (unsigned_Decides x.file y.file) (both (unsigned_Decides x.line y.line)
    (both (unsigned_Decides x.column y.column)
    (both (booleans_Decides x.is_stmt y.is_stmt) (both (booleans_Decides x.basic_block y.basic_block)
    (both (booleans_Decides x.end_sequence y.end_sequence) (both (booleans_Decides x.prologue_end y.prologue_end) (both
    (booleans_Decides x.epilogue_begin y.epilogue_begin)
    (both (unsigned_Decides x.isa y.isa) (unsigned_Decides x.discriminator y.discriminator)))))))))))))
    (λ p. let same : rebuilt x ≡ rebuilt y = cc in same) (λ e.
    rw e (refl, (refl, (refl, (refl, (refl, (refl, (refl, (refl, (refl, (refl, (refl, (refl, refl)))))))))))))
