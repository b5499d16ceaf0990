-- Texts, ids, files, rows and items are equal by `==` exactly where all their parts agree; and equal texts hash alike.
use Rattle.std.specs.Prelude.{◌≡◌, ◌&&◌}
use Rattle.gimli_build.proofs.Common
use Common.{Bool, sym, ap, true≢false, Decides-eqb, Decides-like, Decides-and, LineRow, BuiltItem, SetAddress, Row, End}
use Rattle.std.specs.Bool.{Decides}
use Rattle.std.specs.Cmp.{booleans_Decides}
use Rattle.gimli_bytes.proofs.Equality.{address-Decides}
use Rattle.gimli_build.specs
use specs.contracts.built.row.LineRowPartialEq.TheImpl.{ghosts as rows}
use specs.contracts.built.items.BuiltItemPartialEq.TheImpl.{ghosts as items}

-- ---- rows and items

also : {P Q : Type 0} {x y : Bool} → Decides x P → Decides y Q → Decides (x && y) (P × Q)
also {x = x} {y = y} first rest = Decides-and x y first rest

module _ (a b : LineRow) where
  abbrev Registers : Type 0
  Registers = (a.address_offset ≡ b.address_offset)
      × ((a.op_index ≡ b.op_index)
      × ((a.file ≡ b.file) × ((a.line ≡ b.line) × ((a.column ≡ b.column) × ((a.discriminator ≡ b.discriminator)
      × ((a.is_statement ≡ b.is_statement)
      × ((a.basic_block ≡ b.basic_block)
      × ((a.prologue_end ≡ b.prologue_end) × ((a.epilogue_begin ≡ b.epilogue_begin) × (a.isa ≡ b.isa))))))))))

  same_row : Registers → a ≡ b
  same_row (
    address_offset,
    (
      op_index,
      (file, (line, (column, (discriminator, (is_statement, (basic_block, (prologue_end, (epilogue_begin, (isa))))))))),
    ),
  ) = λ i. record {
    address_offset = address_offset i;
    op_index = op_index i;
    file = file i;
    line = line i;
    column = column i;
    discriminator = discriminator i;
    is_statement = is_statement i;
    basic_block = basic_block i;
    prologue_end = prologue_end i;
    epilogue_begin = epilogue_begin i;
    isa = isa i;
  }

  same_registers : a ≡ b → Registers
  same_registers same = (
    ap (λ r. r.address_offset) same,
    (
      ap (λ r. r.op_index) same,
      (
        ap (λ r. r.file) same,
        (
          ap (λ r. r.line) same,
          (
            ap (λ r. r.column) same,
            (
              ap (λ r. r.discriminator) same,
              (
                ap (λ r. r.is_statement) same,
                (
                  ap (λ r. r.basic_block) same,
                  (ap (λ r. r.prologue_end) same, (ap (λ r. r.epilogue_begin) same, (ap (λ r. r.isa) same))),
                ),
              ),
            ),
          ),
        ),
      ),
    ),
  )

  pub row-Decides : Decides (rows.eq a b) (a ≡ b)
  row-Decides = Decides-like _ same_row same_registers (also (Decides-eqb _ _)
      (also (Decides-eqb _ _) (also (Decides-eqb _ _)
      (also (Decides-eqb _ _)
      (also (Decides-eqb _ _) (also (Decides-eqb _ _)
      (also (booleans_Decides a.is_statement b.is_statement) (also (booleans_Decides a.basic_block b.basic_block)
      (also (booleans_Decides a.prologue_end b.prologue_end)
      (also (booleans_Decides a.epilogue_begin b.epilogue_begin) (Decides-eqb _ _)))))))))))

pub item-Decides : (a b : BuiltItem) → Decides (items.eq a b) (a ≡ b)
item-Decides (SetAddress a) (SetAddress b) =
    Decides-like _ (λ same. ap SetAddress same) (λ same. cc) (address-Decides a b)
item-Decides (Row a) (Row b) = Decides-like _ (λ same. ap Row same) (λ same. cc) (row-Decides a b)
item-Decides (End o k) (End p l) = Decides-like _ (λ same. cc) (λ same. (cc, cc))
    (also (Decides-eqb o p) (Decides-eqb k l))
item-Decides (SetAddress a) (Row r) = (λ h. absurd (true≢false (sym h)), λ same. absurd cc)
item-Decides (SetAddress a) (End o k) = (λ h. absurd (true≢false (sym h)), λ same. absurd cc)
item-Decides (Row r) (SetAddress a) = (λ h. absurd (true≢false (sym h)), λ same. absurd cc)
item-Decides (Row r) (End o k) = (λ h. absurd (true≢false (sym h)), λ same. absurd cc)
item-Decides (End o k) (SetAddress a) = (λ h. absurd (true≢false (sym h)), λ same. absurd cc)
item-Decides (End o k) (Row r) = (λ h. absurd (true≢false (sym h)), λ same. absurd cc)
