-- The machine over the instructions of a row, and of an end.
use Rattle.std.specs.Prelude.{◌≡◌, ◌+◌, ◌-◌, ◌*◌, ◌/◌, ◌%◌, ◌^◌, ◌<◌, ◌≤◌, ◌∷◌, ◌++◌, if◌then◌else◌, ◌+ℤ◌, ◌-ℤ◌, ◌<ℤ◌}
use Rattle.std.specs.Prelude.{◌≤ℤ◌}
use Rattle.gimli_build.proofs
use proofs.Common
use Common.{ℕ, Bool, true, false, not, List, [], refl, sym, ap, ◌∙◌, arith, nat_eq, nat_le, ℤ, pos, add-zero}
use Common.{append_assoc, unsigned_abs, IsTrue, ints, is_address_size}
use Common.{Encoding, LineEncoding, ReadRow, Special, Copy, AdvancePc, AdvanceLine, ConstAddPc, EndSequence, Parameters}
use Common.{Ins, run, initial, reset_row, pointer_of, at_pointer, LineRow, CanEncode, IsPosition, CanFollow, operations}
use Common.{when, marks, changes, line_part, line_opcode, is_special_advance, operation_part, row_instructions}
use Common.{row_maker, still_opcode, constant_advance, end_instructions, file_number, initial_row, built_rules}
use Common.{read_row, registers_after_row, read_end}
use Rattle.std.proofs.Math.Nat.{
  mod-eq_of_lt,
  div-eq_of_lt,
  div-mul-le_self,
  add-mul-div_right,
  add-mul-mod_self_right,
  mul-add,
  mul-le-mul_left,
}
use Rattle.std.proofs.lemmas.Nat.{div-add-mod'}
use Rattle.gimli_line.specs.declared.run.instruction.LineInstruction.TheVariants.{SetAddress}
use Rattle.gimli_line.specs.run.Registers.{advanced_line}
use Rattle.gimli_line.specs.run.OperationPointer.{OperationPointer, address_limit}
use Rattle.gimli_line.specs.run.Events.{Event, row}
use proofs.sizes.Steps.{operations_above, whole_steps, taken_apart, special_parts, enough_of, none_of}

-- ---- pointers

-- the pointer n operations further on, with no bound
abbrev pub ahead : LineEncoding → ℕ → OperationPointer → OperationPointer
ahead e n p = record {
  address = p.address + e.minimum_instruction_length * ((p.op_index + n) / e.maximum_operations_per_instruction);
  op_index = (p.op_index + n) % e.maximum_operations_per_instruction;
}

-- an address holds the pointer n operations further on
pub record HasRoom (parameters : Parameters) (p : OperationPointer) (n : ℕ) : Type 0 where
  pub within : p.op_index < parameters.line_encoding.maximum_operations_per_instruction
  pub count : p.op_index + n < 2 ^ 64
  pub address : p.address + parameters.line_encoding.minimum_instruction_length
      * ((p.op_index + n) / parameters.line_encoding.maximum_operations_per_instruction)
      < address_limit parameters
  pub limit : address_limit parameters ≤ 2 ^ 64

-- one advance after the other
pub ahead-ahead : (e : LineEncoding) (p : OperationPointer) (q n : ℕ) → 1 ≤ e.maximum_operations_per_instruction
    → ahead e n (ahead e q p) ≡ ahead e (q + n) p
ahead-ahead e p q n pk =
    let k = e.maximum_operations_per_instruction in
    let m = e.minimum_instruction_length in
    let x = p.op_index + q in
    let split : p.op_index + (q + n) ≡ x % k + n + x / k * k = (let h = div-add-mod' x k in omega arith) in
    let division : (p.op_index + (q + n)) / k
    ≡ (x % k + n) / k + x / k = rw split (add-mul-div_right _ _ (omega arith)) in
    let rest : (p.op_index + (q + n)) % k ≡ (x % k + n) % k = rw split (add-mul-mod_self_right _ _ _) in
    let address : p.address + m * (x / k) + m * ((x % k + n) / k)
    ≡ p.address + m
    * ((p.op_index + (q + n)) / k) = rw division (let h = mul-add m ((x % k + n) / k) (x / k) in omega arith) in
    λ j. record { address = address j; op_index = sym rest j }

-- no operations
pub ahead-none : (e : LineEncoding) (p : OperationPointer) → p.op_index < e.maximum_operations_per_instruction
    → ahead e 0 p ≡ p
ahead-none e p lt = grind (arith, div-eq_of_lt)

-- fewer operations need no more room
pub less_room : (parameters : Parameters) (p : OperationPointer) (q n : ℕ) → q ≤ n → HasRoom parameters p n
    → HasRoom parameters p q
less_room _ _ _ _ le room = grind (arith, mul-le-mul_left)

-- the rest of the operations has its room
pub rest_room : (parameters : Parameters) (p : OperationPointer) (q n : ℕ) → q ≤ n → HasRoom parameters p n
    → HasRoom parameters (ahead parameters.line_encoding q p) (n - q)
rest_room _ _ _ _ le room = grind (arith, ahead-ahead)

-- ---- parts of a run

-- the registers n operations further on
abbrev pub moved_on : LineEncoding → ℕ → ReadRow → ReadRow
moved_on e n r = at_pointer (ahead e n (pointer_of r)) r

module _ (encoding : Encoding) (e : LineEncoding) where
  abbrev parameters : Parameters
  parameters = built_rules encoding e

  -- these instructions lead from registers to others, and make no row
  abbrev Goes : ReadRow → List Ins → ReadRow → Type 0
  Goes r is s = (list : List Ins) → run parameters r (is ++ list) ≡ run parameters s list

  -- a row, and what instructions give after it
  abbrev after_row : List Ins → ReadRow → List Event
  after_row list s = row s ∷ run parameters (reset_row parameters s) list

  -- these instructions make one row, their last
  abbrev Makes : ReadRow → List Ins → ReadRow → Type 0
  Makes r is s = (list : List Ins) → run parameters r (is ++ list) ≡ after_row list s

  goes_then : (r s t : ReadRow) (is js : List Ins) → Goes r is s → Goes s js t → Goes r (is ++ js) t
  goes_then r s t is js h k list = grind (arith, append_assoc)

  makes_then : (r s t : ReadRow) (is js : List Ins) → Goes r is s → Makes s js t → Makes r (is ++ js) t
  makes_then r s t is js h k list = grind (arith, append_assoc)

  -- an instruction that is due or not
  keep : (r s : ReadRow) (due : Bool) (i : Ins) → (due ≡ true → Goes r (i ∷ []) s) → (due ≡ false → r ≡ s)
      → Goes r (when due i) s
  keep r s due i goes stands list = grind arith

  same_from_test : (m n : ℕ) → not (nat_eq m n) ≡ false → m ≡ n
  same_from_test m n h = grind arith

  -- what stands for one row alone
  goes-marks : (r : ReadRow) (built : LineRow) → r.discriminator ≡ 0 → r.basic_block ≡ false → r.prologue_end ≡ false
      → r.epilogue_begin ≡ false
      → Goes r (marks built)
      (record
      r {
        discriminator = built.discriminator;
        basic_block = built.basic_block;
        prologue_end = built.prologue_end;
        epilogue_begin = built.epilogue_begin;
      })
  goes-marks _ _ d0 b0 p0 e0 = grind arith

  -- what lasts from row to row
  goes-changes : (r : ReadRow) (version : ℕ) (previous built : LineRow) → r.is_stmt ≡ previous.is_statement
      → r.file ≡ file_number version previous.file
      → r.column ≡ previous.column → r.isa ≡ previous.isa
      → Goes r (changes version previous built)
      (record
      r { is_stmt = built.is_statement; file = file_number version built.file; column = built.column; isa = built.isa })
  goes-changes _ _ _ _ hs hf hc hi = grind (arith, same_from_test)

  -- ---- advances

  goes-advance : (r : ReadRow) (n : ℕ) → r.tombstone ≡ false → HasRoom parameters (pointer_of r) n
      → Goes r (AdvancePc n ∷ []) (moved_on e n r)
  goes-advance r n shown room list = grind arith

  goes-constant : (r : ReadRow) → r.tombstone ≡ false → HasRoom parameters (pointer_of r) (constant_advance e)
      → Goes r (ConstAddPc ∷ []) (moved_on e (constant_advance e) r)
  goes-constant r shown room list = grind arith

  -- a special opcode of this line advance above the base, and of so many operations
  makes-special : (r : ReadRow) (u n : ℕ) → 1 ≤ e.line_range → u < e.line_range → r.tombstone ≡ false
      → HasRoom parameters (pointer_of r) n
      → Makes r (Special (13 + u + n * e.line_range) ∷ [])
      (record (moved_on e n r) { line = advanced_line (e.line_base +ℤ pos u) r.line })
  makes-special r u n some lt shown room list = grind (arith, special_parts)

  -- the line after the advance to another line
  advance_to : (l to : ℕ) (z : ℤ) → pos to ≡ pos l +ℤ z → to < 2 ^ 64 → advanced_line z l ≡ to
  advance_to l to z h small = grind (arith, mod-eq_of_lt)

  -- the registers that a special opcode of this line advance above the base makes, and so many operations
  abbrev made : ℕ → ℕ → ReadRow → ReadRow
  made u n r = record (moved_on e n r) { line = advanced_line (e.line_base +ℤ pos u) r.line }

  makes-copy : (r : ReadRow) → r.tombstone ≡ false → Makes r (Copy ∷ []) r
  makes-copy r shown list = rw shown refl

  -- the last instruction of a row
  makes-row : (r : ReadRow) (u n : ℕ) → CanEncode e → u < e.line_range → r.tombstone ≡ false → r.line < 2 ^ 64
      → HasRoom parameters (pointer_of r) n
      → Makes r (row_maker e (13 + u + n * e.line_range) ∷ []) (made u n r)
  makes-row r u n can lt shown small room list = by (nat_eq _ _) refl
    where
      by : (b : Bool) → nat_eq (13 + u + n * e.line_range) (still_opcode e) ≡ b
          → run parameters r ((if b then Copy else Special (13 + u + n * e.line_range)) ∷ list)
          ≡ after_row list (made u n r)
      by false t = makes-special r u n (omega arith) lt shown room list
      by true t =
          let g = e.line_range in
          let same : 13 + u + n * g ≡ still_opcode e = grind arith in
          let idle = none_of n u g (unsigned_abs e.line_base) (omega arith) (omega (arith, ints)) in
          let product = ap (λ x. x * g) idle in
          let low : u ≡ unsigned_abs e.line_base = omega arith in
          let flat : e.line_base +ℤ pos u ≡ pos 0 = omega (arith, ints) in
          let line : advanced_line (e.line_base +ℤ pos u) r.line
          ≡ r.line = rw flat (ap (λ l. l % 2 ^ 64) (add-zero _) ∙ mod-eq_of_lt small) in
          let there = ap (λ x. ahead e x (pointer_of r)) idle ∙ ahead-none e _ room.within in
          let stands : r ≡ made u n r = λ j. record (at_pointer (sym there j) r) { line = sym line j } in
          makes-copy r shown list ∙ ap (after_row list) stands

  -- the operations of a row, and the row
  makes-operations : (r : ReadRow) (u n : ℕ) → CanEncode e → u < e.line_range → r.tombstone ≡ false → r.line < 2 ^ 64
      → HasRoom parameters (pointer_of r) n
      → Makes r (operation_part e (13 + u) n) (made u n r)
  makes-operations r u n can lt shown small room list =
      by (nat_le (13 + u + n * e.line_range) 255) refl (nat_le (13 + u + (n - constant_advance e) * e.line_range) 255)
    where
      by : (b : Bool) → nat_le (13 + u + n * e.line_range) 255 ≡ b → (c : Bool)
          → run parameters r ((if b then row_maker e (13 + u + n * e.line_range) ∷ []
          else (if c then ConstAddPc ∷ row_maker e (13 + u + (n - constant_advance e) * e.line_range) ∷ []
          else AdvancePc n ∷ row_maker e (13 + u) ∷ [])) ++ list)
          ≡ after_row list (made u n r)
      by true h c = makes-row r u n can lt shown small room list
      by false h true =
          let g = e.line_range in
          let q = constant_advance e in
          let over : 255 < 13 + u + n * g = grind arith in
          let some : 1 ≤ g = omega arith in
          let enough = enough_of g u n q some lt over (div-mul-le_self 242 g) in
          let back : q + (n - q) ≡ n = omega arith in
          let there = ahead-ahead e _ q _ can.operations ∙ ap (λ x. ahead e x (pointer_of r)) back in
          let s = moved_on e q r in
          let same : made u (n - q) s ≡ made u n r = λ j.
          record (at_pointer (there j) r) { line = advanced_line (e.line_base +ℤ pos u) r.line } in
          let first =
          goes-constant r shown (less_room _ _ q n enough room) (row_maker e (13 + u + (n - q) * g) ∷ list) in
          let second = makes-row s u _ can lt shown small (rest_room _ _ q n enough room) list in
          first ∙ second ∙ ap (after_row list) same
      by false h false =
          let s = moved_on e n r in
          let keeps_bytes : 13 + u ≡ 13 + u + 0 * e.line_range = omega arith in
          let none_left : n - n ≡ 0 = omega arith in
          let rest = rest_room _ _ n n (omega arith) room in
          let room0 = rw none_left at rest in
          let there = ahead-none e _ room0.within in
          let same : made u 0 s ≡ made u n r = λ j.
          record (at_pointer (there j) r) { line = advanced_line (e.line_base +ℤ pos u) r.line } in
          let first = goes-advance r n shown room (row_maker e (13 + u) ∷ list) in
          let second = makes-row s u 0 can lt shown small room0 list in
          first ∙ ap (λ x. run parameters s (row_maker e x ∷ list)) keeps_bytes ∙ second ∙ ap (after_row list) same

  -- the line and the operations of a row, and the row
  makes-move : (r : ReadRow) (d : ℤ) (n to : ℕ) → CanEncode e → r.tombstone ≡ false → r.line < 2 ^ 64 → to < 2 ^ 64
      → pos to ≡ pos r.line +ℤ d
      → HasRoom parameters (pointer_of r) n
      → Makes r (line_part e d ++ operation_part e (line_opcode e d) n) (record (moved_on e n r) { line = to })
  makes-move r d n to can shown small small' there room list = by (is_special_advance e d) refl
    where
      by : (b : Bool) → is_special_advance e d ≡ b
          → run parameters r
          (((if b then [] else AdvanceLine d ∷ [])
          ++ operation_part e (if b then 13 + unsigned_abs (d -ℤ e.line_base) else still_opcode e) n) ++ list)
          ≡ after_row list (record (moved_on e n r) { line = to })
      by true t =
          let low : e.line_base ≤ℤ d = grind arith in
          let high : d <ℤ (e.line_base +ℤ pos e.line_range) = grind arith in
          let u = unsigned_abs (d -ℤ e.line_base) in
          let lt : u < e.line_range = omega (arith, ints) in
          let same : e.line_base +ℤ pos u ≡ d = omega (arith, ints) in
          let line : advanced_line (e.line_base +ℤ pos u) r.line ≡ to = rw same (advance_to _ _ d there small') in
          makes-operations r u n can lt shown small room list
          ∙ ap (λ l. after_row list (record (moved_on e n r) { line = l })) line
      by false t =
          let s : ReadRow = record r { line = advanced_line d r.line } in
          let u = unsigned_abs e.line_base in
          let reached = advance_to _ _ d there small' in
          let lt : u < e.line_range = omega (arith, ints) in
          let flat : e.line_base +ℤ pos u ≡ pos 0 = omega (arith, ints) in
          let small1 : s.line < 2 ^ 64 = rw reached small' in
          let line : advanced_line (e.line_base +ℤ pos u) s.line
          ≡ to = rw (flat, reached) (ap (λ l. l % 2 ^ 64) (add-zero to) ∙ mod-eq_of_lt small') in
          makes-operations s u n can lt shown small1 room list
          ∙ ap (λ l. after_row list (record (moved_on e n r) { line = l })) line

  -- ---- rows and ends

  -- addresses have at most eight bytes
  limit_small : IsTrue (is_address_size encoding.address_size) → address_limit parameters ≤ 2 ^ 64
  limit_small known = grind arith

  -- where the operations to a position that can follow lead
  record Reaches (base p j o i : ℕ) : Type 0 where
    room : HasRoom parameters (record { address = base + p; op_index = j }) (operations e p j o i)
    there : ahead e (operations e p j o i) (record { address = base + p; op_index = j })
        ≡ record { address = base + o; op_index = i }

  reaches : (base p j o i : ℕ) → IsTrue (is_address_size encoding.address_size) → CanEncode e → IsPosition e p j
      → CanFollow e p j o i
      → base + o < 2 ^ (8 * encoding.address_size) → Reaches base p j o i
  reaches base p j o i known can position follows held =
      let k = e.maximum_operations_per_instruction in
      let m = e.minimum_instruction_length in
      let t = (o - p) / m in
      let n = operations e p j o i in
      let above =
      operations_above m k p j o i can.instruction_length position.divides follows.position.divides follows.after
      follows.later position.within in
      let sum : j + n ≡ t * k + i = omega arith in
      let apart = taken_apart k t i follows.position.within in
      let q : (j + n) / k ≡ t = rw sum apart.0 in
      let w : (j + n) % k ≡ i = rw sum apart.1 in
      let whole = whole_steps m p o can.instruction_length position.divides follows.position.divides follows.after in
      let a : base + p + m * ((j + n) / k) ≡ base + o = rw q (omega arith) in
      record {
        room = record { within = position.within; count = omega arith; address = rw a held; limit = limit_small known };
        there = λ x. record { address = a x; op_index = w x };
      }

  -- the instructions of a row make the row, from the registers after the row before it
  pub row-runs : (base : ℕ) (previous built : LineRow) → IsTrue (is_address_size encoding.address_size) → CanEncode e
      → IsPosition e previous.address_offset previous.op_index
      → CanFollow e previous.address_offset previous.op_index built.address_offset built.op_index
      → previous.line < 2 ^ 63 → built.line < 2 ^ 63
      → base + built.address_offset < 2 ^ (8 * encoding.address_size)
      → Makes (registers_after_row encoding.version base previous) (row_instructions encoding.version e previous built)
      (read_row encoding.version base built)
  row-runs base previous built known can position follows from to held =
      let version = encoding.version in
      let r0 = registers_after_row version base previous in
      let d = pos built.line -ℤ pos previous.line in
      let n = operations e previous.address_offset previous.op_index built.address_offset built.op_index in
      let r1 : ReadRow = record r0 {
        discriminator = built.discriminator;
        basic_block = built.basic_block;
        prologue_end = built.prologue_end;
        epilogue_begin = built.epilogue_begin;
      } in
      let r2 : ReadRow = record r1 {
        is_stmt = built.is_statement;
        file = file_number version built.file;
        column = built.column;
        isa = built.isa;
      } in
      let s1 = goes-marks r0 built refl refl refl refl in
      let s2 = goes-changes r1 version previous built refl refl refl refl in
      let apart : pos built.line ≡ pos previous.line +ℤ d = omega (arith, ints) in
      let ends = reaches _ _ _ _ _ known can position follows held in
      let s3 = makes-move _ d n _ can refl (omega arith) (omega arith) apart ends.room in
      let s4 : Makes r2 (line_part e d ++ operation_part e (line_opcode e d) n) (read_row version base built) = λ list.
      s3 list ∙ ap (λ p. after_row list (record (at_pointer p r2) { line = built.line })) ends.there in
      let s12 = goes_then r0 _ _ (marks built) (changes version previous built) s1 s2 in
      λ list.
      ap (λ is. run parameters r0 (is ++ list))
      (append_assoc (marks built ++ changes version previous built) (line_part e d)
      (operation_part e (line_opcode e d) n)) ∙ makes_then r0 _ _ (marks built ++ changes version previous built)
      (line_part e d ++ operation_part e (line_opcode e d) n)
      s12 s4 list

  -- the instructions of an end make the end
  pub end-runs : (base : ℕ) (previous : LineRow) (o i : ℕ) → IsTrue (is_address_size encoding.address_size)
      → CanEncode e
      → IsPosition e previous.address_offset previous.op_index
      → CanFollow e previous.address_offset previous.op_index o i → base + o < 2 ^ (8 * encoding.address_size)
      → Makes (registers_after_row encoding.version base previous) (end_instructions e previous o i)
      (read_end encoding.version base previous o i)
  end-runs base previous o i known can position follows held =
      let r = registers_after_row encoding.version base previous in
      let n = operations e previous.address_offset previous.op_index o i in
      let ends = reaches _ _ _ o i known can position follows held in
      let s = at_pointer (record { address = base + o; op_index = i }) r in
      let first = keep r s _ _
      (λ h list. goes-advance r n refl ends.room list ∙ ap (λ p. run parameters (at_pointer p r) list) ends.there)
      (λ h. let idle = same_from_test n 0 h in
      let there = sym (ahead-none e _ position.within) ∙ ap (λ x. ahead e x (pointer_of r)) (sym idle) ∙ ends.there in
      λ j. at_pointer (there j) r) in
      makes_then r s _ (when (not (nat_eq n 0)) (AdvancePc n)) (EndSequence ∷ []) first (λ list. refl)

  -- a set address that doesn't go back moves the registers there
  pub set-address-runs : (base a : ℕ) (previous : LineRow) → base + previous.address_offset ≤ a
      → a < 2 ^ (8 * encoding.address_size) - 2
      → Goes (registers_after_row encoding.version base previous) (SetAddress a ∷ [])
      (registers_after_row encoding.version a (record previous { address_offset = 0; op_index = 0 }))
  set-address-runs _ _ _ le lt list = grind arith

  -- a sequence starts after its initial row
  pub start-is : encoding.version ≤ 5
      → initial parameters ≡ registers_after_row encoding.version 0 (initial_row encoding.version e.default_is_stmt)
  start-is le = grind (arith, nat_eq)
