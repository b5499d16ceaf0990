-- The bytes of an instruction spell it.
use Rattle.std.specs.Prelude.{◌≡◌, ◌+◌, ◌-◌, ◌*◌, ◌^◌, ◌<◌, ◌≤◌, ◌∷◌, ◌++◌, ◌||◌, if◌then◌else◌, ◌-ℤ◌}
use Rattle.gimli_build.proofs.Common
use Common.{ℕ, Bool, true, false, List, [], length, refl, sym, ap, arith, lit<, Ok, nat_lt, nat_eq, nat_le, Err}
use Common.{ℤ, pos, unsigned_abs, FitsSigned, w64, rules, ints, AllByRecursion, nat_tests, append-nil, lt-ltb, lt-leb}
use Common.{le-leb, ne_eqb, and_parts, LineEncoding, OrderAndLimit, SpellsUleb128, SpellsNumber, number_bytes}
use Common.{result_map, below_limit, unsigned, Each, number_spelled, plain, uleb, sleb, ValueTooLarge}
use Common.{UnsupportedWordSize, Constant, uleb_shortest, Header, Ins, standard_production, extended_operands}
use Common.{extended_production}
use Common.{SpellsInstruction, Special, Copy, AdvancePc, AdvanceLine, SetFile, SetColumn, NegateStatement}
use Common.{SetBasicBlock, ConstAddPc, SetPrologueEnd, SetEpilogueBegin, SetIsa, EndSequence, SetDiscriminator, LineRow}
use Common.{CanEncode, CanFollow, operations, when, marks, changes, line_part, line_opcode, is_special_advance}
use Common.{still_opcode, row_maker, constant_advance, operation_part, row_instructions, end_instructions}
use Common.{instruction_bytes, instructions_bytes, set_address_bytes, IsWritten, FitsInstructions}
use Rattle.gimli_bytes.proofs.ShortestSleb.{sleb_shortest}
use Rattle.gimli_line.specs.declared.run.instruction.LineInstruction.TheVariants.{SetAddress}

module _ (layout : OrderAndLimit) (h : Header) (base : h.parameters.opcode_base ≡ 13) (wide : 11 < layout.limit) where
  -- an instruction by a standard opcode
  standard : (x : ℕ) (rest : List ℕ) (i : Ins) → 0 < x → x < 13 → (standard_production layout h x).Spells rest i
      → SpellsInstruction layout h (x ∷ rest) i
  standard x rest i some low s =
      let opened : nat_eq x 0 ≡ false = ne_eqb x 0 (λ e. absurd (omega arith)) in
      let below : nat_le h.parameters.opcode_base x ≡ false = lt-leb h.parameters.opcode_base x (omega (arith, base)) in
      (x, x ∷ [], rest, refl, refl, rw (opened, below) s)

  -- an instruction by an extended opcode
  extended : (size : List ℕ) (opcode : ℕ) (operands : List ℕ) (i : Ins) → SpellsUleb128 64 size (length operands + 1)
      → length operands + 1 < layout.limit
      → (extended_operands layout h opcode operands).Spells [] i
      → SpellsInstruction layout h (0 ∷ size ++ opcode ∷ operands) i
  unfolding extended_production
  extended size opcode operands i spelled fits s =
      let held : nat_lt (length operands + 1) layout.limit
      ≡ true = lt-ltb (length operands + 1) layout.limit fits in
      let counted : length (opcode ∷ operands) ≡ length operands + 1 = omega arith in
      let number : (below_limit layout unsigned).Spells size (length operands + 1) =
      (length operands + 1, size, [], sym (append-nil size), spelled, (tt, [], [], refl, (refl, held), (refl, refl)))
      in (
        0,
        0 ∷ [],
        size ++ opcode ∷ operands,
        refl,
        refl,
        (
          length operands + 1,
          size,
          opcode ∷ operands,
          refl,
          number,
          (
            opcode ∷ operands,
            opcode ∷ operands,
            [],
            sym (append-nil (opcode ∷ operands)),
            (counted, refl),
            ((opcode, operands), [], [], refl, (refl, (opcode ∷ [], refl, refl)), s),
          ),
        ),
      )

  unsigned_spelled : (n : ℕ) → n < 2 ^ 64 → SpellsUleb128 64 (uleb n) n
  unsigned_spelled n lt = (uleb_shortest n lt).spells

  -- operands of ten bytes at most
  unsigned_short : (n : ℕ) → n < 2 ^ 64 → length (uleb n) ≤ 10
  unsigned_short n lt = let s = unsigned_spelled n lt in omega (arith, s.short)

  pub instruction-spelled : (i : Ins) → IsWritten i → SpellsInstruction layout h (instruction_bytes i) i
  unfolding standard_production extended_operands
  instruction-spelled (Special o) w =
      let opened : nat_eq o 0 ≡ false = ne_eqb o 0 (λ e. absurd (omega (arith, w.0))) in
      let above : nat_le h.parameters.opcode_base o
      ≡ true = le-leb h.parameters.opcode_base o (omega (arith, base, w.0)) in
      (o, o ∷ [], [], refl, refl, rw (opened, above) (refl, refl))
  instruction-spelled Copy w = standard 1 [] Copy (lit< tt) (lit< tt) (refl, refl)
  instruction-spelled (AdvancePc n) w =
      standard 2 (uleb n) (AdvancePc n) (lit< tt) (lit< tt)
      (n, uleb n, [], sym (append-nil (uleb n)), unsigned_spelled n w, (refl, refl))
  instruction-spelled (AdvanceLine z) w =
      standard 3 (sleb z) (AdvanceLine z) (lit< tt) (lit< tt)
      (z, sleb z, [], sym (append-nil (sleb z)), (sleb_shortest z w).spells, (refl, refl))
  instruction-spelled (SetFile n) w =
      standard 4 (uleb n) (SetFile n) (lit< tt) (lit< tt)
      (n, uleb n, [], sym (append-nil (uleb n)), unsigned_spelled n w, (refl, refl))
  instruction-spelled (SetColumn n) w =
      standard 5 (uleb n) (SetColumn n) (lit< tt) (lit< tt)
      (n, uleb n, [], sym (append-nil (uleb n)), unsigned_spelled n w, (refl, refl))
  instruction-spelled NegateStatement w = standard 6 [] NegateStatement (lit< tt) (lit< tt) (refl, refl)
  instruction-spelled SetBasicBlock w = standard 7 [] SetBasicBlock (lit< tt) (lit< tt) (refl, refl)
  instruction-spelled ConstAddPc w = standard 8 [] ConstAddPc (lit< tt) (lit< tt) (refl, refl)
  instruction-spelled SetPrologueEnd w = standard 10 [] SetPrologueEnd (lit< tt) (lit< tt) (refl, refl)
  instruction-spelled SetEpilogueBegin w = standard 11 [] SetEpilogueBegin (lit< tt) (lit< tt) (refl, refl)
  instruction-spelled (SetIsa n) w =
      standard 12 (uleb n) (SetIsa n) (lit< tt) (lit< tt)
      (n, uleb n, [], sym (append-nil (uleb n)), unsigned_spelled n w, (refl, refl))
  instruction-spelled EndSequence w =
      extended (1 ∷ []) 1 [] EndSequence (record { groups = (lit< tt, refl); short = lit< tt; fits = lit< tt })
      (omega (arith, wide))
      ((EndSequence, []), [], [], refl, (refl, ([], refl, (refl, refl))), (refl, refl))
  instruction-spelled (SetDiscriminator n) w =
      let short = unsigned_short n w in
      extended (uleb (length (uleb n) + 1)) 4 (uleb n) (SetDiscriminator n)
      (unsigned_spelled (length (uleb n) + 1) (omega (arith, short)))
      (omega (arith, short, wide)) (
        (SetDiscriminator n, []),
        [],
        [],
        refl,
        (
          refl,
          (
            uleb n,
            sym (append-nil (uleb n)),
            (n, uleb n, [], sym (append-nil (uleb n)), unsigned_spelled n w, (refl, refl)),
          ),
        ),
        (refl, refl),
      )
  instruction-spelled i w = absurd w

  -- the operand of a set address, where there is one, is the number
  abbrev Operand : ℕ → List ℕ → Type 0
  Operand a bytes =
      (size : ℕ) × (h.parameters.encoding.address_size ≡ size) × (size ≤ 8) × (a < 256 ^ size)
      × (bytes ≡ 0 ∷ uleb (size + 1) ++ 2 ∷ number_bytes layout.is_big size a)

  address_written : (a : ℕ) (bytes : List ℕ) → Operand a bytes → SpellsInstruction layout h bytes (SetAddress a)
  unfolding extended_operands
  address_written a bytes (size, is, small, fits, written) =
      let operand : SpellsNumber layout.is_big size (number_bytes layout.is_big size a) a = number_spelled _ _ a fits in
      let counted : length (number_bytes layout.is_big size a) + 1 ≡ size + 1 = ap (λ n. n + 1) operand.size_is in
      let held : SpellsNumber layout.is_big h.parameters.encoding.address_size (number_bytes layout.is_big size a) a =
      rw is operand in
      let number : SpellsUleb128 64 (uleb (size + 1)) (length (number_bytes layout.is_big size a) + 1) =
      rw counted (unsigned_spelled _ (omega (arith, small))) in
      rw written (extended _ 2 _ _ number (omega (arith, counted, small, wide)) (
        (SetAddress a, []),
        [],
        [],
        refl,
        (
          refl,
          (
            number_bytes layout.is_big size a,
            sym (append-nil (number_bytes layout.is_big size a)),
            (
              a,
              number_bytes layout.is_big size a,
              [],
              sym (append-nil (number_bytes layout.is_big size a)),
              held,
              (refl, refl),
            ),
          ),
        ),
        (refl, refl),
      ))

  -- a set address that is written
  address_operand : (a : ℕ) (bytes : List ℕ)
      → set_address_bytes plain layout.is_big (Constant a) h.parameters.encoding.address_size ≡ Ok bytes
      → Operand a bytes
  address_operand a bytes is = grind arith
    where
      sized : (size : ℕ) → (nat_eq size 1 || nat_eq size 2 || nat_eq size 3 || nat_eq size 4 || nat_eq size 8) ≡ true
          → size ≤ 8
      sized size t = grind (arith, nat_tests)

      tested : (size : ℕ) → h.parameters.encoding.address_size ≡ size → (b c : Bool)
          → (nat_eq size 1 || nat_eq size 2 || nat_eq size 3 || nat_eq size 4 || nat_eq size 8) ≡ b
          → nat_lt a (256 ^ size) ≡ c
          → (let r = if b
          then (if c then Ok (number_bytes layout.is_big size a) else Err ValueTooLarge)
          else Err (UnsupportedWordSize size) in
          result_map (λ operand. 0 ∷ uleb (size + 1) ++ 2 ∷ operand) r)
          ≡ Ok bytes
          → Operand a bytes
      tested size same true true t u is =
          grind arith
      tested size same true false t u is = absurd cc
      tested size same false c t u is = absurd cc

      by : (size : ℕ) → h.parameters.encoding.address_size ≡ size
          → set_address_bytes plain layout.is_big (Constant a) size ≡ Ok bytes → Operand a bytes
      by size same is =
          grind arith

  -- a set address that is written spells it
  pub address-spelled : (a : ℕ) (bytes : List ℕ)
      → set_address_bytes plain layout.is_big (Constant a) h.parameters.encoding.address_size ≡ Ok bytes
      → SpellsInstruction layout h bytes (SetAddress a)
  address-spelled a bytes is = address_written a _ (address_operand a _ is)

  -- instructions one after the other
  pub each-spelled : (is : List Ins) → AllByRecursion IsWritten is
      → Each (SpellsInstruction layout h) (instructions_bytes is) is
  each-spelled [] all = refl
  each-spelled (i ∷ is) all =
      (instruction_bytes i, instructions_bytes is, refl, instruction-spelled i all.0, each-spelled is all.1)

-- ---- instructions of rows and ends

all_append : (is js : List Ins) → AllByRecursion IsWritten is → AllByRecursion IsWritten js
    → AllByRecursion IsWritten (is ++ js)
all_append [] js p q = q
all_append (i ∷ is) js p q = (p.0, all_append is js p.1 q)

all_when : (due : Bool) (i : Ins) → IsWritten i → AllByRecursion IsWritten (when due i)
all_when true i w = (w, tt)
all_when false i w = tt

all_four : (a b c d : Bool) (i j k l : Ins) → IsWritten i → IsWritten j → IsWritten k → IsWritten l
    → AllByRecursion IsWritten (when a i ++ when b j ++ when c k ++ when d l)
all_four a b c d i j k l p q r s =
    grind (arith, all_append, all_when)

all_marks : (version : ℕ) (built : LineRow) → FitsInstructions version built → AllByRecursion IsWritten (marks built)
all_marks version built fits =
    grind (arith, all_four)

all_changes : (version : ℕ) (previous built : LineRow) → FitsInstructions version built
    → AllByRecursion IsWritten (changes version previous built)
all_changes version previous built fits =
    grind (arith, all_four)

maker_written : (e : LineEncoding) (s : ℕ) → 13 ≤ s → s ≤ 255 → IsWritten (row_maker e s)
maker_written e s low high = grind arith
  where
    by : (b : Bool) → IsWritten (if b then Copy else Special s)
    by true = tt
    by false = (low, high)

all_line : (e : LineEncoding) (d : ℤ) → FitsSigned w64 d → AllByRecursion IsWritten (line_part e d)
all_line e d fits = grind arith
  where
    by : (b : Bool) → AllByRecursion IsWritten (if b then [] else AdvanceLine d ∷ [])
    by true = tt
    by false = (fits, tt)

-- the special opcode that is due for the line is one, and a byte
line_opcode_is : (e : LineEncoding) (d : ℤ) → CanEncode e → (13 ≤ line_opcode e d) × (line_opcode e d ≤ 255)
line_opcode_is e d can = grind arith
  where
    by : (b : Bool) → is_special_advance e d ≡ b
        → (13 ≤ (if b then 13 + unsigned_abs (d -ℤ e.line_base) else still_opcode e))
        × ((if b then 13 + unsigned_abs (d -ℤ e.line_base) else still_opcode e) ≤ 255)
    by true t =
        grind (arith, and_parts, ints)
    by false t =
        grind (arith, ints)

all_operations : (e : LineEncoding) (s n : ℕ) → 13 ≤ s → s ≤ 255 → n < 2 ^ 64
    → AllByRecursion IsWritten (operation_part e s n)
all_operations e s n low high fits =
    grind arith
  where
    by : (b : Bool) → nat_le (s + n * e.line_range) 255 ≡ b → (c : Bool)
        → nat_le (s + (n - constant_advance e) * e.line_range) 255 ≡ c
        → AllByRecursion IsWritten (if b then row_maker e (s + n * e.line_range) ∷ []
        else (if c then ConstAddPc ∷ row_maker e (s + (n - constant_advance e) * e.line_range) ∷ []
        else AdvancePc n ∷ row_maker e s ∷ []))
    by true t c u =
        grind (arith, nat_tests, maker_written)
    by false t true u =
        grind (arith, nat_tests, maker_written)
    by false t false u = grind (arith, maker_written)

-- the operations to a position that can follow are fewer than 2 ^ 64
operations_fit : (e : LineEncoding) (p j o i : ℕ) → CanFollow e p j o i → operations e p j o i < 2 ^ 64
operations_fit e p j o i follows = omega (arith, follows.fits)

pub all_row : (version : ℕ) (e : LineEncoding) (previous built : LineRow) → CanEncode e
    → CanFollow e previous.address_offset previous.op_index built.address_offset built.op_index → previous.line < 2 ^ 63
    → FitsInstructions version built
    → AllByRecursion IsWritten (row_instructions version e previous built)
all_row version e previous built can follows from fits =
    let d = pos built.line -ℤ pos previous.line in
    let n = operations e previous.address_offset previous.op_index built.address_offset built.op_index in
    let small : FitsSigned w64 d = search (rules, ints) in
    let s = line_opcode_is e d can in
    let a12 = all_append _ _ (all_marks _ _ fits) (all_changes _ previous _ fits) in
    let a123 = all_append _ _ a12 (all_line e d small) in
    all_append _ _ a123
    (all_operations e _ n s.0 s.1 (operations_fit e _ _ _ _ follows))

pub all_end : (e : LineEncoding) (previous : LineRow) (o i : ℕ)
    → CanFollow e previous.address_offset previous.op_index o i
    → AllByRecursion IsWritten (end_instructions e previous o i)
all_end e previous o i follows =
    grind (arith, all_append, all_when, operations_fit)
