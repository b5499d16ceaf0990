-- Reading instructions, and decoding a program into them.
use Rattle.std.specs.Prelude.{◌≡◌, ◌≢◌, ◌-◌, ◌<◌, ◌≤◌, ◌∷◌, ◌++◌}
use Rattle.gimli_line.proofs.Common
use Common.{ℕ, zero, suc, List, [], length, take, Option, Some, None, Ok, Err, refl, sym, ap, subst, ◌∙◌, append_assoc}
use Common.{arith, slice_index, length-append, take_at, OrderAndLimit, Read, Production, ◌>>>◌, done, within, Reads}
use Common.{Error}
use Common.{bind_ok, bind_refused, ok_parts, UnknownExtended, Ins, Header, bytes_of, lookup, nat_eq, decoded_after}
use Common.{decoded_at}
use Rattle.gimli_core.proofs.Readers.{readers}
use Rattle.gimli_line.specs
use specs.run.InstructionGrammar.{Operand, none, uleb, sleb, uhalf, address, file, standard_opcodes, operand_production}
use specs.run.InstructionGrammar.{unknown_production, standard_production, extended_operands, extended_production}
use specs.run.InstructionGrammar.{instruction_production, SpellsInstruction, Decodes, decoded_upto}
use Rattle.gimli_line.proofs.HeaderLaws.{reads_file, given_ok, given_err, answer_of}

-- ---- the bytes of a production

-- what stands in front of the rest
pub front_at : (bytes front rest : List ℕ) → bytes ≡ front ++ rest → take (length bytes - length rest) bytes ≡ front
front_at bytes front rest parts =
    rw parts (take_at _ _ _ (omega (arith, length-append front rest)))

module _ {A : Type 0} (l : Production A) (r : Reads l) where
  bytes_found : (bytes xs rest : List ℕ) → (bytes_of l).read bytes ≡ (Ok xs, rest)
      → (front : List ℕ) × (bytes ≡ front ++ rest) × (bytes_of l).Spells front xs
  bytes_found bytes xs rest e =
      let a = bind_ok _ _ _ _ e in
      let p = ok_parts _ _ _ _ a.3 in
      let f = r.found bytes a.0 a.1 a.2 in
      let whole : bytes ≡ f.0 ++ rest = f.1 ∙ ap (λ ys. f.0 ++ ys) p.1 in
      (f.0, whole, (sym p.0 ∙ front_at _ _ _ f.1, (a.0, f.2)))

  bytes_fault : (bytes : List ℕ) (e : Error) → ((bytes_of l).read bytes).0 ≡ Err e → l.Fault bytes e
  bytes_fault bytes e is = grind (arith)

  pub reads_bytes_of : Reads (bytes_of l)
  reads_bytes_of = record {
    found = bytes_found;
    only = λ front xs rest s. rw (r.only front s.1.0 rest s.1.1, front_at (front ++ rest) front rest refl, s.0) refl;
    fault = bytes_fault;
    refused = λ bytes e f. bind_refused _ _ e (r.refused bytes e f);
  }

-- ---- instructions

module _ (layout : OrderAndLimit) (h : Header) where
  reads_operand : (operand : Operand) → Reads (operand_production layout h operand)
  reads_operand (none i) = search readers
  reads_operand (uleb make) = search readers
  reads_operand (sleb make) = search readers
  reads_operand (uhalf make) = search readers
  reads_operand (address make) = search readers
  reads_operand (file make) = search (readers, reads_file)

  reads_unknown : (opcode count : ℕ) → Reads (unknown_production layout h opcode count)
  unfolding unknown_production
  reads_unknown opcode zero = search readers
  reads_unknown opcode (suc zero) = search readers
  reads_unknown opcode (suc (suc more)) = search (readers, reads_bytes_of)

  pub reads_standard : (opcode : ℕ) → Reads (standard_production layout h opcode)
  unfolding standard_production
  reads_standard opcode = at_operand (lookup (nat_eq opcode) standard_opcodes)
    where
      at_operand : (found : Option Operand) → Reads {A = Ins} (elim found [
        | Some operand ↦ operand_production layout h operand
        | None ↦ unknown_production layout h opcode (slice_index h.operand_counts (opcode - 1))
      ])
      at_operand (Some operand) = reads_operand operand
      at_operand None = reads_unknown opcode (slice_index h.operand_counts (opcode - 1))

  reads_extended_operands : (opcode : ℕ) (operands : List ℕ) → Reads (extended_operands layout h opcode operands)
  unfolding extended_operands
  reads_extended_operands opcode operands = at_operand _
    where
      at_operand : (found : Option Operand) → Reads {A = Ins} (elim found [
        | Some operand ↦ within operands (operand_production layout h operand) >>> (λ read. done read.0)
        | None ↦ done (UnknownExtended (record { 0 = opcode }) operands)
      ])
      at_operand (Some operand) = search (readers, reads_operand)
      at_operand None = search readers

  reads_extended : Reads (extended_production layout h)
  unfolding extended_production
  reads_extended = search (readers, reads_extended_operands)

  pub reads_instruction : Reads (instruction_production layout h)
  reads_instruction = search (readers, reads_extended, reads_standard)

  -- ---- a program

  -- an instruction has bytes
  pub takes_bytes : (front : List ℕ) (i : Ins) → SpellsInstruction layout h front i → 0 < length front
  takes_bytes front i s = grind (arith)

  decoding_is : (more : ℕ) (bytes : List ℕ) → length bytes ≤ more
      → Decodes layout h bytes (decoded_upto layout h more bytes).0 (decoded_upto layout h more bytes).1
  unfolding decoded_upto
  decoding_is zero [] le = record { front = []; rest = []; parts = refl; spelled = refl; ended = refl }
  decoding_is zero (b ∷ bytes) le = absurd (omega arith)
  decoding_is (suc more) [] le = record { front = []; rest = []; parts = refl; spelled = refl; ended = refl }
  decoding_is (suc more) (b ∷ bytes) le = elim (answer_of ((instruction_production layout h).read (b ∷ bytes))) [
    | given_ok i rest is ↦
        let f = reads_instruction.found (b ∷ bytes) i rest is in
        let some = takes_bytes f.0 i f.2 in
        let c = decoding_is more rest (omega (arith, length-append f.0 rest, ap length f.1)) in
        rw is (record {
          front = f.0 ++ c.front;
          rest = c.rest;
          parts = f.1 ∙ ap (λ (xs : List ℕ). f.0 ++ xs) c.parts ∙ sym (append_assoc f.0 c.front c.rest);
          spelled = (f.0, c.front, refl, f.2, c.spelled);
          ended = c.ended;
        })
    | given_err e is ↦ at_fault e ((instruction_production layout h).read (b ∷ bytes)) refl is
  ]
    where
      at_fault : (e : Error) (r : Read Ins) → r ≡ (instruction_production layout h).read (b ∷ bytes) → r.0 ≡ Err e
          → Decodes layout h (b ∷ bytes) (decoded_after layout h (decoded_upto layout h more) r).0
          (decoded_after layout h (decoded_upto layout h more) r).1
      at_fault e (Ok i, rest) same is = absurd cc
      at_fault e (Err d, rest) same is = record {
        front = [];
        rest = b ∷ bytes;
        parts = refl;
        spelled = refl;
        ended = (λ none. absurd cc, reads_instruction.fault (b ∷ bytes) d (rw (← same) refl));
      }

  only_decoding : (list : List Ins) (end : Option Error) (more : ℕ) (bytes : List ℕ) → length bytes ≤ more
      → Decodes layout h bytes list end
      → (list, end) ≡ decoded_upto layout h more bytes
  unfolding decoded_upto
  only_decoding [] None more bytes le c = at_end more bytes (c.parts ∙ rw (c.spelled, c.ended) refl)
    where
      at_end : (more : ℕ) (bytes : List ℕ) → bytes ≡ [] → ([], None) ≡ decoded_upto layout h more bytes
      at_end zero bytes is = refl
      at_end (suc more) [] is = refl
      at_end (suc more) (b ∷ bytes) is = absurd cc
  only_decoding [] (Some e) more bytes le c =
      let whole : bytes ≡ c.rest = c.parts ∙ rw c.spelled refl in
      at_fault more bytes le (λ none. c.ended.0 (sym whole ∙ none))
      (subst (λ (xs : List ℕ). (instruction_production layout h).Fault xs e) (sym whole) c.ended.1)
    where
      after : (b : ℕ) (bytes : List ℕ) (more : ℕ) (r : Read Ins) → r.0 ≡ Err e
          → ([], Some e) ≡ decoded_after layout h (decoded_upto layout h more) r
      after b bytes more (Ok i, rest) is = absurd cc
      after b bytes more (Err d, rest) is = let same : d ≡ e = cc in rw same refl

      at_fault : (more : ℕ) (bytes : List ℕ) → length bytes ≤ more → bytes ≢ []
          → (instruction_production layout h).Fault bytes e
          → ([], Some e) ≡ decoded_upto layout h more bytes
      at_fault zero [] le some f = absurd (some refl)
      at_fault zero (b ∷ bytes) le some f = absurd (omega arith)
      at_fault (suc more) [] le some f = absurd (some refl)
      at_fault (suc more) (b ∷ bytes) le some f =
          after b bytes more ((instruction_production layout h).read (b ∷ bytes))
          (reads_instruction.refused (b ∷ bytes) e f)
  only_decoding (i ∷ list) end more bytes le c =
      let s = c.spelled in
      let some = takes_bytes s.0 i s.3 in
      let whole : bytes ≡ s.0 ++ (s.1 ++ c.rest) = c.parts ∙ ap (λ (xs : List ℕ). xs ++ c.rest) s.2
      ∙ append_assoc s.0 s.1 c.rest in
      let first : (instruction_production layout h).read bytes
      ≡ (Ok i, s.1 ++ c.rest) = ap ((instruction_production layout h).read) whole
      ∙ reads_instruction.only s.0 i (s.1 ++ c.rest) s.3 in
      at_more more bytes le (s.1 ++ c.rest) first (omega (arith, length-append s.0 (s.1 ++ c.rest), ap length whole))
      (λ less fewer. only_decoding list end less (s.1 ++ c.rest) fewer
      (record { front = s.1; rest = c.rest; parts = refl; spelled = s.4; ended = c.ended }))
    where
      at_more : (more : ℕ) (bytes : List ℕ) → length bytes ≤ more → (rest : List ℕ)
          → (instruction_production layout h).read bytes ≡ (Ok i, rest) → length rest < length bytes
          → ((less : ℕ) → length rest ≤ less → (list, end) ≡ decoded_upto layout h less rest)
          → (i ∷ list, end) ≡ decoded_upto layout h more bytes
      at_more zero bytes le rest first fewer others = absurd (omega arith)
      at_more (suc more) [] le rest first fewer others = absurd (omega arith)
      at_more (suc more) (b ∷ bytes) le rest first fewer others = rw (first, ← others more (omega arith)) refl

  -- a program is decoded so
  pub is_decoded : (bytes : List ℕ) → Decodes layout h bytes (decoded_at layout h bytes).0 (decoded_at layout h bytes).1
  is_decoded bytes = decoding_is _ _ (omega arith)

  -- and no other way
  pub one_decoding : (bytes : List ℕ) (list : List Ins) (end : Option Error) → Decodes layout h bytes list end
      → (list, end) ≡ decoded_at layout h bytes
  one_decoding bytes list end c = only_decoding list end (length bytes) bytes (omega arith) c

  -- ---- no more instructions than bytes

  decoded_bounded : (more : ℕ) (bytes : List ℕ) → length (decoded_upto layout h more bytes).0 ≤ more
  unfolding decoded_upto
  decoded_bounded zero bytes = omega arith
  decoded_bounded (suc more) [] = omega arith
  decoded_bounded (suc more) (b ∷ bytes) = after (λ rest. decoded_bounded _ _) _
    where
      after : ((rest : List ℕ) → length (decoded_upto layout h more rest).0 ≤ more) → (r : Read Ins)
          → length (decoded_after layout h (decoded_upto layout h more) r).0 ≤ suc more
      after bound (Ok i, rest) = omega (arith, bound rest)
      after bound (Err e, rest) = omega arith

  pub instructions_bounded : (bytes : List ℕ) (list : List Ins) (end : Option Error) → Decodes layout h bytes list end
      → length list ≤ length bytes
  instructions_bounded bytes list end c =
      let same : length list
      ≡ length (decoded_at layout h bytes).0 = ap (λ p. length p.0)
      (one_decoding _ _ _ c) in
      omega (arith, decoded_bounded (length bytes) bytes)
