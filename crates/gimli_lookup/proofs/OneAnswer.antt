-- A program has one list of the rows of its sequences, and one answer at an address.
use Rattle.std.proofs.Common.{◌≡◌, ℕ, true, List, [], ◌∷◌, ◌++◌, map, refl, sym, ap, ◌∙◌, append_assoc}
use Rattle.std.specs.Prelude.{Option}
use Rattle.std.proofs.lemmas.Bool.{false≢true}
use Rattle.std.specs.List.{AllByRecursion, flat_map}
use Rattle.gimli_core.specs.declared.error.Error.{Error}
use Rattle.gimli_core.specs.Layout.{OrderAndLimit}
use Rattle.gimli_line.specs.declared.run.row.LineRow.{LineRow}
use Rattle.gimli_line.specs.header.Header.{Header}
use Rattle.gimli_line.specs.run.Events.{Event, row, Events, program_events}
use Rattle.gimli_line.specs.run.Instruction.{Ins}
use Rattle.gimli_line.specs.run.InstructionGrammar.{AreDecodedOnce}
use Rattle.gimli_lookup.specs.Cut.{HaveNoEnd, EndOnce}
use Rattle.gimli_lookup.specs.FirstPair.{first_pair_of}
use Rattle.gimli_lookup.specs.Run.{AreRowsOfSequences, IsFoundInRun}

-- ---- one list of rows

abbrev pub AreAlwaysDecodedOnce : Type 0
AreAlwaysDecodedOnce = (layout : OrderAndLimit) (h : Header) (bytes : List ℕ) → AreDecodedOnce layout h bytes

pub same_rows : (a b : List LineRow) → map row a ≡ map row b → a ≡ b
same_rows [] [] is = refl
same_rows [] (y ∷ b) is = absurd cc
same_rows (x ∷ a) [] is = absurd cc
same_rows (x ∷ a) (y ∷ b) is =
    let rest : map row a ≡ map row b = cc in
    let both : a ≡ b = same_rows a b rest in
    cc

same_events : AreAlwaysDecodedOnce → (layout : OrderAndLimit) (h : Header) (a b : List Event)
    → Events layout h h.program a → Events layout h h.program b
    → a ≡ b
same_events once layout h a b x y =
    let same = once layout h h.program x.list y.list x.end y.end x.decoding y.decoding in
    x.given
    ∙ ap (λ (list : List Ins). program_events h.parameters list x.end) same.0
    ∙ ap (λ (end : Option Error). program_events h.parameters y.list end) same.1
    ∙ sym y.given

-- ---- one cut

-- rows before an end, and the end, are those that a list of rows begins with
same_parts : (front other : List LineRow) (last end : LineRow) (rest more : List LineRow) → HaveNoEnd front
    → HaveNoEnd other → last.end_sequence ≡ true
    → end.end_sequence ≡ true
    → front ++ last ∷ rest ≡ other ++ end ∷ more → (front ++ last ∷ [] ≡ other ++ end ∷ []) × (rest ≡ more)
same_parts [] [] last end rest more none no_other ends other_ends is =
    (let k : last ≡ end = cc in ap (λ (r : LineRow). r ∷ []) k, cc)
same_parts [] (y ∷ other) last end rest more none no_other ends other_ends is =
    let k : last ≡ y = cc in
    absurd (false≢true (sym no_other.0 ∙ ap (λ (r : LineRow). r.end_sequence) (sym k) ∙ ends))
same_parts (x ∷ front) [] last end rest more none no_other ends other_ends is =
    let k : x ≡ end = cc in
    absurd (false≢true (sym none.0 ∙ ap (λ (r : LineRow). r.end_sequence) k ∙ other_ends))
same_parts (x ∷ front) (y ∷ other) last end rest more none no_other ends other_ends is =
    let k : x ≡ y = cc in
    let t : front ++ last ∷ rest ≡ other ++ end ∷ more = cc in
    let both = same_parts front other last end rest more none.1 no_other.1 ends other_ends t in
    (let s : front ++ last ∷ [] ≡ other ++ end ∷ [] = both.0 in cc, both.1)

-- rows without an end don't begin with a sequence
not_ended : (rows front : List LineRow) (last : LineRow) (rest : List LineRow) → HaveNoEnd rows
    → last.end_sequence ≡ true → rows ≡ front ++ last ∷ rest → ⊥
not_ended [] [] last rest none ends is = absurd cc
not_ended [] (y ∷ front) last rest none ends is = absurd cc
not_ended (x ∷ rows) [] last rest none ends is =
    let k : x ≡ last = cc in
    absurd (false≢true (sym none.0 ∙ ap (λ (r : LineRow). r.end_sequence) k ∙ ends))
not_ended (x ∷ rows) (y ∷ front) last rest none ends is =
    let t : rows ≡ front ++ last ∷ rest = cc in
    not_ended rows front last rest none.1 ends t

-- the first sequence, and what follows it
opened : (s : List LineRow) (sequences : List (List LineRow)) (unended : List LineRow) (once : EndOnce s)
    → flat_map (λ sequence. sequence) (s ∷ sequences) ++ unended
    ≡ once.front ++ once.last ∷ (flat_map (λ sequence. sequence) sequences ++ unended)
opened s sequences unended once =
    append_assoc s (flat_map (λ sequence. sequence) sequences) unended
    ∙ ap (λ (rs : List LineRow). rs ++ (flat_map (λ sequence. sequence) sequences ++ unended)) once.parts
    ∙ append_assoc once.front (once.last ∷ []) (flat_map (λ sequence. sequence) sequences ++ unended)

pub same_cut : (s t : List (List LineRow)) (u v : List LineRow) → AllByRecursion EndOnce s → AllByRecursion EndOnce t
    → HaveNoEnd u → HaveNoEnd v
    → flat_map (λ sequence. sequence) s ++ u ≡ flat_map (λ sequence. sequence) t ++ v → s ≡ t
same_cut [] [] u v each other none no_other is = refl
same_cut [] (y ∷ t) u v each other none no_other is =
    absurd (not_ended u other.0.front other.0.last (flat_map (λ sequence. sequence) t ++ v) none other.0.ended
    (is ∙ opened y t v other.0))
same_cut (x ∷ s) [] u v each other none no_other is =
    absurd (not_ended v each.0.front each.0.last (flat_map (λ sequence. sequence) s ++ u) no_other each.0.ended
    (sym is ∙ opened x s u each.0))
same_cut (x ∷ s) (y ∷ t) u v each other none no_other is =
    let p =
    same_parts each.0.front other.0.front each.0.last other.0.last (flat_map (λ sequence. sequence) s ++ u)
    (flat_map (λ sequence. sequence) t ++ v)
    each.0.unended other.0.unended each.0.ended other.0.ended (sym (opened x s u each.0) ∙ is ∙ opened y t v other.0) in
    let here : x ≡ y = each.0.parts ∙ p.0 ∙ sym other.0.parts in
    let later : s ≡ t = same_cut s t u v each.1 other.1 none no_other p.1 in
    cc

pub same_sequences : AreAlwaysDecodedOnce → (layout : OrderAndLimit) (h : Header) (s t : List (List LineRow))
    → AreRowsOfSequences layout h s
    → AreRowsOfSequences layout h t → s ≡ t
same_sequences once layout h s t x y =
    let rows : x.rows
    ≡ y.rows = same_rows x.rows y.rows
    (same_events once layout h (map row x.rows) (map row y.rows) x.given y.given) in
    same_cut s t x.cut.unended y.cut.unended x.cut.each y.cut.each x.cut.no_end y.cut.no_end
    (sym x.cut.joined ∙ rows ∙ y.cut.joined)

-- ---- one answer

pub same_answer : AreAlwaysDecodedOnce
    → (layout : OrderAndLimit) (h : Header) (a : ℕ) (rows : List (List LineRow)) (found : Option (LineRow × LineRow))
    → AreRowsOfSequences layout h rows → IsFoundInRun layout h a found → found ≡ first_pair_of a rows
same_answer once layout h a rows found are in_run =
    in_run.found_is ∙ ap (first_pair_of a) (same_sequences once layout h in_run.sequences rows in_run.are are)
