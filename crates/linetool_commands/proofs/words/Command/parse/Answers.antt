use Rattle.std.proofs.Common.{◌≡◌, ◌<◌, ◌≤◌, ℕ, map, length, get_or, List, [], ◌∷◌, Bor, refl, arith}
use Rattle.linetool_commands.proofs.words.Command.parse.Goals as goal

-- the texts of five words
five : (words : List (Bor (List ℕ))) (d : Bor (List ℕ)) → 5 ≤ length words → length words < 6
    → map (λ word. word.now) words
    ≡ (get_or words 0 d).now ∷ (get_or words 1 d).now ∷ (get_or words 2 d).now ∷ (get_or words 3 d).now
    ∷ (get_or words 4 d).now ∷ []
five [] d l m = grind arith
five (a ∷ []) d l m = grind arith
five (a ∷ b ∷ []) d l m = grind arith
five (a ∷ b ∷ c ∷ []) d l m = grind arith
five (a ∷ b ∷ c ∷ e ∷ []) d l m = grind arith
five (a ∷ b ∷ c ∷ e ∷ f ∷ []) d l m = refl
five (a ∷ b ∷ c ∷ e ∷ f ∷ g ∷ rest) d l m = grind arith

-- the texts of six words
six : (words : List (Bor (List ℕ))) (d : Bor (List ℕ)) → 6 ≤ length words → length words < 7
    → map (λ word. word.now) words
    ≡ (get_or words 0 d).now ∷ (get_or words 1 d).now ∷ (get_or words 2 d).now ∷ (get_or words 3 d).now
    ∷ (get_or words 4 d).now ∷ (get_or words 5 d).now ∷ []
six [] d l m = grind arith
six (a ∷ []) d l m = grind arith
six (a ∷ b ∷ []) d l m = grind arith
six (a ∷ b ∷ c ∷ []) d l m = grind arith
six (a ∷ b ∷ c ∷ e ∷ []) d l m = grind arith
six (a ∷ b ∷ c ∷ e ∷ f ∷ []) d l m = grind arith
six (a ∷ b ∷ c ∷ e ∷ f ∷ g ∷ []) d l m = refl
six (a ∷ b ∷ c ∷ e ∷ f ∷ g ∷ h ∷ rest) d l m = grind arith

-- the texts of four words
four : (words : List (Bor (List ℕ))) (d : Bor (List ℕ)) → 4 ≤ length words → length words < 5
    → map (λ word. word.now) words
    ≡ (get_or words 0 d).now ∷ (get_or words 1 d).now ∷ (get_or words 2 d).now ∷ (get_or words 3 d).now ∷ []
four [] d l m = grind arith
four (a ∷ []) d l m = grind arith
four (a ∷ b ∷ []) d l m = grind arith
four (a ∷ b ∷ c ∷ []) d l m = grind arith
four (a ∷ b ∷ c ∷ e ∷ []) d l m = refl
four (a ∷ b ∷ c ∷ e ∷ f ∷ rest) d l m = grind arith

pub returns-in_ok-parse_location-in-rows-clause-command : goal.returns-in_ok-parse_location-in-rows-clause-command
returns-in_ok-parse_location-in-rows-clause-command c =
    let words = c.args.words.now in
    let d : Bor (List ℕ) = record { ref_ptr = (0, 0); now = [] } in
    let is_rows = c.in-rows.is-rows in
    let whole = five words d c.in-rows.len_at_least c.in-rows.len_below in (
      (get_or words 1 d).now,
      (get_or words 2 d).now,
      (get_or words 3 d).now,
      (get_or words 4 d).now,
      cc,
      c.in_ok-parse_location-in-rows.ensures.named,
    )

pub returns-in_ok-parse_location-in-sequences-clause-command
    : goal.returns-in_ok-parse_location-in-sequences-clause-command
returns-in_ok-parse_location-in-sequences-clause-command c =
    let words = c.args.words.now in
    let d : Bor (List ℕ) = record { ref_ptr = (0, 0); now = [] } in
    let is_sequences = c.in-sequences.is-sequences in
    let whole = five words d c.in-sequences.len_at_least c.in-sequences.len_below in (
      (get_or words 1 d).now,
      (get_or words 2 d).now,
      (get_or words 3 d).now,
      (get_or words 4 d).now,
      cc,
      c.in_ok-parse_location-in-sequences.ensures.named,
    )

pub returns-in_ok-parse-in-units-clause-command : goal.returns-in_ok-parse-in-units-clause-command
returns-in_ok-parse-in-units-clause-command c =
    let words = c.args.words.now in
    let d : Bor (List ℕ) = record { ref_ptr = (0, 0); now = [] } in
    let is_units = c.in-units.is-units in
    let whole = four words d c.in-units.len_at_least c.in-units.len_below in
    ((get_or words 1 d).now, (get_or words 2 d).now, (get_or words 3 d).now, cc, c.in_ok-parse-in-units.ensures.named)

pub returns-in_ok-parse-in-find-clause-command : goal.returns-in_ok-parse-in-find-clause-command
returns-in_ok-parse-in-find-clause-command c =
    let words = c.args.words.now in
    let d : Bor (List ℕ) = record { ref_ptr = (0, 0); now = [] } in
    let is_find = c.in-find.is-find in
    let whole = six words d c.in-find.len_at_least c.in-find.len_below in (
      (get_or words 1 d).now,
      (get_or words 2 d).now,
      (get_or words 3 d).now,
      (get_or words 4 d).now,
      (get_or words 5 d).now,
      cc,
      c.in_ok-parse-in-find.ensures.named,
    )
