-- What one instruction of a source does to the tables that the source leaves.
use Rattle.std.specs.Prelude.{◌≡◌, ◌≢◌, ◌&&◌, ◌||◌, if◌then◌else◌, ◌∷◌, ◌++◌}
use Rattle.gimli_write.proofs.Common
use Common.{ℕ, Bool, true, false, not, List, [], refl, sym, ap, ◌∙◌, Some, Result, Ok, Err, OnOk, IfOk, IfErr}
use Common.{Error, AddressOverflow, File, DefineFile, Ins, makes_row, defines_file, SpellsInstruction}
use Common.{instruction_production, decoded_at, is_refused, Unread, Sections, ConvertError, Read, SourceStep, More}
use Common.{Made, TablesAndTexts, file_added, tables_after_definition, SourceRun, row_made, state_after, step_made}
use Rattle.gimli_write.specs
use specs.convert.TablesAtEnd.{
  lacks_file,
  refuses,
  unless_refused,
  tables_after,
  tables_at_end,
  tables_after_row,
}
use specs.inside.convert.SourceRun.{step_tables}
use Rattle.gimli_write.proofs.SourceSteps.{decoded_none, decoded_some, decoded_fault, no_file, with_unread}
use Rattle.gimli_core.specs.Layout.{Seen}

-- bytes that are unread count by their instructions alone
same_lists : (sections : Sections) (u v : Unread) (s : SourceRun) (tables : TablesAndTexts) (list : List Ins)
    → tables_after sections (record s { unread = u }) tables list
    ≡ tables_after sections (record s { unread = v }) tables list
same_lists sections u v s tables [] = refl
same_lists sections u v s tables (i ∷ list) =
    ap (λ rest. if refuses s tables i then tables else rest)
    (by (λ next. same_lists sections u v (state_after i s) next list) (tables_after_definition sections tables i))
  where
    by : ((next : TablesAndTexts)
        → tables_after sections (record (state_after i s) { unread = u }) next list
        ≡ tables_after sections (record (state_after i s) { unread = v }) next list)
        → (there : Result TablesAndTexts ConvertError) → unless_refused tables there (λ next.
        tables_after sections (record (state_after i s) { unread = u }) next list)
        ≡ unless_refused tables there (λ next.
        tables_after sections (record (state_after i s) { unread = v }) next list)
    by same (Ok next) = same next
    by same (Err e) = refl

module _ (sections : Sections) (tables : TablesAndTexts) (s : SourceRun) where
  pub none_last : s.unread.bytes ≡ [] → tables_at_end sections s tables ≡ tables
  none_last e = ap (λ c. tables_after sections s tables c.0) (decoded_none s.unread.layout s.header s.unread.bytes e)

  pub fault_last : (e : Error) → s.unread.bytes ≢ []
      → (instruction_production s.unread.layout s.header).Fault s.unread.bytes e
      → tables_at_end sections s tables ≡ tables
  fault_last e some f =
      ap (λ c. tables_after sections s tables c.0) (decoded_fault s.unread.layout s.header s.unread.bytes e some f)

  module _ (u : Unread) (layout : u.layout ≡ s.unread.layout) (i : Ins) (front : List ℕ)
      (parts : s.unread.bytes ≡ front ++ u.bytes)
      (spelled : SpellsInstruction s.unread.layout s.header front i) where
    abbrev next : SourceRun
    next = record (state_after i s) { unread = u }

    -- an instruction stands first
    first_last : tables_at_end sections s tables ≡ (if refuses s tables i then tables
        else unless_refused tables (tables_after_definition sections tables i) (λ more.
        tables_at_end sections next more))
    first_last =
        ap (λ d. tables_after sections s tables d.0)
        (decoded_some s.unread.layout s.header s.unread.bytes i _ _ parts spelled)
        ∙ ap (λ rest. if refuses s tables i then tables else rest) (by _)
      where
        by : (there : Result TablesAndTexts ConvertError) → unless_refused tables there (λ more.
            tables_after sections (state_after i s) more (decoded_at s.unread.layout s.header u.bytes).0)
            ≡ unless_refused tables there (λ more. tables_at_end sections next more)
        by (Ok more) =
            same_lists _ _ u (state_after i s) _ (decoded_at s.unread.layout s.header u.bytes).0
            ∙ ap (λ n. tables_after sections next more (decoded_at n s.header u.bytes).0) cc
        by (Err e) = refl

    pub refusal_last : is_refused s.header.parameters i s.row ≡ true → tables_at_end sections s tables ≡ tables
    refusal_last large =
        first_last ∙ ap (λ b. if b
        || (makes_row i && not s.row.tombstone && lacks_file s.header.parameters.encoding.version tables (row_made s i))
        then tables
        else unless_refused tables (tables_after_definition sections tables i) (λ more.
        tables_at_end sections next more)) large

    module _ (fits : is_refused s.header.parameters i s.row ≡ false) (file : defines_file i ≡ false) where
      -- it is done, and its row is handed out if it gives one
      done_last : {shown : Bool} → (makes_row i && not s.row.tombstone) ≡ shown → tables_at_end sections s tables
          ≡ (if shown
          then tables_after_row s.header.parameters.encoding.version tables (Some (row_made s i))
          (tables_at_end sections next tables)
          else tables_at_end sections next tables)
      done_last is =
          first_last ∙ ap (λ there. if refuses s tables i then tables
          else unless_refused tables there (λ more. tables_at_end sections next more)) (no_file _ i file) ∙ ap
          (λ b. if b || (makes_row i && not s.row.tombstone
          && lacks_file s.header.parameters.encoding.version tables (row_made s i))
          then tables
          else tables_at_end sections next tables) fits ∙ by (makes_row i) (not s.row.tombstone) is
        where
          by : (makes not_under_tombstone : Bool) {given : Bool} → (makes && not_under_tombstone) ≡ given
              → (if makes && not_under_tombstone
              && lacks_file s.header.parameters.encoding.version tables (row_made s i)
              then tables
              else tables_at_end sections next tables) ≡ (if given
              then tables_after_row s.header.parameters.encoding.version tables (Some (row_made s i))
              (tables_at_end sections next tables)
              else tables_at_end sections next tables)
          by true true e = rw (← e) refl
          by true false e = rw (← e) refl
          by false not_under_tombstone e = rw (← e) refl

      pub quiet_last : (makes_row i && not s.row.tombstone) ≡ false
          → tables_at_end sections s tables ≡ tables_at_end sections next tables
      quiet_last quiet = done_last quiet

      pub row_last : (makes_row i && not s.row.tombstone) ≡ true → tables_at_end sections s tables
          ≡ tables_after_row s.header.parameters.encoding.version tables (Some (row_made s i))
          (tables_at_end sections next tables)
      row_last loud = done_last loud

  -- a file is defined
  pub file_last : (u : Unread) → u.layout ≡ s.unread.layout → (f : File) (front : List ℕ)
      → s.unread.bytes ≡ front ++ u.bytes → SpellsInstruction s.unread.layout s.header front (DefineFile f)
      → tables_at_end sections s tables ≡ unless_refused tables (file_added sections tables f) (λ more.
      tables_at_end sections (record s { unread = u }) more)
  file_last u layout f front parts spelled = first_last u layout (DefineFile f) front parts spelled

-- ---- what is done of an instruction that sets no address and defines no file

module _ {R Offset : Type 0} (Endian : Type 0) (seen : R → Seen) (number : Offset → ℕ) (s : SourceRun) (u : Unread)
    (layout : u.layout ≡ s.unread.layout)
    (i : Ins) (front : List ℕ) (parts : s.unread.bytes ≡ front ++ u.bytes)
    (spelled : SpellsInstruction s.unread.layout s.header front i) where
  made_last : is_refused s.header.parameters i s.row ≡ false → defines_file i ≡ false
      → (sections : Sections) (tables : TablesAndTexts) → tables_at_end sections s tables
      ≡ step_tables {Endian = Endian} seen number sections tables (step_made (with_unread s u) i)
      (state_after i (with_unread s u))
  made_last fits file sections tables = by (makes_row i && not s.row.tombstone) refl
    where
      by : (b : Bool) → (makes_row i && not s.row.tombstone) ≡ b → tables_at_end sections s tables
          ≡ step_tables {Endian = Endian} seen number sections tables (step_made (with_unread s u) i)
          (state_after i (with_unread s u))
      by true e =
          row_last sections tables s u layout i front parts spelled fits file e ∙ ap
          (λ c. step_tables {Endian = Endian} seen number sections tables
          (if c then Made (row_made (with_unread s u) i) else More) (state_after i (with_unread s u))) (sym e)
      by false e =
          quiet_last sections tables s u layout i front parts spelled fits file e ∙ ap
          (λ c. step_tables {Endian = Endian} seen number sections tables
          (if c then Made (row_made (with_unread s u) i) else More) (state_after i (with_unread s u))) (sym e)

  pub executed_last : (t : SourceRun) (r : Result (SourceStep R Endian Offset) ConvertError) → defines_file i ≡ false
      → OnOk r (is_refused s.header.parameters i s.row ≡ false)
      → OnOk r (t ≡ state_after i (with_unread s u)) → IfOk r (λ step. step ≡ step_made (with_unread s u) i)
      → IfOk r (λ step. (sections : Sections) (tables : TablesAndTexts)
      → tables_at_end sections s tables ≡ step_tables seen number sections tables step t)
  executed_last t (Ok step) file fits next made = λ sections tables. rw (made, next) (made_last fits file _ _)
  executed_last t (Err e) file fits next made = tt

  pub executed_stop : (r : Result (SourceStep R Endian Offset) ConvertError)
      → IfErr r (λ e. (e ≡ Read AddressOverflow) × (is_refused s.header.parameters i s.row ≡ true))
      → IfErr r (λ e. (sections : Sections) (tables : TablesAndTexts) → tables_at_end sections s tables ≡ tables)
  executed_stop (Ok step) over = tt
  executed_stop (Err e) over = λ sections tables. refusal_last sections tables s u layout i front parts spelled over.1
