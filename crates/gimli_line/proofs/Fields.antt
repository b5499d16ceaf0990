-- The fields of a header one after the other, up to one that is refused.
use Rattle.std.specs.Prelude.{◌≡◌, ◌-◌}
use Rattle.gimli_line.proofs.Common
use Common.{ℕ, Bool, List, Option, Ok, Err, refl, sym, ap, ◌∙◌, option_map, OrderAndLimit, layout_of, Value, Read}
use Common.{Error}
use Common.{split_at, Parameters, File, UnitEntry, FileEntryFormat, parameters_production, directory_table, file_table}
use Common.{fields_production}
use Rattle.gimli_line.specs
use specs.header.Header.{plain_file}
use specs.header.HeaderGrammar.{HeaderOpening, handed_value}

-- a step that refused
refused : {A : Type 0} (r : Read A) (e : Error) → r.0 ≡ Err e → r ≡ (Err e, r.1)
refused (Ok x, rest) e is = absurd cc
refused {A} (Err d, rest) e is = let same : d ≡ e = cc in ap (λ (b : Error). let r : Read A = (Err b, rest) in r) same

module _ (is_big : Bool) (limit : ℕ) (entry : UnitEntry) (unit : ℕ) (opening : HeaderOpening)
    (program bytes : List ℕ) where
  abbrev layout : OrderAndLimit
  layout = layout_of is_big limit

  -- the tables, in an order of bytes
  abbrev directories_by : Bool → List ℕ → Read (List FileEntryFormat × List Value)
  directories_by big = (directory_table (layout_of big limit) opening.encoding).read

  abbrev files_by : Bool → List ℕ → Read (List FileEntryFormat × List File)
  files_by big = (file_table (layout_of big limit) opening.encoding).read

  pub parameters_end : (e : Error) (rest : List ℕ) → (Err e, rest) ≡ (parameters_production opening.encoding).read bytes
      → ((fields_production layout entry unit opening program).read bytes).0 ≡ Err e
  unfolding fields_production
  parameters_end e rest is = rw (← is) refl

  module _ (parameters : Parameters) (mid : List ℕ) (count : ℕ)
      (first : (Ok parameters, mid) ≡ (parameters_production opening.encoding).read bytes)
      (counted : count ≡ parameters.opcode_base - 1) where
    pub counts_end : (e : Error) (rest : List ℕ) → (Err e, rest) ≡ split_at count mid
        → ((fields_production layout entry unit opening program).read bytes).0 ≡ Err e
    unfolding fields_production
    counts_end e rest is =
        let again : (Err e, rest) ≡ split_at (parameters.opcode_base - 1) mid = rw counted at is in
        rw (← first, ← again) refl

    module _ (counts left : List ℕ) (now : Bool) (second : (Ok counts, left) ≡ split_at count mid)
        (kept : now ≡ is_big) where
      pub directories_end : (e : Error)
          → (directories_by now left).0 ≡ Err e
          → ((fields_production layout entry unit opening program).read bytes).0 ≡ Err e
      unfolding fields_production
      directories_end e is =
          let again : (Ok counts, left) ≡ split_at (parameters.opcode_base - 1) mid = rw counted at second in
          let here : (directories_by is_big left).0 ≡ Err e = ap (λ b. (directories_by b left).0) (sym kept) ∙ is in
          rw (← first, ← again, refused (directories_by is_big left) e here) refl

      module _ (directory_formats : List FileEntryFormat) (directories : List Value) (next : List ℕ) (later : Bool)
          (third : directories_by now left ≡ (Ok (directory_formats, directories), next))
          (also : later ≡ is_big) where
        pub files_end : (e : Error)
            → (files_by later next).0 ≡ Err e
            → ((fields_production layout entry unit opening program).read bytes).0 ≡ Err e
        unfolding fields_production
        files_end e is =
            let again : (Ok counts, left) ≡ split_at (parameters.opcode_base - 1) mid = rw counted at second in
            let here = ap (λ b. directories_by b left) (sym kept) ∙ third in
            let there : (files_by is_big next).0 ≡ Err e = ap (λ b. (files_by b next).0) (sym also) ∙ is in
            rw (← first, ← again, here, refused (files_by is_big next) e there) refl

        pub fields_done : (file_formats : List FileEntryFormat) (files : List File) (end : List ℕ)
            (comp_dir : Option (List ℕ)) (comp_file : Option File)
            → files_by later next ≡ (Ok (file_formats, files), end)
            → comp_dir ≡ handed_value opening.encoding entry.directory
            → comp_file ≡ handed_value opening.encoding (option_map (λ path. plain_file path 0 0 0) entry.name)
            → ((fields_production layout entry unit opening program).read bytes).0 ≡ Ok (record {
              parameters = parameters;
              unit_length = unit;
              header_length = opening.header_length;
              operand_counts = counts;
              directory_formats = directory_formats;
              directories = directories;
              file_formats = file_formats;
              files = files;
              program = program;
              comp_dir = comp_dir;
              comp_file = comp_file;
            })
        unfolding fields_production
        fields_done file_formats files end comp_dir comp_file fourth directory file =
            let again : (Ok counts, left) ≡ split_at (parameters.opcode_base - 1) mid = rw counted at second in
            let here = ap (λ b. directories_by b left) (sym kept) ∙ third in
            let there = ap (λ b. files_by b next) (sym also) ∙ fourth in
            rw (← first, ← again, here, there, directory, file) refl
