-- A walk over units to the first that needs the caller's directory.
use Rattle.std.proofs.Common.{◌≡◌, ℕ, Bool, true, false, List, [], ◌∷◌, refl, sym, subst, ◌∙◌, inl, inr}
use Rattle.std.specs.Prelude.{Result, Ok, Err, IfOk, IfErr}
use Rattle.gimli_core.specs.declared.error.Error.{Error}
use Rattle.gimli_line.specs.header.Header.{SeenHeader, UnitEntry}
use Rattle.gimli_line.specs.Units.{SpellsUnitAt, HasUnitFaultAt}
use Rattle.gimli_line.specs.run.Unread.{Unread}
use Rattle.gimli_line.specs.Units.{UnitWalk}
use Rattle.gimli_lookup.specs.PathFiles.{paths_of}
use Rattle.gimli_lookup.specs.Paths.{needs_directory}
use Rattle.gimli_lookup.specs.Strings.{Strings}
use Rattle.gimli_lookup.specs.Directories.{IsUnitNeed, IsNeedAt, IsNeedOfSome}

-- what a unit needs, as it was read
pub unneeded_at : {R Offset Endian : Type 0} (section : Unread) (entry : UnitEntry) (texts : Strings) (offset : ℕ)
    (program : Result (SeenHeader R Offset Endian) Error) (needs : Bool)
    → IfOk program (SpellsUnitAt section offset entry)
    → IfErr program (HasUnitFaultAt section offset entry)
    → IfOk program (λ p. needs ≡ needs_directory (paths_of texts p.meaning))
    → needs ≡ false → IsNeedAt section entry texts offset false
unneeded_at section entry texts offset (Ok p) needs unit refusal read is =
    inl (record { header = p.meaning; unit = unit; is_need = sym read ∙ is })
unneeded_at section entry texts offset (Err e) needs unit refusal read is = inr (e, refusal, refl)

pub needed_at : {R Offset Endian : Type 0} (section : Unread) (entry : UnitEntry) (texts : Strings) (offset : ℕ)
    (program : Result (SeenHeader R Offset Endian) Error) (needs : Bool)
    → IfOk program (SpellsUnitAt section offset entry)
    → IfOk program (λ p. needs ≡ needs_directory (paths_of texts p.meaning))
    → IfErr program (λ e. needs ≡ false)
    → needs ≡ true → IsUnitNeed section entry texts offset true
needed_at section entry texts offset (Ok p) needs unit read refused is =
    record { header = p.meaning; unit = unit; is_need = sym read ∙ is }
needed_at section entry texts offset (Err e) needs unit read refused is = absurd cc

-- what the units to come need is what all do
pub record IsUnneededYet (texts : Strings) (old new : UnitWalk) : Type 0 where
  pub same_section : new.section ≡ old.section
  pub same_entry : new.entry ≡ old.entry
  pub rest : (needs : Bool) → IsNeedOfSome old.section old.entry texts new.offsets needs
      → IsNeedOfSome old.section old.entry texts old.offsets needs

pub none_yet : (texts : Strings) (walk : UnitWalk) → IsUnneededYet texts walk walk
none_yet texts walk = record { same_section = refl; same_entry = refl; rest = λ needs some. some }

pub one_more : (texts : Strings) (old now new : UnitWalk) (offset : ℕ) → IsUnneededYet texts old now
    → now.offsets ≡ offset ∷ new.offsets → new.section ≡ now.section → new.entry ≡ now.entry
    → IsNeedAt now.section now.entry texts offset false → IsUnneededYet texts old new
one_more texts old now new offset yet next section entry unneeded = record {
  same_section = section ∙ yet.same_section;
  same_entry = entry ∙ yet.same_entry;
  rest = λ needs some.
      yet.rest needs
      (subst (λ (offsets : List ℕ). IsNeedOfSome old.section old.entry texts offsets needs) (sym next)
      (inr (
        subst (λ (s : Unread). IsNeedAt s old.entry texts offset false) yet.same_section
            (subst (λ (e : UnitEntry). IsNeedAt now.section e texts offset false) yet.same_entry unneeded),
        some,
      )));
}

pub found : (texts : Strings) (old now new : UnitWalk) (offset : ℕ) → IsUnneededYet texts old now
    → now.offsets ≡ offset ∷ new.offsets → IsUnitNeed now.section now.entry texts offset true
    → IsNeedOfSome old.section old.entry texts old.offsets true
found texts old now new offset yet next need =
    yet.rest true
    (subst (λ (offsets : List ℕ). IsNeedOfSome old.section old.entry texts offsets true) (sym next)
    (inl (
      subst (λ (s : Unread). IsUnitNeed s old.entry texts offset true) yet.same_section
          (subst (λ (e : UnitEntry). IsUnitNeed now.section e texts offset true) yet.same_entry need),
      refl,
    )))

pub not_found : (texts : Strings) (old now : UnitWalk) → IsUnneededYet texts old now → now.offsets ≡ []
    → IsNeedOfSome old.section old.entry texts old.offsets false
not_found texts old now yet none =
    yet.rest false
    (subst (λ (offsets : List ℕ). IsNeedOfSome old.section old.entry texts offsets false) (sym none) refl)
