-- Reads of a conversion, one after the other.
use Rattle.std.specs.Prelude.{◌≡◌}
use Rattle.gimli_write.proofs
use proofs.Common.{refl, Progress, built_so_far, ReadsOn}
use proofs.ConvertSteps.{kept_self, kept_then}
use proofs.Gathers.{added_then}
use proofs.KeptFiles.{files_self, files_then}
use proofs.Writable.{writable_then}

-- nothing was added
pub reads_none : (a b : Progress) → b.conversion.tables ≡ a.conversion.tables → b.line_strings ≡ a.line_strings
    → ReadsOn a b
reads_none a b tables texts = record {
  adds = rw tables refl;
  keeps = rw tables (files_self);
  texts = rw texts (kept_self _);
  writable = rw (tables, texts) (record { still = λ strings can. can });
}

pub reads_then : {a b c : Progress} → ReadsOn a b → ReadsOn b c → ReadsOn a c
reads_then {a = a} {b = b} {c = c} first second = record {
  adds = added_then (built_so_far a) _ _ first.adds second.adds;
  keeps = files_then first.keeps second.keeps;
  texts = kept_then first.texts second.texts;
  writable = writable_then first.writable second.writable;
}

-- what else changes in the conversion says nothing of a read
pub reads_kept : {a : Progress} (b c : Progress) → c.conversion.tables ≡ b.conversion.tables
    → c.line_strings ≡ b.line_strings → ReadsOn a b → ReadsOn a c
reads_kept b c tables texts reads = reads_then reads (reads_none b c tables texts)
