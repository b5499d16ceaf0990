use Rattle.std.proofs.Common.{rules, ap}
use Rattle.std.specs.Cmp.{unsigned_Decides, signed_Decides}
use Rattle.gimli_core.proofs.Variants.{or, end, none, one}
use denote.Enum.Declared.{values_one}
use Rattle.gimli_bytes.specs.contracts.error.Error.{as_values, enum}
use Rattle.gimli_bytes.proofs.laws.equal_errors_are_same.Goals as goal

pub returns : goal.returns
returns c x y =
    let same =
    or none (or none (or none (or none (or (one unsigned_Decides)
    (or (one unsigned_Decides)
    (or none (or none (or none (or (one unsigned_Decides) (or none (or none (or none (or (one unsigned_Decides)
    (or (one signed_Decides)
    (or (one (λ a b. search rules)) (or none (or none (or none (or none (or none (end _))))))))))))))))))))) in
    let apart = same (as_values x) (as_values y) in
    (λ e. values_one enum x y (apart.0 e), λ e. apart.1 (ap as_values e))
