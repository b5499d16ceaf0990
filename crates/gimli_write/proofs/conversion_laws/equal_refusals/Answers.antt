use Rattle.gimli_write.proofs.Common.{ap, or, end, none, one}
use Rattle.gimli_write.specs.contracts.convert_error.ConvertError.{as_values, enum}
use Rattle.gimli_write.proofs.conversion_laws.equal_refusals.Goals as goal
use denote.Enum.Declared.{values_one}

pub returns : goal.returns
returns c x y =
    let reads = c.equal_errors_are_same.ensures in
    let writes = c.equal_errors_are_same-2.ensures in
    let same =
    or (one reads) (or (one writes) (or none (or none (or none (or none (or none (or none (or none (or none (or none
    (or none (or none (or none (or none (or none
    (or none (or none (or none (or none (or none (or none (or none (or none (end _)))))))))))))))))))))))) in
    let parts = same (as_values x) (as_values y) in
    (λ e. values_one enum x y (parts.0 e), λ e. parts.1 (ap as_values e))
