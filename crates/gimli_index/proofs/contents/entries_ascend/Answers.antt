use Rattle.std.proofs.Common.{◌≡◌, ◌-◌, ◌<◌, ◌≤◌, ℕ, None, get_or, ap, arith, inl, inr}
use Rattle.std.proofs.lemmas.Bool.{cases_lt}
use Rattle.std.proofs.lemmas.Option.{get_or_from_slice_get, slice_get_within}
use Rattle.gimli_index.specs.declared.contents.Entry.{Entry}
use Rattle.gimli_index.proofs.contents.entries_ascend.Goals as goal

abbrev nowhere : Entry
nowhere = record { address = 0; place = None }

pub loop-index-preserved : goal.loop-index-preserved
loop-index-preserved c =
    let addresses : ℕ → ℕ = λ i. (get_or c.args.entries.now i nowhere).address in
    let index = c.loop-index.index in
    let risen : addresses (index - 1) ≤ addresses index = c.if-entries-index.false in
    λ i j lt within. elim (cases_lt j index) [
      | inl before ↦ c.loop-index.invariant i j lt before
      | inr here ↦
          let same : j ≡ index = omega arith in
          elim (cases_lt i (index - 1)) [
            | inl lower ↦
                omega (arith, c.loop-index.invariant i (index - 1) lower (omega arith), risen, ap addresses same)
            | inr beside ↦
                let also : i ≡ index - 1 = omega arith in omega (arith, risen, ap addresses same, ap addresses also)
          ]
    ]

pub returns-clause-yes : goal.returns-clause-yes
returns-clause-yes c =
    let entries = c.args.entries.now in
    λ yes i j x y lt first second.
    let end = slice_get_within entries j y second in
    let inside : j < c.loop-index.index = omega (arith, end) in
    let one = ap (λ (e : Entry). e.address) (get_or_from_slice_get entries i x nowhere first) in
    let other = ap (λ (e : Entry). e.address) (get_or_from_slice_get entries j y nowhere second) in
    omega (arith, one, other, c.loop-index.invariant i j lt inside)
