use Rattle.std.proofs.Common.{◌≡◌, ◌-◌, ◌≤◌, ap, arith, inl, inr}
use Rattle.std.proofs.lemmas.Bool.{cases_lt}
use Rattle.gimli_index.specs.Meaning.{start_number}
use Rattle.gimli_index.specs.Views.{index_of}
use Rattle.gimli_index.proofs.line_index.LineIndex.starts_ascend.Goals as goal

pub loop-index-preserved : goal.loop-index-preserved
loop-index-preserved c =
    let numbers = start_number (index_of c.args.self.now) in
    let index = c.loop-index.index in
    let risen : numbers (index - 1)
    ≤ numbers index = omega (arith, c.start_number.ensures.number, c.start_number-in-loop-index.ensures.number) in
    λ i j lt within. elim (cases_lt j index) [
      | inl before ↦ c.loop-index.invariant i j lt before
      | inr here ↦
          let same : j ≡ index = omega arith in
          elim (cases_lt i (index - 1)) [
            | inl lower ↦
                omega (arith, c.loop-index.invariant i (index - 1) lower (omega arith), risen, ap numbers same)
            | inr beside ↦
                let also : i ≡ index - 1 = omega arith in omega (arith, risen, ap numbers same, ap numbers also)
          ]
    ]
