-- `fir_block::pass_all` meets its contract.
use Rattle.std.proofs.Common.{◌≡◌, ◌+◌, length, take, ap, ◌∙◌, length-take, arith}
use Rattle.std.specs.Float.{binary64}
use Rattle.fir_theory.proofs.Line.{both-stretches}
use Rattle.fir_theory.proofs.Long.{first-stretch, second-stretch}
use Rattle.fir_block.proofs.pass_all.Goals as goal

pub returns-clause-sums : goal.returns-clause-sums
returns-clause-sums c =
    let r = c.requires in
    let input = c.args.input.now in
    let few = c.min-few.result in
    let front = length-take few input in
    let n : length c.args.taps.now + few ≡ length c.args.samples.now + length (take few input) = omega (arith, front, r.samples) in
    let line = ap (λ k. take k c.line_of-line.result) n ∙ c.line_of-line.ensures.filled in
    both-stretches binary64 c.args.taps.now _ r.some (omega arith) c.args.samples.now input few
    (c.convolve.ensures.output ∙ first-stretch binary64 _ _ r.some r.samples _ _ _ line (omega (arith, front)))
    (c.convolve-2.ensures.output ∙ second-stretch binary64 _ _ r.some r.samples _ _ few (omega arith) (omega arith))
