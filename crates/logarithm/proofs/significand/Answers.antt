-- `logarithm::significand` meets its contract.
use Rattle.ieee.proofs.Patterns.{made, made-hi, below_no_nan}
use Rattle.std.proofs.Common.{lit<}
use Rattle.logarithm.proofs.significand.Goals as goal

pub float_from_bits-result : goal.float_from_bits-result
float_from_bits-result c = below_no_nan _ (made-hi 1022 c.args.q c.requires.most (lit< tt))

pub returns : goal.returns
returns c = made 1022 c.args.q c.requires.least c.requires.most (lit< tt)
