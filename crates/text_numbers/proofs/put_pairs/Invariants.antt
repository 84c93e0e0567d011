-- `text_numbers::put_pairs` meets its contract.
use Rattle.std.proofs.Common.{◌≡◌, take}
use Rattle.text_numbers.specs.Pairs.{pairs_of}
use Rattle.text_numbers.proofs.put_pairs.Given as goal

abbrev pub invariant-loop-i : goal.invariant-loop-i
invariant-loop-i l = take l.i l.byte-items ≡ take l.i (pairs_of l.token)
