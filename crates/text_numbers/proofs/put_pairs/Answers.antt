-- `text_numbers::put_pairs` meets its contract.
use Rattle.std.proofs.Common.{arith, ◌≡◌, ◌/◌, add-one, length, length-take}
use Rattle.std.proofs.lemmas.Grind.{common_steps}
use Rattle.std.proofs.Math.Seq.{take-suc, take-suc-set}
use Rattle.lists.specs.Copies.{copied}
use Rattle.lists.proofs.Places.{up_to-length, up_to-at}
use Rattle.text_numbers.specs.Pairs.{pair_of, pairs_of}
use Rattle.text_numbers.proofs.put_pairs.Goals as goal

pub loop-i-preserved : goal.loop-i-preserved
unfolding pair_of
loop-i-preserved c =
    let token = c.args.token.now in
    let i = c.loop-i.i in
    let n = length token / 2 in
    let l = up_to-length (pair_of token) n in
    let m = length-take c.min-n.result c.args.bytes.now in
    let here : c.pair.result ≡ pair_of token i = c.pair.ensures in
    rw (
      add-one,
      take-suc-set c.loop-i.byte-items i c.pair.result (omega arith),
      take-suc (pairs_of token) i 0 (omega (arith, l)),
      ← up_to-at (pair_of token) n i 0 (omega arith),
      here,
      c.loop-i.invariant,
    )

pub returns : goal.returns
unfolding copied
returns c = let l = up_to-length (pair_of c.args.token.now) (length c.args.token.now / 2) in (omega arith, grind (arith, common_steps))
