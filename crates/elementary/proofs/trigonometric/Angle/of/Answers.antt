-- `elementary::trigonometric::Angle::of` meets its contract.
use Rattle.std.proofs.Common.{w64}
use borrow.Author.Rules.{sfits_of}
use mir.ValLaws.{to_z-of_z}
use Rattle.elementary.specs.Trigonometric.{turns, rest_of, reduced_of}
use Rattle.elementary.proofs.Bounds.{turnable-is, turnable-within, turns-within}
use Rattle.elementary.proofs.trigonometric.Angle.of.Goals as goal

pub nearest-q-requires : goal.nearest-q-requires
nearest-q-requires c = turns-within c.args.x (turnable-within _ (turnable-is _ c.abs.ensures c.if-abs.true))

pub returns-then-abs : goal.returns-then-abs
unfolding reduced_of rest_of turns
returns-then-abs c = rw (
  turnable-is _ c.abs.ensures c.if-abs.true,
  c.modulo_four.ensures,
  c.nearest_i64_to_f64-n.ensures,
  to_z-of_z w64 c.nearest-q.result (sfits_of c.nearest-q.type_inv),
  c.nearest-q.ensures,
)

pub returns-else-abs : goal.returns-else-abs
returns-else-abs c = rw (turnable-is _ c.abs.ensures c.if-abs.false)
