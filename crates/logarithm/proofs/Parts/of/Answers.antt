-- `logarithm::Parts::of` meets its contract: a subnormal's digits are lifted, and a normal number's have their leading one added.
use Rattle.std.proofs.Common.{◌≡◌, ◌+◌, ◌-◌, ◌*◌, ◌/◌, ◌%◌, ◌^◌, ◌<◌, sym, refl, mod-lt, arith, pow_pos}
use lib.Ieee.{fits, binary64, to_bits}
use denote.Floats.{passes}
use Rattle.logarithm.proofs.Digits.{low-pos, field_below, parts_low, parts-high, lift-fits, lift-least, lift-most}
use Rattle.logarithm.proofs.Positive.{positive-number}
use Rattle.logarithm.proofs.Words.{less-fits, less-is, less-small, negative-is}
use Rattle.logarithm.proofs.Parts.of.Goals as goal

pub float_to_bits-bits : goal.float_to_bits-bits
float_to_bits-bits c = positive-number c.args.x c.requires

pub ilog2-lift-requires : goal.ilog2-lift-requires
ilog2-lift-requires c = low-pos c.args.x (passes (fits binary64 c.args.x) c.well_formed.0.1) c.requires c.if-field-eq0.true

pub overflow_sub-lift : goal.overflow_sub-lift
overflow_sub-lift c = let l = c.ilog2-lift in
    lift-fits _ l.result l.ensures.power_le l.ensures.next_power_gt (mod-lt (to_bits binary64 c.args.x) (pow_pos 52))

pub significand-requires : goal.significand-requires
significand-requires c =
    let t = to_bits binary64 c.args.x % 2 ^ 52 in
    let l = c.ilog2-lift in
    let low : t < 2 ^ 52 = mod-lt (to_bits binary64 c.args.x) (pow_pos 52) in
    let least = lift-least t l.result l.ensures.power_le l.ensures.next_power_gt low in
    let most = lift-most t l.result l.ensures.power_le l.ensures.next_power_gt low in
    record { least = omega arith; most = omega arith }

pub returns-then-field-eq0-clause-parts : goal.returns-then-field-eq0-clause-parts
returns-then-field-eq0-clause-parts c =
    let x = c.args.x in
    let t = to_bits binary64 x % 2 ^ 52 in
    let l = c.ilog2-lift in
    let low : t < 2 ^ 52 = mod-lt (to_bits binary64 x) (pow_pos 52) in
    let least = lift-least t l.result l.ensures.power_le l.ensures.next_power_gt low in
    let most = lift-most t l.result l.ensures.power_le l.ensures.next_power_gt low in
    let whole : t * 2 ^ (52 - l.result) % 2 ^ 64 ≡ t * 2 ^ (52 - l.result) = omega arith in
    rw (c.significand.ensures, c.from.ensures, whole, negative-is (1022 + (52 - l.result)) (omega arith))
    (sym (parts_low x (t * 2 ^ (52 - l.result)) (52 - l.result) (passes (fits binary64 x) c.well_formed.0.1) c.if-field-eq0.true refl least most))

pub overflow_cast-result : goal.overflow_cast-result
overflow_cast-result c = let h = field_below c.args.x (passes (fits binary64 c.args.x) c.well_formed.0.1) c.requires in
    record { sfits = omega arith }

pub overflow_sub-result-else-field-eq0 : goal.overflow_sub-result-else-field-eq0
overflow_sub-result-else-field-eq0 c =
    let h = field_below c.args.x (passes (fits binary64 c.args.x) c.well_formed.0.1) c.requires in
    less-fits (to_bits binary64 c.args.x / 2 ^ 52) 1023 (omega arith) (omega arith)

pub returns-else-field-eq0 : goal.returns-else-field-eq0
returns-else-field-eq0 c =
    let x = c.args.x in
    let f = passes (fits binary64 x) c.well_formed.0.1 in
    let h = field_below x f c.requires in
    let b = to_bits binary64 x / 2 ^ 52 in
    record {
      parts = rw (c.significand-else-field-eq0.ensures, less-is b 1023 (omega arith) (omega arith)) (sym (parts-high x f c.requires c.if-field-eq0.false));
      small = less-small b 1023 (omega arith) (omega arith);
    }
