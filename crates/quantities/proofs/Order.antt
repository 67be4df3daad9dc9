-- `a < b` of two spans, by their derived order, is `<` of their seconds. Assumes nothing.
use Rattle.std.proofs.Common.{◌≡◌, refl, Bool, true, false, cond, Less, Equal, Greater}
use Rattle.std.specs.Prelude.{Some, None}
use Rattle.std.specs.Ordering.{is_lt, is_some_and, partial_lt}
use Rattle.std.specs.Float.Ieee.{lt, eq}
use Rattle.quantities.specs.declared.TimeSpan.{TimeSpan}
use Rattle.quantities.specs.contracts.TimeSpanPartialOrd.TheImpl.{ghosts}
use Rattle.quantities.specs.Time.{shorter}

less : (p q r : Bool) → is_some_and is_lt (cond p (Some Less) (cond q (Some Equal) (cond r (Some Greater) None))) ≡ p
less true q r = refl
less false true r = refl
less false false true = refl
less false false false = refl

pub shorter_is : (a b : TimeSpan) → partial_lt {X = TimeSpan} ghosts.partial_cmp a b ≡ shorter a b
shorter_is a b = less (lt a.0 b.0) (eq a.0 b.0) (lt b.0 a.0)
