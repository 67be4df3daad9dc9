-- What a due draw of the generator makes of the action that was looked up. Assumes nothing.
use mathlib.Core.Path.{◌≡◌}
use Prim.Native.Nat.{ℕ, ◌+◌, ◌-◌, ◌%◌, ◌≤◌, ◌<◌}
use native.Mathlib.Omega.{arith}
use borrow.Author.Tests.{le-leb}
use Rattle.std.specs.Prelude.{Some, Ok, Err}
use Rattle.refusal.specs.declared.Refusal.TheVariants.{NoDraw}
use Rattle.remy.specs.declared.action.Action.{Action}
use Rattle.sender.specs.declared.RepeatMode.TheVariants.{Between}
use Rattle.sender.specs.Acks.{repeat, drawn}
use Rattle.xoshiro.proofs.Draws as draws
use Rattle.own_draws.specs.OwnDraws.{draw_in}

-- "lo plus the output modulo hi - lo + 1" lies in lo..=hi, so it is never refused
pub served : (lo hi output : ℕ) (a : Action) → lo ≤ hi
    → drawn (Between lo hi) (draw_in (Between lo hi) output) a ≡ Ok (Some (repeat (lo + output % (hi - lo + 1)) a))
unfolding drawn draw_in
served lo hi output a l =
    rw (
      draws.drawn output lo hi l,
      le-leb lo (lo + output % (hi - lo + 1)) (omega arith),
      le-leb (lo + output % (hi - lo + 1)) hi (draws.below_span output lo hi l),
    )

-- "where a sender handed in holds lo above hi there is none, and one due counts as absent (5)"
pub crossed : (lo hi output : ℕ) (a : Action) → hi < lo → drawn (Between lo hi) (draw_in (Between lo hi) output) a ≡ Err NoDraw
unfolding drawn draw_in
crossed lo hi output a l = rw (draws.none output lo hi l)
