-- "draw n serves the next n+1 acks": a repeat that is left n times is pending for n more acks, and then for none.
-- Assumes nothing.
use mathlib.Core.Path.{◌≡◌, refl, ap, ◌∙◌}
use Prim.Native.Nat.{ℕ, zero, suc, ◌-◌, ◌≤◌}
use native.Mathlib.Omega.{arith}
use mathlib.Core.Bool.{Bool, cond}
use borrow.Author.Tests.{ne_eqb}
use Rattle.std.specs.Prelude.{Option, Some, None}
use Rattle.remy.specs.declared.action.Action.{Action}
use Rattle.sender.specs.declared.Repeat.{Repeat}
use Rattle.sender.specs.Acks.{repeat, repeat_next}

-- what is pending after an ack that the repeat serves, and after k of them
unfoldable pub served_once : Option Repeat → Option Repeat
unfolding repeat_next
served_once None = None
served_once (Some r) = repeat_next r

unfoldable pub after_served : ℕ → Option Repeat → Option Repeat
unfolding served_once
after_served zero p = p
after_served (suc k) p = after_served k (served_once p)

counts_down : (n : ℕ) (a : Action) → repeat_next (repeat (suc n) a) ≡ Some (repeat n a)
unfolding repeat_next
counts_down n a =
    ap (λ (x : Bool). cond x None (Some (repeat (suc n - 1) a))) (ne_eqb (suc n) 0 (λ e. omega arith)) ∙ ap (λ (k : ℕ). Some (repeat k a)) (omega arith)

pub still_pending : (k n : ℕ) (a : Action) → k ≤ n → after_served k (Some (repeat n a)) ≡ Some (repeat (n - k) a)
unfolding after_served
still_pending zero n a h = ap (λ (k : ℕ). Some (repeat k a)) (omega arith)
still_pending (suc k) zero a h = absurd (omega arith)
still_pending (suc k) (suc n) a h =
    ap (after_served k) (counts_down n a) ∙ still_pending k n a (omega arith) ∙ ap (λ (x : ℕ). Some (repeat x a)) (omega arith)

pub served_out : (n : ℕ) (a : Action) → after_served (suc n) (Some (repeat n a)) ≡ None
unfolding after_served
served_out zero a = refl
served_out (suc n) a = ap (after_served (suc n)) (counts_down n a) ∙ served_out n a
