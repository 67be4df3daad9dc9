-- The public step and step back undo each other at every state that they do not refuse, and what a step leaves they do not refuse. Assumes nothing.
use Rattle.std.proofs.Common.{◌≡◌, false, ap}
use Rattle.std.specs.Prelude.{Ok}
use Rattle.xoshiro.specs.declared.State.{State}
use Rattle.xoshiro.specs.Xoshiro.{zeros_of, output_of, next_of, back_of}
use Rattle.xoshiro.specs.Calls.{step_of, step_back_of}
use Rattle.xoshiro.proofs.Inverse.{Held, back_step, step_back}
use Rattle.xoshiro.proofs.Zeros.{passing, zeros_before, never_zeros}

pub never_zeros_back : (s : State) → Held s → zeros_of s ≡ false → zeros_of (back_of s) ≡ false
never_zeros_back s h e = passing s (back_of s) (zeros_before s h) e

-- "it restores the state before any step"
pub stepped_back : (s : State) → Held s → zeros_of s ≡ false → step_back_of (next_of s) ≡ Ok s
stepped_back s h e = rw (never_zeros s e, back_step s h)

pub back_stepped : (s : State) → Held s → zeros_of s ≡ false → step_of (back_of s) ≡ Ok (record { output = output_of (back_of s); state = s })
back_stepped s h e = rw (never_zeros_back s h e) (ap (λ (x : State). Ok (record { output = output_of (back_of s); state = x })) (step_back s h))
