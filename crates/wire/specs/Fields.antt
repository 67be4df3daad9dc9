-- 01, "The record": floats, actions and points at a place, and the bytes that they are written as.
use Rattle.std.specs.Prelude.{Bool, List, ◌++◌, ℕ, ◌+◌, get_or, eqb, Float}
use Rattle.std.specs.Float.{binary64}
use Rattle.std.specs.Float.Ieee.{to_bits, of_bits}
use Rattle.std.specs.Int.{w32}
use Rattle.std.proofs.Common.{of_z, to_z}
use Rattle.remy.specs.declared.action.Action.{Action}
use Rattle.remy.specs.declared.point.Point.{Point}
use Rattle.remy.specs.Action.{action_of}
use Rattle.remy.specs.Cube.{point_of}
use Rattle.wire.specs.Bytes.{bytes_of, number_at}

abbrev pub float_at : List ℕ → ℕ → Float
float_at bytes at = of_bits binary64 (number_at bytes at 8)

abbrev pub flag_at : List ℕ → ℕ → Bool
flag_at bytes at = eqb (get_or bytes at 0) 1

abbrev pub action_at : List ℕ → ℕ → Action
action_at bytes at = action_of (float_at bytes at) (to_z w32 (number_at bytes (at + 8) 4)) (float_at bytes (at + 12))

abbrev pub point_at : List ℕ → ℕ → Point
point_at bytes at = point_of (float_at bytes at) (float_at bytes (at + 8)) (float_at bytes (at + 16))

abbrev pub float_bytes : Float → List ℕ
float_bytes x = bytes_of 8 (to_bits binary64 x)

-- "multiplier bits 8, increment 4, delay bits 8"
abbrev pub action_bytes : Action → List ℕ
action_bytes a = float_bytes a.window_multiplier ++ (bytes_of 4 (of_z w32 a.window_increment) ++ float_bytes a.intersend_delay.0)

-- ack, send, ratio
abbrev pub point_bytes : Point → List ℕ
point_bytes p = float_bytes p.ack_ewma.0 ++ (float_bytes p.send_ewma.0 ++ float_bytes p.rtt_ratio)
