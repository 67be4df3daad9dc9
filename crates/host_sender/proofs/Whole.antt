-- The layout is whole: the 108 bytes of a sender are read back as that sender. Assumes nothing.
use mathlib.Core.Path.{◌≡◌, refl, sym, ap}
use mathlib.Core.List.{List, [], ◌∷◌, ◌++◌}
use Prim.Native.Nat.{ℕ, ◌+◌}
use native.Mathlib.Omega.{arith}
use lib.Ieee.{Float, fits}
use lib.ListN.{length, replicate}
use Rattle.std.specs.Prelude.{Option, Some, None}
use Rattle.quantities.specs.declared.Time.{Time}
use Rattle.quantities.specs.declared.TimeSpan.{TimeSpan}
use Rattle.quantities.specs.Time.{span, moment}
use Rattle.remy.specs.declared.action.Action.{Action}
use Rattle.rule_tree.proofs.Plain.{ActionFits}
use Rattle.wire.specs.Bytes.{bytes_of}
use Rattle.wire.specs.Fields.{float_bytes, action_bytes}
use Rattle.wire.proofs.Bytes.{bytes_count}
use Rattle.record.proofs.Stands.{Stands, stands_all, first, next, onward, number_back, byte_back, float_back, action_back}
use Rattle.sender.specs.declared.Rtt.{Rtt}
use Rattle.sender.specs.declared.Repeat.{Repeat}
use Rattle.sender.specs.declared.RepeatMode.{RepeatMode}
use Rattle.sender.specs.declared.RepeatMode.TheVariants.{Off, Always, Between}
use Rattle.sender.specs.declared.Sender.{Sender}
use Rattle.sender.specs.Sender.{fresh_sender}
use Rattle.host_sender.specs.Layout.{seconds_bytes, moment_bytes, average_bytes, trips_bytes, pending_bytes, mode_bytes, sender_bytes, moment_at, average_at, trips_at, pending_at, mode_at, sender_at}
use Rattle.host_sender.specs.Values.{FitAction, FitMoment, FitAverage, FitTrips, FitPending, FitMode, FitSender}
use Rattle.host_sender.proofs.Writing.{seconds_count, trips_count, pending_count, mode_count, sender_count}

action_fits : (a : Action) → FitAction a → ActionFits a
action_fits a f = record { multiplier = f.multiplier; increment = f.increment; delay = f.delay }

-- ---- a field that stands at a place is read there
module _ (bytes : List ℕ) (at : ℕ) where
  after : (x : ℕ) (y : List ℕ) → Stands bytes at (x ∷ y) → Stands bytes (at + 1) y
  after x y h = next bytes at 1 (x ∷ []) y refl h

  moment_back : (m : Option Time) → FitMoment m → Stands bytes at (moment_bytes m) → moment_at bytes at ≡ m
  unfolding seconds_bytes
  moment_back None f h = rw (byte_back bytes at 0 (replicate 8 0) h)
  moment_back (Some t) f h =
      rw (byte_back bytes at 1 (float_bytes t.0) h)
      (ap (λ (x : Float). Some (moment x)) (float_back bytes (at + 1) t.0 f (after 1 (float_bytes t.0) h)))

  average_back : (a : Option TimeSpan) → FitAverage a → Stands bytes at (average_bytes a) → average_at bytes at ≡ a
  unfolding seconds_bytes
  average_back None f h = rw (byte_back bytes at 0 (replicate 8 0) h)
  average_back (Some a) f h =
      rw (byte_back bytes at 1 (float_bytes a.0) h)
      (ap (λ (x : Float). Some (span x)) (float_back bytes (at + 1) a.0 f (after 1 (float_bytes a.0) h)))

  trips_back : (r : Option Rtt) → FitTrips r → Stands bytes at (trips_bytes r) → trips_at bytes at ≡ r
  unfolding trips_bytes
  trips_back None f h = rw (byte_back bytes at 0 (replicate 16 0) h)
  trips_back (Some t) f h =
      let x = float_bytes t.shortest.0 in
      let y = float_bytes t.current.0 in
      let h1 = after 1 (x ++ y) h in
      let p = float_back bytes (at + 1) t.shortest.0 f.0 (first bytes (at + 1) x y h1) in
      let q = float_back bytes (at + 9) t.current.0 f.1 (onward bytes at 1 8 9 x y (bytes_count 8 _) refl h1) in
      rw (byte_back bytes at 1 (x ++ y) h) (λ j. Some (record { shortest = span (p j); current = span (q j) }))

  pending_back : (p : Option Repeat) → FitPending p → Stands bytes at (pending_bytes p) → pending_at bytes at ≡ p
  unfolding pending_bytes
  pending_back None f h = rw (byte_back bytes at 0 (replicate 24 0) h)
  pending_back (Some r) f h =
      let x = bytes_of 4 r.left in
      let y = action_bytes r.action in
      let h1 = after 1 (x ++ y) h in
      let p = number_back bytes (at + 1) 4 r.left f.0 (first bytes (at + 1) x y h1) in
      let q = action_back bytes (at + 5) r.action (action_fits r.action f.1) (onward bytes at 1 4 5 x y (bytes_count 4 r.left) refl h1) in
      rw (byte_back bytes at 1 (x ++ y) h) (λ j. Some (record { left = p j; action = q j }))

  mode_back : (m : RepeatMode) → FitMode m → Stands bytes at (mode_bytes m) → mode_at bytes at ≡ m
  unfolding mode_bytes
  mode_back Off f h = rw (byte_back bytes at 0 (replicate 8 0) h)
  mode_back (Always n) f h =
      let x = bytes_of 4 n in
      let y = bytes_of 4 0 in
      rw (byte_back bytes at 1 (x ++ y) h)
      (ap Always (number_back bytes (at + 1) 4 n f (first bytes (at + 1) x y (after 1 (x ++ y) h))))
  mode_back (Between lo hi) f h =
      let x = bytes_of 4 lo in
      let y = bytes_of 4 hi in
      let h1 = after 2 (x ++ y) h in
      let p = number_back bytes (at + 1) 4 lo f.0 (first bytes (at + 1) x y h1) in
      let q = number_back bytes (at + 5) 4 hi f.1 (onward bytes at 1 4 5 x y (bytes_count 4 lo) refl h1) in
      rw (byte_back bytes at 2 (x ++ y) h) (λ j. Between (p j) (q j))

-- ---- the sender
sender_back : (bytes : List ℕ) (s : Sender) → FitSender s → Stands bytes 0 (sender_bytes s) → s ≡ sender_at bytes
unfolding sender_bytes sender_at
sender_back bytes s f h =
    let a = moment_bytes s.last_ack in
    let b = moment_bytes s.last_ack_send in
    let d = average_bytes s.ack_ewma in
    let e = average_bytes s.send_ewma in
    let p = trips_bytes s.rtt in
    let q = pending_bytes s.next_change in
    let r = mode_bytes s.repeat_actions in
    let u = moment_bytes s.last_send in
    let w = bytes_of 4 s.window in
    let x = float_bytes s.intersend_delay.0 in
    let h9 = next bytes 0 9 a (b ++ (d ++ (e ++ (p ++ (q ++ (r ++ (u ++ (w ++ x)))))))) (seconds_count _) h in
    let h18 = next bytes 9 9 b (d ++ (e ++ (p ++ (q ++ (r ++ (u ++ (w ++ x))))))) (seconds_count _) h9 in
    let h27 = next bytes 18 9 d (e ++ (p ++ (q ++ (r ++ (u ++ (w ++ x)))))) (seconds_count _) h18 in
    let h36 = next bytes 27 9 e (p ++ (q ++ (r ++ (u ++ (w ++ x))))) (seconds_count _) h27 in
    let h53 = next bytes 36 17 p (q ++ (r ++ (u ++ (w ++ x)))) (trips_count s.rtt) h36 in
    let h78 = next bytes 53 25 q (r ++ (u ++ (w ++ x))) (pending_count s.next_change) h53 in
    let h87 = next bytes 78 9 r (u ++ (w ++ x)) (mode_count s.repeat_actions) h78 in
    let h96 = next bytes 87 9 u (w ++ x) (seconds_count _) h87 in
    let h100 = next bytes 96 4 w x (bytes_count 4 _) h96 in
    let ack = moment_back bytes 0 s.last_ack f.acked (first bytes 0 a _ h) in
    let sent = moment_back bytes 9 s.last_ack_send f.acked_sent (first bytes 9 b _ h9) in
    let acks = average_back bytes 18 s.ack_ewma f.acks (first bytes 18 d _ h18) in
    let sends = average_back bytes 27 s.send_ewma f.sends (first bytes 27 e _ h27) in
    let trips = trips_back bytes 36 s.rtt f.trips (first bytes 36 p _ h36) in
    let pending = pending_back bytes 53 s.next_change f.pending (first bytes 53 q _ h53) in
    let mode = mode_back bytes 78 s.repeat_actions f.mode (first bytes 78 r _ h78) in
    let standing = moment_back bytes 87 s.last_send f.standing (first bytes 87 u _ h87) in
    let window = number_back bytes 96 4 s.window f.window (first bytes 96 w x h96) in
    let wait = float_back bytes 100 s.intersend_delay.0 f.wait h100 in
    sym
    (λ j.
    record {
      last_ack = ack j;
      last_ack_send = sent j;
      ack_ewma = acks j;
      send_ewma = sends j;
      rtt = trips j;
      next_change = pending j;
      repeat_actions = mode j;
      last_send = standing j;
      window = window j;
      intersend_delay = span (wait j);
    })

pub record Whole (s : Sender) : Type 0 where
  pub long : length (sender_bytes s) ≡ 108
  pub back : sender_at (sender_bytes s) ≡ s

pub layout_whole : (s : Sender) → FitSender s → Whole s
layout_whole s f = record { long = sender_count s; back = sym (sender_back (sender_bytes s) s f (stands_all (sender_bytes s))) }

-- a new sender is such a one
pub fresh_fits : (mode : RepeatMode) → FitMode mode → FitSender (fresh_sender mode)
unfolding fits
fresh_fits mode f =
    record {
      acked = tt;
      acked_sent = tt;
      acks = tt;
      sends = tt;
      trips = tt;
      pending = tt;
      mode = f;
      standing = tt;
      window = omega arith;
      wait = tt;
    }

pub fresh_whole : (mode : RepeatMode) → FitMode mode → sender_at (sender_bytes (fresh_sender mode)) ≡ fresh_sender mode
fresh_whole mode f = (layout_whole (fresh_sender mode) (fresh_fits mode f)).back
