-- A sender in 108 bytes. Numbers are big-endian, floats stand by their bits; a flag of 1 says that the value after it is there.
use Rattle.std.specs.Prelude.{Bool, ◌&&◌, cond, List, [], ◌∷◌, ◌++◌, ℕ, ◌+◌, length, get_or, drop, replicate, eqb, leb, Float, Option, Some, None, Result, Ok}
use Rattle.std.specs.Option.{option_map}
use Rattle.refusal.specs.declared.Refusal.{Refusal}
use Rattle.refusal.specs.declared.Refusal.TheVariants.{BadSettings, ShortBuffer}
use Rattle.refusal.specs.Guards.{check, checked, and_then, lent_after}
use Rattle.quantities.specs.declared.Time.{Time}
use Rattle.quantities.specs.declared.TimeSpan.{TimeSpan}
use Rattle.quantities.specs.Time.{span, moment}
use Rattle.wire.specs.Bytes.{bytes_of, number_at}
use Rattle.wire.specs.Fields.{float_bytes, action_bytes, float_at, action_at, flag_at}
use Rattle.sender.specs.declared.Rtt.{Rtt}
use Rattle.sender.specs.declared.Repeat.{Repeat}
use Rattle.sender.specs.declared.RepeatMode.{RepeatMode}
use Rattle.sender.specs.declared.RepeatMode.TheVariants.{Off, Always, Between}
use Rattle.sender.specs.declared.Sender.{Sender}
use Rattle.sender.specs.Sender.{new_of}

-- ---- written
-- 1 and the bits of a number of seconds, or zeros
unfoldable pub seconds_bytes : Option Float → List ℕ
seconds_bytes None = replicate 9 0
seconds_bytes (Some x) = 1 ∷ float_bytes x

abbrev pub moment_bytes : Option Time → List ℕ
moment_bytes m = seconds_bytes (option_map (λ (t : Time). t.0) m)

abbrev pub average_bytes : Option TimeSpan → List ℕ
average_bytes a = seconds_bytes (option_map (λ (x : TimeSpan). x.0) a)

-- the shortest, then the current
unfoldable pub trips_bytes : Option Rtt → List ℕ
trips_bytes None = replicate 17 0
trips_bytes (Some r) = 1 ∷ (float_bytes r.shortest.0 ++ float_bytes r.current.0)

-- how many acks are left, then the action
unfoldable pub pending_bytes : Option Repeat → List ℕ
pending_bytes None = replicate 25 0
pending_bytes (Some r) = 1 ∷ (bytes_of 4 r.left ++ action_bytes r.action)

-- 0 off, 1 always, 2 lo..=hi; a number that the mode does not use is 0
unfoldable pub mode_bytes : RepeatMode → List ℕ
mode_bytes Off = replicate 9 0
mode_bytes (Always n) = 1 ∷ (bytes_of 4 n ++ bytes_of 4 0)
mode_bytes (Between lo hi) = 2 ∷ (bytes_of 4 lo ++ bytes_of 4 hi)

-- last ack 9, last ack's sent moment 9, ack average 9, send average 9, round trips 17, pending repeat 25, repeat mode 9, standing send 9, window 4, wait 8
unfoldable pub sender_bytes : Sender → List ℕ
unfolding seconds_bytes trips_bytes pending_bytes mode_bytes
sender_bytes s =
    moment_bytes s.last_ack ++ (moment_bytes s.last_ack_send ++ (average_bytes s.ack_ewma ++ (
    average_bytes s.send_ewma ++ (trips_bytes s.rtt ++ (pending_bytes s.next_change ++ (mode_bytes s.repeat_actions ++ (
    moment_bytes s.last_send ++ (bytes_of 4 s.window ++ float_bytes s.intersend_delay.0))))))))

-- ---- read, any 108 bytes
-- what stands behind a flag at a place
abbrev pub behind : {A : Type 0} → List ℕ → ℕ → A → Option A
behind bytes at x = cond (flag_at bytes at) (Some x) None

abbrev pub moment_at : List ℕ → ℕ → Option Time
moment_at bytes at = behind bytes at (moment (float_at bytes (at + 1)))

abbrev pub average_at : List ℕ → ℕ → Option TimeSpan
average_at bytes at = behind bytes at (span (float_at bytes (at + 1)))

abbrev pub trips_at : List ℕ → ℕ → Option Rtt
trips_at bytes at =
    behind bytes at (record { shortest = span (float_at bytes (at + 1)); current = span (float_at bytes (at + 9)) })

abbrev pub pending_at : List ℕ → ℕ → Option Repeat
pending_at bytes at = behind bytes at (record { left = number_at bytes (at + 1) 4; action = action_at bytes (at + 5) })

-- any mode byte but 0 and 1 is lo..=hi
abbrev pub mode_at : List ℕ → ℕ → RepeatMode
mode_at bytes at =
    cond (eqb (get_or bytes at 0) 0) Off
    (cond (flag_at bytes at) (Always (number_at bytes (at + 1) 4)) (Between (number_at bytes (at + 1) 4) (number_at bytes (at + 5) 4)))

unfoldable pub sender_at : List ℕ → Sender
sender_at bytes =
    record {
      last_ack = moment_at bytes 0;
      last_ack_send = moment_at bytes 9;
      ack_ewma = average_at bytes 18;
      send_ewma = average_at bytes 27;
      rtt = trips_at bytes 36;
      next_change = pending_at bytes 53;
      repeat_actions = mode_at bytes 78;
      last_send = moment_at bytes 87;
      window = number_at bytes 96 4;
      intersend_delay = span (float_at bytes 100);
    }

-- ---- a new sender, from the 9 bytes of a repeat mode: another length or mode byte 2, then as the mode is refused 2, then 9
unfoldable pub mode_whole : List ℕ → Bool
mode_whole bytes = eqb (length bytes) 9 && leb (get_or bytes 0 0) 2

unfoldable pub made_in : List ℕ → Result Sender Refusal
unfolding mode_whole
made_in mode = checked (check (mode_whole mode) BadSettings ∷ []) (new_of (mode_at mode 0))

-- a sender is written where there is room for it
unfoldable pub stored_in : List ℕ → Result ℕ Refusal
stored_in out = checked (check (leb 108 (length out)) ShortBuffer ∷ []) (Ok 108)

unfoldable pub stored_after : Sender → List ℕ → List ℕ
unfolding stored_in sender_bytes
stored_after s out = lent_after (stored_in out) out (λ n. sender_bytes s ++ drop n out)

unfoldable pub new_in : List ℕ → List ℕ → Result ℕ Refusal
unfolding made_in stored_in
new_in mode out = and_then (made_in mode) (λ s. stored_in out)

unfoldable pub new_after : List ℕ → List ℕ → List ℕ
unfolding made_in stored_after
new_after mode out = lent_after (made_in mode) out (λ s. stored_after s out)
