-- A list of calls in 64-bit words: each number stands in one word, a float by its bits. What lies past the end reads as 0.
use Rattle.std.specs.Prelude.{Bool, ◌&&◌, cond, List, [], ◌∷◌, map, ℕ, zero, suc, ◌+◌, ◌%◌, length, take, drop, get_or, eqb, ltb, leb, Float, Option, Some, None}
use Rattle.std.specs.Float.{binary64}
use Rattle.std.specs.Float.Ieee.{of_bits}
use Rattle.std.specs.Int.{w32}
use Rattle.std.proofs.Common.{to_z}
use Rattle.quantities.specs.declared.Time.{Time}
use Rattle.quantities.specs.declared.TimeSpan.{TimeSpan}
use Rattle.quantities.specs.Time.{span, moment}
use Rattle.remy.specs.declared.action.Action.{Action}
use Rattle.remy.specs.declared.point.Point.{Point}
use Rattle.remy.specs.Action.{action_of}
use Rattle.remy.specs.Cube.{point_of}
use Rattle.trainer.specs.declared.settings.Settings.{Settings}
use Rattle.sender.specs.declared.Rtt.{Rtt}
use Rattle.sender.specs.declared.Repeat.{Repeat}
use Rattle.sender.specs.declared.RepeatMode.{RepeatMode}
use Rattle.sender.specs.declared.RepeatMode.TheVariants.{Off, Always, Between}
use Rattle.sender.specs.declared.Sender.{Sender}
use Rattle.promise.specs.PlainTrainer.{Call, counts, score, reload, change}

abbrev pub word : List ℕ → ℕ → ℕ
word ws i = get_or ws i 0

-- a number of 32 bits: the word's lowest
abbrev pub number : List ℕ → ℕ → ℕ
number ws i = word ws i % 4294967296

abbrev pub float : List ℕ → ℕ → Float
float ws i = of_bits binary64 (word ws i)

abbrev pub action : List ℕ → ℕ → Action
action ws i = action_of (float ws i) (to_z w32 (number ws (i + 1))) (float ws (i + 2))

-- the upper ends from word i on
abbrev pub ends : List ℕ → ℕ → Point
ends ws i = point_of (float ws i) (float ws (i + 1)) (float ws (i + 2))

-- the 19 words from word i on, and the upper ends from word e on
abbrev pub settings_at : List ℕ → ℕ → ℕ → Settings
settings_at ws i e =
    record {
      rule_splits = number ws i;
      optimization_rounds_per_split = number ws (i + 1);
      action_change_multiplier = number ws (i + 2);
      drill_down = eqb (word ws (i + 3)) 1;
      min_action = action ws (i + 4);
      max_action = action ws (i + 7);
      initial_action_change = action ws (i + 10);
      max_action_change = action ws (i + 13);
      default_action = action ws (i + 16);
      ends = ends ws e;
    }

-- the settings of the start: the first 19 words, and words 43 to 45, after the sender
abbrev pub settings : List ℕ → Settings
settings ws = settings_at ws 0 43

-- word 19: 0 for a fresh sender of the mode that follows, any other number for a sender handed in, whose whole state follows
abbrev pub fresh : List ℕ → Bool
fresh ws = eqb (word ws 19) 0

-- words 20 to 22: 0 off, 1 always, any other lo..=hi
unfoldable pub mode : List ℕ → RepeatMode
mode ws =
    cond (eqb (word ws 20) 0) Off
    (cond (eqb (word ws 20) 1) (Always (number ws 21)) (Between (number ws 21) (number ws 22)))

-- parts of a sender that may be missing: none where word i is 0, else what stands behind it
abbrev pub behind : {A : Type 0} → List ℕ → ℕ → A → Option A
behind ws i x = cond (eqb (word ws i) 0) None (Some x)

abbrev pub moment_at : List ℕ → ℕ → Option Time
moment_at ws i = behind ws i (moment (float ws (i + 1)))

abbrev pub average_at : List ℕ → ℕ → Option TimeSpan
average_at ws i = behind ws i (span (float ws (i + 1)))

-- the shortest, then the current
abbrev pub trips_at : List ℕ → ℕ → Option Rtt
trips_at ws i = behind ws i (record { shortest = span (float ws (i + 1)); current = span (float ws (i + 2)) })

-- how many acks are left, then the action
abbrev pub pending_at : List ℕ → ℕ → Option Repeat
pending_at ws i = behind ws i (record { left = number ws (i + 1); action = action ws (i + 2) })

-- words 20 to 42
abbrev pub handed_in : List ℕ → Sender
handed_in ws =
    record {
      last_ack = moment_at ws 23;
      last_ack_send = moment_at ws 25;
      ack_ewma = average_at ws 27;
      send_ewma = average_at ws 29;
      rtt = trips_at ws 31;
      next_change = pending_at ws 34;
      repeat_actions = mode ws;
      last_send = moment_at ws 39;
      window = number ws 41;
      intersend_delay = span (float ws 42);
    }

-- a number up to 4,294,967,295 is the draw, any larger one none
unfoldable pub draw_of : ℕ → Option ℕ
draw_of n = cond (leb n 4294967295) (Some n) None

-- each byte is a word's lowest 8 bits
abbrev pub bytes_of : List ℕ → List ℕ
bytes_of ws = map (λ (w : ℕ). w % 256) ws

-- a call to the trainer, to the sender, or a lookup in the trainer's tree
pub data Item : Type 0 where
  train : Call → Item
  ack : Float → Float → Option ℕ → Item
  send : Float → Item
  tick : Item
  lookup : Point → Item

-- how many words the first call takes: 1 counts, 2 score, 3 reload by a buffer of at most 32,768 bytes, 4 ack, 5 send, 6 tick, 8 lookup,
-- 15 new settings, whose 19 words and three upper ends follow; 0 for no such call
unfoldable pub size_of : List ℕ → ℕ
size_of ws =
    let code = word ws 0 in
    cond (eqb code 1) (2 + word ws 1)
    (cond (eqb code 2) 2
    (cond (eqb code 3) (cond (leb (word ws 1) 32768) (2 + word ws 1) 0)
    (cond (eqb code 4) 4 (cond (eqb code 5) 2 (cond (eqb code 6) 1 (cond (eqb code 8) 4 (cond (eqb code 15) 23 0)))))))

unfoldable pub item_of : List ℕ → Item
item_of ws =
    let code = word ws 0 in
    cond (eqb code 1) (train (counts (take (word ws 1) (drop 2 ws))))
    (cond (eqb code 2) (train (score (float ws 1)))
    (cond (eqb code 3) (train (reload (bytes_of (take (word ws 1) (drop 2 ws)))))
    (cond (eqb code 4) (ack (float ws 1) (float ws 2) (draw_of (word ws 3)))
    (cond (eqb code 5) (send (float ws 1))
    (cond (eqb code 6) tick
    (cond (eqb code 15) (train (change (settings_at ws 1 20))) (lookup (point_of (float ws 1) (float ws 2) (float ws 3)))))))))

-- a call of a known code, none of its words cut off
unfoldable pub whole_of : List ℕ → Bool
unfolding size_of
whole_of ws = ltb 0 (size_of ws) && leb (size_of ws) (length ws)

-- at most n calls; the list ends where no whole call stands
unfoldable pub items_of : ℕ → List ℕ → List Item
unfolding whole_of item_of
items_of zero ws = []
items_of (suc n) ws = cond (whole_of ws) (item_of ws ∷ items_of n (drop (size_of ws) ws)) []

-- all of them: each takes a word at least
abbrev pub calls_of : List ℕ → List Item
calls_of ws = items_of (length ws) (drop 46 ws)
