-- What the private functions are held to: a call that is read and one that is made, with its words.
use Rattle.std.specs.Prelude.{◌≡◌, true, List, ℕ, ◌+◌, ◌<◌, ◌≤◌, MatchOption, length, take, drop, Option}
use Rattle.std.specs.Borrow.{Bor}
use Rattle.rule_tree.specs.Calls.{lookup_of}
use Rattle.remy.specs.declared.point.Point.{Point}
use Rattle.trainer.specs.declared.settings.Settings.{Settings}
use Rattle.trainer.specs.declared.Trainer.{Trainer}
use Rattle.sender.specs.declared.Ack.{Ack}
use Rattle.sender.specs.declared.Event.{Event}
use Rattle.sender.specs.declared.Event.TheVariants as event
use Rattle.sender.specs.declared.Sender.{Sender}
use Rattle.promise.specs.PlainTrainer as plain
use Rattle.promise.specs.Demand3.{Step, step_of}
use Rattle.promise.specs.SenderRuns.{SenderStep, sender_step}
use Rattle.sender.specs.SenderCall as runs
use Rattle.runs.specs.declared.call.TrainerCall.{TrainerCall}
use Rattle.runs.specs.declared.call.TrainerCall.TheVariants.{Counts, Score, Reload, Change}
use Rattle.runs.specs.declared.call.Call.{Call}
use Rattle.runs.specs.declared.call.Call.TheVariants.{Train, React, Look}
use Rattle.runs.specs.declared.words.Writer.{Writer}
use Rattle.runs.specs.declared.State.{State}
use Rattle.runs.specs.Script.{Item, train, ack, send, tick, lookup, word, float, settings_at, draw_of, bytes_of, size_of, item_of, whole_of}
use Rattle.runs.specs.Ran.{step_words, move_words, looked_words}
use Rattle.runs.specs.Writing.{Appends}

-- ---- reading
-- the first 19 words, and these upper ends
abbrev pub settings_in : List ℕ → Point → Settings
settings_in ws p = record (settings_at ws 0 0) { ends = p }

abbrev pub ack_in : List ℕ → Ack
ack_in ws = record { sent = float ws 0; received = float ws 1; draw = draw_of (word ws 2) }

-- what a call stands for
abbrev pub call_meant : TrainerCall → plain.Call
call_meant (Counts counts) = plain.counts counts.now
call_meant (Score x) = plain.score x
call_meant (Reload lent) = plain.reload (bytes_of lent.words.now)
call_meant (Change s) = plain.change s

abbrev pub event_meant : Event → Item
event_meant (event.Ack x) = ack x.sent x.received x.draw
event_meant (event.Send at) = send at
event_meant event.Tick = tick

abbrev pub meant : Call → Item
meant (Train c) = train (call_meant c)
meant (React e) = event_meant e
meant (Look p) = lookup p

-- a list of words by their number, which stands first, and the words after it; none where they are cut off
abbrev pub Listed : List ℕ → Option (Bor (List ℕ) × Bor (List ℕ)) → Type 0
Listed ws r =
    MatchOption r (length ws < 1 + word ws 0)
    (λ p. (p.0.now ≡ take (word ws 0) (drop 1 ws)) × (p.1.now ≡ drop (1 + word ws 0) ws) × (1 + word ws 0 ≤ length ws))

-- a whole call stands first, and the rest after it
pub record First (ws : List ℕ) (i : Item) (rest : List ℕ) : Type 0 where
  pub whole : whole_of ws ≡ true
  pub item : i ≡ item_of ws
  pub after : rest ≡ drop (size_of ws) ws

-- ---- making
-- a call's words, and what it leaves
pub record Turn : Type 0 where
  pub trainer : Trainer
  pub sender : Sender
  pub words : List ℕ

abbrev pub trainer_turn : Sender → Step → Turn
trainer_turn s o = record { trainer = o.trainer; sender = s; words = step_words o }

abbrev pub sender_turn : Trainer → SenderStep → Turn
sender_turn t o = record { trainer = t; sender = o.sender; words = move_words o }

unfoldable pub turn_of : Trainer → Sender → Item → Turn
turn_of t s (train c) = trainer_turn s (step_of t c)
turn_of t s (ack sent received draw) = sender_turn t (sender_step s (runs.ack t.tree sent received draw))
turn_of t s (send at) = sender_turn t (sender_step s (runs.send at))
turn_of t s tick = sender_turn t (sender_step s runs.tick)
turn_of t s (lookup p) = record { trainer = t; sender = s; words = looked_words (lookup_of t.tree p) }

-- what a call leaves, and its words after the others
pub record Leaves (w : Writer) (turn : Turn) (q : State) (v : Writer) : Type 0 where
  pub trainer : q.trainer ≡ turn.trainer
  pub sender : q.sender ≡ turn.sender
  pub words : Appends w turn.words v

abbrev pub Makes : State → Item → Writer → State → Writer → Type 0
Makes r i w q v = Leaves w (turn_of r.trainer r.sender i) q v

-- the same of a call to the trainer, and of one to the sender
pub record Trains (w : Writer) (o : Step) (t : Trainer) (v : Writer) : Type 0 where
  pub trainer : t ≡ o.trainer
  pub words : Appends w (step_words o) v

pub record Moves (w : Writer) (o : SenderStep) (s : Sender) (v : Writer) : Type 0 where
  pub sender : s ≡ o.sender
  pub words : Appends w (move_words o) v
