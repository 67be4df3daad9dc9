-- What the private functions of the code are held to.
use Rattle.std.specs.Prelude.{◌≡◌, true, cond, List, [], ◌∷◌, ◌++◌, ℕ, ◌*◌, ◌≤◌, length, drop, leb, Option, None, Some, Result, Ok, Err}
use Rattle.refusal.specs.declared.Refusal.{Refusal}
use Rattle.refusal.specs.declared.Refusal.TheVariants.{BadTrace, ShortBuffer}
use Rattle.refusal.specs.Guards.{check, checked}
use Rattle.rule_tree.specs.declared.RuleTree.{RuleTree}
use Rattle.trace_lines.specs.Trace.{size_of, head_holds, whole_in_of, events_in, trace_holds, lines_over, room_for}

-- the size of the event that the bytes begin with, if it is whole
unfoldable pub event_size : List ℕ → Option ℕ
unfolding head_holds
event_size bytes = cond (head_holds bytes) (Some (size_of bytes)) None

-- how many events the bytes are, if all are whole
unfoldable pub counted_of : List ℕ → Option ℕ
counted_of body = cond (whole_in_of body) (Some (length (events_in body))) None

-- the bytes are n whole events, and there is room for their lines
pub record Tracing (body : List ℕ) (n : ℕ) (out : List ℕ) : Type 0 where
  pub whole : whole_in_of body ≡ true
  pub count : n ≡ length (events_in body)
  pub room : 11 * n ≤ length out
  pub few : length body ≤ 32763

-- a trace over a tree, and the buffer after
unfoldable pub traced_of : RuleTree → List ℕ → List ℕ → Result ℕ Refusal
unfolding trace_holds
traced_of t bytes out =
    checked (check (trace_holds bytes) BadTrace ∷ check (leb (room_for bytes) (length out)) ShortBuffer ∷ []) (Ok (length (lines_over t bytes)))

unfoldable pub traced_after : RuleTree → List ℕ → List ℕ → Result ℕ Refusal → List ℕ
traced_after t bytes out (Ok n) = lines_over t bytes ++ drop n out
traced_after t bytes out (Err r) = out
