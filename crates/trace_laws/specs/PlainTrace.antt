-- 02, 3: "The lines equal the plain sender's over the whole list."
use Rattle.std.specs.Prelude.{◌≡◌, true, false, cond, List, [], ◌∷◌, ◌++◌, map, ℕ, eqb}
use Rattle.refusal.specs.Numbers.{bad_trace}
use Rattle.panel_lines.specs.Panel.{tree_in}
use Rattle.sender.specs.declared.Event.{Event}
use Rattle.sender.specs.declared.RepeatMode.TheVariants.{Off}
use Rattle.sender.specs.SenderCall.{SenderCall, on}
use Rattle.sender.specs.Sender.{fresh_sender}
use Rattle.promise.specs.PlainTree.{Tree}
use Rattle.promise.specs.SenderRuns.{SenderEvent, plain_start, plain_sender_events}
use Rattle.promise.specs.Demand3.{SameTree}
use Rattle.trace_lines.specs.Trace.{trace_part, trace_holds, events, refusal_line, window_line, printed_of}

-- "It prints one window a line, or `refused N` and goes on"; 02, 6: "a clipped ack's line ends in ` c` and no other line does"
unfoldable pub plain_line : SenderEvent → List ℕ
plain_line e = cond (eqb e.refused 0) (window_line e.window e.clipped) (refusal_line e.refused)

unfoldable pub lines_of : List SenderEvent → List ℕ
unfolding plain_line
lines_of [] = []
lines_of (e ∷ es) = plain_line e ++ lines_of es

-- the events as calls over one tree
abbrev pub calls_on : {T : Type 0} → T → List Event → List (SenderCall T)
calls_on u es = map (on u) es

-- the plain sender's lines; "Repeat is off"
abbrev pub plain_lines : Tree → List Event → List ℕ
plain_lines u es = lines_of (plain_sender_events (plain_start (fresh_sender Off)) (calls_on u es))

-- what is printed of a record, whose tree is the one that u stands for, and of the bytes after it
pub record Traces (u : Tree) (bytes : List ℕ) (printed : List ℕ) : Type 0 where
  pub taken : trace_holds bytes ≡ true → printed ≡ plain_lines u (events bytes)
  pub refused : trace_holds bytes ≡ false → printed ≡ refusal_line bad_trace

-- the plain tree of any record that is accepted, and what is printed of it
pub record PlainRecord (input : List ℕ) : Type 0 where
  pub tree : Tree
  pub same : SameTree (tree_in input) tree
  pub traces : Traces tree (trace_part input) (printed_of input)
