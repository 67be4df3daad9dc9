-- What the private functions of the code are held to: what the tests of the lengths show, and what a taken burst leaves.
use Rattle.std.specs.Prelude.{◌≡◌, List, ℕ, ◌*◌, ◌/◌, ◌≤◌}
use Rattle.std.proofs.lemmas.List.Edits.{sets}
use Rattle.rule_tree.specs.declared.RuleTree.{RuleTree}
use Rattle.host_sender.specs.Layout.{sender_bytes}
use Rattle.host_burst.specs.Bursts.{answer_of, course_on, windows_bytes}

-- the lengths where no test of them fails
pub record Fit (a b c d : ℕ) : Type 0 where
  pub whole : a ≡ 108
  pub few : b / 21 ≤ 256
  pub windows : 4 * (b / 21) ≤ c
  pub flags : b / 21 ≤ d

-- what a burst over a tree answers, and what it leaves in the three lent buffers
pub record Given (t : RuleTree) (bytes list out marks : List ℕ) (r : ℕ) (s w f : List ℕ) : Type 0 where
  pub answer : r ≡ answer_of (course_on t bytes list)
  pub sender : s ≡ sender_bytes (course_on t bytes list).sender
  pub windows : w ≡ sets out 0 (windows_bytes (course_on t bytes list).windows)
  pub flags : f ≡ sets marks 0 (course_on t bytes list).flags
