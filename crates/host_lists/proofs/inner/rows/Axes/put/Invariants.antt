-- The loop's invariant: the first j actions are stored. Assumes nothing.
use Rattle.std.proofs.Common.{◌≡◌, length, take, drop}
use Rattle.std.proofs.lemmas.List.Edits.{sets}
use Rattle.host_lists.specs.Lists.{list_bytes}
use Rattle.host_lists.specs.Parts.{product_of}
use Rattle.host_lists.proofs.inner.rows.Axes.put.Given as goal

abbrev pub invariant-loop-j : goal.invariant-loop-j
invariant-loop-j l = record {
  long : length l.out ≡ length l.initial.out;
  stored : l.out ≡ sets l.initial.out l.at (list_bytes (take l.j (drop l.from (product_of l.self.multipliers.now l.self.increments.now l.self.delays.now))));
}
