-- The loop's invariant: the first i windows are in the buffer. Assumes nothing.
use Rattle.std.proofs.Common.{◌≡◌, length, take}
use Rattle.std.proofs.lemmas.List.Edits.{sets}
use Rattle.host_burst.specs.Bursts.{windows_bytes}
use Rattle.host_burst.proofs.put_windows.Given as goal

abbrev pub invariant-loop-i : goal.invariant-loop-i
invariant-loop-i l = record {
  long : length l.out ≡ length l.initial.out;
  stored : l.out ≡ sets l.initial.out 0 (windows_bytes (take l.i l.windows));
}
