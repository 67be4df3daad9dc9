-- A change of settings, by the trainer's phase. Assumes nothing.
use mathlib.Core.Path.{◌≡◌}
use mathlib.Core.Bool.{true, false}
use Prim.Native.Nat.{ℕ, ◌≤◌}
use borrow.Author.Tests.{le-leb}
use lib.Dec.{ltb}
use Rattle.trainer.specs.declared.settings.Settings.{Settings}
use Rattle.trainer.specs.declared.Trainer.{Trainer}
use Rattle.trainer.specs.State.{stand, at_leaf_of}
use Rattle.trainer.specs.Calls.{wants_score}
use Rattle.trainer.specs.Change.{round_fits, changed_to}

pub round_tunes : (p r n : ℕ) → 3 ≤ p → p ≤ 5 → ltb r n ≡ round_fits p r n
unfolding round_fits
round_tunes p r n a b = rw (le-leb 3 p a, le-leb p 5 b)

module _ (t : Trainer) (s : Settings) where
  pub changed_asks : wants_score t.phase ≡ true → changed_to t s ≡ at_leaf_of s t.tree t.stage t.round t.leaf
  unfolding changed_to
  changed_asks h = rw h

  pub changed_stands : wants_score t.phase ≡ false → changed_to t s ≡ stand s t.tree t.phase t.stage t.round
  unfolding changed_to
  changed_stands h = rw h
