-- What is true of a trainer that was loaded. Assumes nothing.
use mathlib.Core.Path.{◌≡◌, sym, ◌∙◌}
use mathlib.Core.Bool.{true}
use mathlib.Core.List.{List}
use Prim.Native.Nat.{ℕ, ◌≤◌}
use Rattle.std.specs.Prelude.{Result, Ok}
use Rattle.refusal.specs.declared.Refusal.{Refusal}
use Rattle.rule_tree.specs.Nodes.{most_splits}
use Rattle.rule_tree.specs.Grown.{grown_of}
use Rattle.rule_tree.proofs.Links.{grown_splits}
use Rattle.trainer.specs.declared.Trainer.{Trainer}
use Rattle.trainer.specs.State.{accepted_of}
use Rattle.record.specs.Calls.{load_of}
use Rattle.record.proofs.Loading.{accepted_grown, load_again}

module _ (held : List ℕ) (t : Trainer) {a : Result Trainer Refusal} (loaded : a ≡ load_of held) (is : a ≡ Ok t) where
  pub loaded_accepted : accepted_of t ≡ true
  loaded_accepted = (load_again held t (sym loaded ∙ is)).accepted

  pub loaded_grown : grown_of t.tree ≡ true
  loaded_grown = accepted_grown t loaded_accepted

  pub loaded_few : t.tree.splits ≤ most_splits
  loaded_few = grown_splits t.tree loaded_grown
