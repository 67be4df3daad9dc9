-- The same over the trees of a training, as demand 3 has them: each ack is over any one of the trees on the way, which have the upper ends of the settings.
-- Assumes nothing.
use mathlib.Core.Path.{◌≡◌, refl, sym, ap, subst, ◌∙◌}
use mathlib.Core.Bool.{true}
use mathlib.Core.List.{List, [], ◌∷◌}
use Prim.Native.Nat.{ℕ}
use lib.ListN.{take}
use Rattle.remy.specs.declared.point.Point.{Point}
use Rattle.remy.specs.Cube.{point_equal}
use Rattle.remy.proofs.Ends.{ends_themselves}
use Rattle.rule_tree.specs.declared.RuleTree.{RuleTree}
use Rattle.rule_tree.specs.Grown.{grown_of}
use Rattle.rule_tree.proofs.Links.{grown_admitted}
use Rattle.trainer.specs.declared.settings.Settings.{Settings}
use Rattle.trainer.specs.Settings.{settings_hold}
use Rattle.sender.specs.declared.RepeatMode.TheVariants.{Off}
use Rattle.sender.specs.Sender.{fresh_sender}
use Rattle.sender.specs.SenderCall.{SenderCall, ack, send, tick, over}
use Rattle.promise.specs.PlainTrainer.{start, Call}
use Rattle.promise.specs.Values.{Every, FitSettings, FitCall}
use Rattle.promise.specs.SenderRuns.{sender_events}
use Rattle.promise.specs.Demand3.{tree_after, plain_tree_after, calls_over}
use Rattle.promise.proofs.TreeGrown.{grown_embeds}
use Rattle.promise.proofs.Demand3.{way_valid, way_alike}
use Rattle.chart_laws.specs.Chart.{ack_times, OnChart, AcksOver, GrownWith, NoAckRefused}
use Rattle.chart_laws.proofs.Boxes.{round_has, ends_stay}
use Rattle.chart_laws.proofs.Calls.{public_stays, times_over, none_over}

-- ---- the trees on the way
module _ (s : Settings) (h : settings_hold s ≡ true) (f : FitSettings s) (cs : List Call) (c : Every FitCall cs) (k : ℕ) where
  plain-ends : (plain_tree_after s cs k).ends ≡ s.ends
  plain-ends = ends_stay s.ends (start s) (take k cs) (round_has s.ends s _ 0 0 refl)

  way_grown : grown_of (tree_after s cs k) ≡ true
  way_grown = ap grown_of (way_alike s h f cs c k) ∙ grown_embeds (plain_tree_after s cs k) (way_valid s h f cs c k)

  way_ends : (tree_after s cs k).ends ≡ s.ends
  way_ends = ap (λ (t : RuleTree). t.ends) (way_alike s h f cs c k) ∙ plain-ends

  pub way_with : GrownWith s.ends (tree_after s cs k)
  way_with =
      let e = (tree_after s cs k).ends in
      record {
        grown = way_grown;
        same = ap (λ (x : Point). point_equal x e) (sym way_ends) ∙ ends_themselves e (grown_admitted (tree_after s cs k) way_grown);
      }

module _ (ends : Point) (trees : ℕ → RuleTree) (all : (k : ℕ) → GrownWith ends (trees k)) where
  all_with : (ws : List (SenderCall ℕ)) → AcksOver (GrownWith ends) (calls_over trees ws)
  unfolding over
  all_with [] = tt
  all_with (ack k sent received draw ∷ ws) = (all k, all_with ws)
  all_with (send at ∷ ws) = all_with ws
  all_with (tick ∷ ws) = all_with ws

  stays : (ws : List (SenderCall ℕ)) → OnChart ends (ack_times ws) → NoAckRefused ws (sender_events (fresh_sender Off) (calls_over trees ws))
  stays ws h =
      none_over trees ws (sender_events (fresh_sender Off) (calls_over trees ws))
      (public_stays ends (calls_over trees ws) (all_with ws) (subst (OnChart ends) (sym (times_over trees ws)) h))

pub way_stays : (s : Settings) → settings_hold s ≡ true → FitSettings s → (cs : List Call) → Every FitCall cs → (ws : List (SenderCall ℕ))
    → OnChart s.ends (ack_times ws) → NoAckRefused ws (sender_events (fresh_sender Off) (calls_over (tree_after s cs) ws))
way_stays s h f cs c ws o = stays s.ends (tree_after s cs) (way_with s h f cs c) ws o
