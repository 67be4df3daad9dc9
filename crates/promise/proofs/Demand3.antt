-- Demand 3, whole: over every list of calls to a trainer that starts fresh, and every list of calls to a sender over its trees.
-- Assumes nothing.
use mathlib.Core.Path.{◌≡◌, sym, ap, subst, ◌∙◌}
use mathlib.Core.Bool.{true}
use mathlib.Core.List.{List}
use Prim.Native.Nat.{ℕ}
use lib.ListN.{take}
use Rattle.rule_tree.specs.declared.RuleTree.{RuleTree}
use Rattle.trainer.specs.declared.settings.Settings.{Settings}
use Rattle.trainer.specs.declared.Trainer.{Trainer}
use Rattle.trainer.specs.Settings.{settings_hold}
use Rattle.trainer.specs.Calls.{started, question_of}
use Rattle.record.specs.Write.{record_of}
use Rattle.promise.specs.PlainTrainer.{Call, start}
use Rattle.promise.specs.Values.{Every, FitSettings, FitCall}
use Rattle.promise.specs.Demand3.{events_of, end_of, plain_end_of, tree_after, plain_tree_after, Parted, SameTree, Demand3}
use Rattle.promise.proofs.Embed.{embed_tree, ValidTree}
use Rattle.promise.proofs.States.{embed}
use Rattle.promise.proofs.Accepted.{tree_of}
use Rattle.promise.proofs.Begins.{start_embeds, start_valid}
use Rattle.promise.proofs.Questions.{question_embeds}
use Rattle.promise.proofs.Records.{record_embeds}
use Rattle.promise.proofs.Fitting.{every_take, point-fits, start_fits}
use Rattle.promise.proofs.Runs.{events_embed, end_embeds, end_valid, starts_taken}
use Rattle.promise.proofs.Ways.{tree_parted, tree_same, way_events, way_left, way_ack, way_unmoved, way_send, way_tick}

module _ (s : Settings) (h : settings_hold s ≡ true) (f : FitSettings s) (cs : List Call) (c : Every FitCall cs) where
  ends_alike : (ds : List Call) → Every FitCall ds → end_of (started s) ds ≡ embed (plain_end_of (start s) ds)
  ends_alike ds d = ap (λ (t : Trainer). end_of t ds) (sym (start_embeds s)) ∙ end_embeds (start s) ds (start_valid s h (point-fits f.ends)) (start_fits s h f) d

  -- each tree on the way is the one that the plain trainer's stands for
  pub way_valid : (k : ℕ) → ValidTree (plain_tree_after s cs k)
  way_valid k = (end_valid (start s) (take k cs) (start_valid s h (point-fits f.ends)) (every_take FitCall k cs c)).tree

  pub way_alike : (k : ℕ) → tree_after s cs k ≡ embed_tree (plain_tree_after s cs k)
  way_alike k =
      let st = plain_end_of (start s) (take k cs) in
      ap (λ (t : Trainer). t.tree) (ends_alike (take k cs) (every_take FitCall k cs c))
      ∙ tree_of st.settings (embed_tree st.tree) st.stage st.round st.phase

pub demand_3 : (s : Settings) → settings_hold s ≡ true → FitSettings s → (cs : List Call) → Every FitCall cs → Demand3 s cs
demand_3 s h f cs c =
    let alike = way_alike s h f cs c in
    let valid = way_valid s h f cs c in
    record {
      starts = starts_taken s h;
      asks = ap question_of (sym (start_embeds s)) ∙ question_embeds (start s) (start_valid s h (point-fits f.ends));
      events = ap (λ (t : Trainer). events_of t cs) (sym (start_embeds s)) ∙ events_embed (start s) cs (start_valid s h (point-fits f.ends)) (start_fits s h f) c;
      final = ap record_of (ends_alike s h f cs c cs c) ∙ record_embeds (plain_end_of (start s) cs) (end_valid (start s) cs (start_valid s h (point-fits f.ends)) c);
      trees = λ k p. subst (λ (t : RuleTree). Parted t p) (sym (alike k)) (tree_parted (plain_tree_after s cs k) (valid k) p);
      same = λ k. subst (λ (t : RuleTree). SameTree t (plain_tree_after s cs k)) (sym (alike k)) (tree_same (plain_tree_after s cs k) (valid k));
      senders = way_events (tree_after s cs) (plain_tree_after s cs) alike valid;
      left = way_left (tree_after s cs) (plain_tree_after s cs) alike valid;
      acks = way_ack (tree_after s cs) (plain_tree_after s cs) alike valid;
      unmoved = way_unmoved (tree_after s cs) (plain_tree_after s cs) alike valid;
      sends = way_send (tree_after s cs) (plain_tree_after s cs) alike valid;
      ticks = way_tick (tree_after s cs) (plain_tree_after s cs) alike valid;
    }
