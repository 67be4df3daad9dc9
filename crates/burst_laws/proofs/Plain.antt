-- The burst equals the plain sender's reactions to its acks, over every tree on the way of a training. Assumes nothing.
use mathlib.Core.Path.{◌≡◌, refl, sym, ap, ◌∙◌}
use mathlib.Core.Bool.{true}
use mathlib.Core.List.{List, [], ◌∷◌, map-map}
use Prim.Native.Nat.{ℕ, zero, suc}
use lib.ListN.{length, take}
use Rattle.rule_tree.specs.declared.RuleTree.{RuleTree}
use Rattle.trainer.specs.declared.settings.Settings.{Settings}
use Rattle.trainer.specs.Settings.{settings_hold}
use Rattle.sender.specs.declared.Ack.{Ack}
use Rattle.sender.specs.declared.Sender.{Sender}
use Rattle.sender.specs.SenderCall.{SenderCall, over}
use Rattle.sender.specs.Burst.{course_of}
use Rattle.promise.specs.PlainTree.{Tree}
use Rattle.promise.specs.PlainTrainer.{Call}
use Rattle.promise.specs.PlainSender.{state_of}
use Rattle.promise.specs.SenderRuns.{SenderEvent, sender_events, sender_end, plain_start, plain_sender_events, plain_sender_end}
use Rattle.promise.specs.Values.{Every, FitSettings, FitCall}
use Rattle.promise.specs.Demand3.{Demand3, tree_after, plain_tree_after, calls_over}
use Rattle.promise.proofs.Demand3.{demand_3}
use Rattle.burst_laws.specs.Bursts.{ack_call, ack_calls, first_refusal, flags_of, plain_reactions, until_refused, windows_of, BurstHolds}
use Rattle.burst_laws.proofs.Calls.{course_calls}

-- the first n calls are those of the first n acks
take_calls : {T : Type 0} (t : T) (n : ℕ) (xs : List Ack) → take n (ack_calls t xs) ≡ ack_calls t (take n xs)
take_calls t zero xs = refl
take_calls t (suc n) [] = refl
take_calls {T} t (suc n) (x ∷ xs) = ap (λ (cs : List (SenderCall T)). ack_call t x ∷ cs) (take_calls t n xs)

-- the acks over the tree that k stands for
calls_over_lem : {T : Type 0} (trees : ℕ → T) (k : ℕ) (xs : List Ack) → calls_over trees (ack_calls k xs) ≡ ack_calls (trees k) xs
unfolding over
calls_over_lem trees k xs = map-map (over trees) (ack_call k) xs

-- what demand 3 says of these lists
module _ (s : Settings) (cs : List Call) (d : Demand3 s cs) (k : ℕ) (start : Sender) (xs : List Ack) where
  abbrev t : RuleTree
  t = tree_after s cs k

  abbrev u : Tree
  u = plain_tree_after s cs k

  reactions : sender_events start (ack_calls t xs) ≡ plain_reactions u start xs
  reactions =
      ap (sender_events start) (sym (calls_over_lem (tree_after s cs) k xs)) ∙ d.senders start (ack_calls k xs)
      ∙ ap (plain_sender_events (plain_start start)) (calls_over_lem (plain_tree_after s cs) k xs)

  leaves : (n : ℕ) → sender_end start (take n (ack_calls t xs)) ≡ state_of (plain_sender_end (plain_start start) (take n (ack_calls u xs)))
  leaves n =
      let ys = take n xs in
      ap (sender_end start) (take_calls t n xs ∙ sym (calls_over_lem (tree_after s cs) k ys)) ∙ d.left start (ack_calls k ys)
      ∙ ap (λ (ws : List (SenderCall Tree)). state_of (plain_sender_end (plain_start start) ws))
      (calls_over_lem (plain_tree_after s cs) k ys ∙ sym (take_calls u n xs))

  holds : BurstHolds t u start xs
  holds =
      let c = course_calls t start xs in
      record {
        windows = c.windows ∙ ap (λ (es : List SenderEvent). windows_of (until_refused es)) reactions;
        flags = c.flags ∙ ap (λ (es : List SenderEvent). flags_of (until_refused es)) reactions;
        stopped = c.stopped ∙ ap first_refusal reactions;
        sender = c.sender ∙ leaves (length (course_of t start xs).windows);
      }

pub burst_plain : (s : Settings) → settings_hold s ≡ true → FitSettings s → (cs : List Call) → Every FitCall cs
    → (k : ℕ) (start : Sender) (xs : List Ack) → BurstHolds (tree_after s cs k) (plain_tree_after s cs k) start xs
burst_plain s h f cs c k start xs = holds s cs (demand_3 s h f cs c) k start xs
