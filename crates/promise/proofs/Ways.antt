-- The trees that valid plain trees stand for are parted by their leaves, and what senders do over them is what plain senders do.
-- Assumes nothing.
use mathlib.Core.Path.{◌≡◌, refl, sym, ap, subst, ◌∙◌}
use mathlib.Core.Bool.{true, false}
use mathlib.Core.List.{List, [], ◌∷◌, ◌++◌}
use Prim.Native.Nat.{ℕ}
use borrow.Author.Tests.{lt-ltb, ltb-true}
use lib.Dec.{ltb}
use lib.ListN.{length}
use lib.Ieee.{Float}
use Rattle.std.specs.Prelude.{Option}
use Rattle.std.proofs.lemmas.Bool.{and_parts}
use Rattle.std.proofs.lemmas.List.{map-append}
use Rattle.remy.specs.declared.point.Point.{Point}
use Rattle.remy.specs.declared.cube.Cube.{Cube}
use Rattle.remy.specs.Cube.{root_of, contains_of}
use Rattle.rule_tree.specs.declared.RuleTree.{RuleTree}
use Rattle.rule_tree.specs.Nodes.{node_count, is_leaf_of, action_in}
use Rattle.rule_tree.specs.Grown.{grown_of}
use Rattle.rule_tree.specs.Cubes.{cube_at, cube_of}
use Rattle.rule_tree.specs.Walk.{leaf_of}
use Rattle.rule_tree.proofs.Plain.{PointFits}
use Rattle.rule_tree_laws.proofs.Partition.{grown_one_leaf, grown_none, lookup_found, lookup_nothing}
use Rattle.sender.specs.declared.Sender.{Sender}
use Rattle.sender.specs.SenderCall.{SenderCall, ack, send, tick, over}
use Rattle.promise.specs.PlainTree.{Tree}
use Rattle.promise.specs.PlainSender.{PlainSender, state_of, react}
use Rattle.promise.specs.SenderRuns.{SenderStep, sender_events, sender_end, plain_start, plain_sender_events, plain_sender_end}
use Rattle.promise.specs.Demand3.{InLeaf, InNoLeaf, Parted, SameTree, calls_over, sender_before, one_more_of, AckHolds, SendHolds, TickHolds, Passing, Unmoved}
use Rattle.promise.proofs.Embed.{embed_tree, ValidTree, leaf_below, embed_length}
use Rattle.promise.proofs.TreeGrown.{grown_embeds}
use Rattle.promise.proofs.TreeKeeps.{leaf_embeds, leaf_node_lem}
use Rattle.promise.proofs.SenderLeaf.{cube_embeds}
use Rattle.promise.proofs.SenderSteps.{plain_step}
use Rattle.promise.proofs.SenderRun.{embed_calls, AckOver, Over, sender_agrees, next_step}
use Rattle.promise.proofs.SenderAck.{plain_ack, plain_send, plain_tick, refused_unmoved, send_unmoved, tick_unmoved}

-- ---- trees
root_box : (t : RuleTree) → cube_of t 0 ≡ root_of t.ends
unfolding cube_at
root_box t = refl

module _ (t : RuleTree) (g : grown_of t ≡ true) (n : length t.nodes ≡ 513) (f : PointFits t.ends) (p : Point) where
  pub in_leaf : contains_of (root_of t.ends) p ≡ true → InLeaf t p (leaf_of t p)
  in_leaf e =
      let o = grown_one_leaf t g n f p e in
      record {
        leaf = rw (lt-ltb (leaf_of t p) (node_count t.splits) o.node) o.leaf;
        inside = o.inside;
        only = λ j l c.
            let p = and_parts (ltb j (node_count t.splits)) (is_leaf_of t.nodes j) l in
            o.only j (ltb-true j (node_count t.splits) p.0) p.1 c;
        found = lookup_found t g n f p e;
      }

  pub in_no_leaf : contains_of (root_of t.ends) p ≡ false → InNoLeaf t p
  in_no_leaf e =
      record {
        none = λ j l. (grown_none t g n f p e).none j (ltb-true j (node_count t.splits) (and_parts (ltb j (node_count t.splits)) (is_leaf_of t.nodes j) l).0);
        nothing = lookup_nothing t g n f p e;
      }

  grown_parted : Parted t p
  grown_parted =
      let b : contains_of (cube_of t 0) p ≡ contains_of (root_of t.ends) p = ap (λ (c : Cube). contains_of c p) (root_box t) in
      record { inside = λ e. (leaf_of t p, in_leaf (sym b ∙ e)); outside = λ e. in_no_leaf (sym b ∙ e) }

pub tree_parted : (t : Tree) → ValidTree t → (p : Point) → Parted (embed_tree t) p
tree_parted t v p = grown_parted (embed_tree t) (grown_embeds t v) (embed_length t) v.floats p

pub tree_same : (t : Tree) → ValidTree t → SameTree (embed_tree t) t
tree_same t v =
    record {
      box = root_box (embed_tree t);
      leaf = leaf_embeds t v;
      cube = λ i l. sym (cube_embeds t v i (leaf_below t i l));
      action = λ i l. ap action_in (leaf_node_lem t v i l);
    }

-- ---- senders
end_more : (cs : List (SenderCall Tree)) (c : SenderCall Tree) (s : PlainSender) → plain_sender_end s (cs ++ (c ∷ [])) ≡ (react (plain_sender_end s cs) c).sender
unfolding plain_sender_end
end_more [] c s = refl
end_more (x ∷ xs) c s = end_more xs c (react s x).sender

-- over trees that valid plain trees stand for
module _ (trees : ℕ → RuleTree) (plains : ℕ → Tree) (alike : (k : ℕ) → trees k ≡ embed_tree (plains k)) (valid : (k : ℕ) → ValidTree (plains k)) where
  call_over : (w : SenderCall ℕ) → AckOver ValidTree (over plains w)
  unfolding over
  call_over (ack k sent received draw) = valid k
  call_over (send at) = tt
  call_over tick = tt

  calls_over_lem : (ws : List (SenderCall ℕ)) → Over ValidTree (calls_over plains ws)
  calls_over_lem [] = tt
  calls_over_lem (w ∷ ws) = (call_over w, calls_over_lem ws)

  call_embeds : (w : SenderCall ℕ) → over trees w ≡ over embed_tree (over plains w)
  unfolding over
  call_embeds (ack k sent received draw) = ap (λ (t : RuleTree). ack t sent received draw) (alike k)
  call_embeds (send at) = refl
  call_embeds tick = refl

  calls_embed : (ws : List (SenderCall ℕ)) → calls_over trees ws ≡ embed_calls (calls_over plains ws)
  calls_embed [] = refl
  calls_embed (w ∷ ws) = rw (call_embeds w, calls_embed ws)

  module _ (start : Sender) (ws : List (SenderCall ℕ)) where
    pub way_events : sender_events start (calls_over trees ws) ≡ plain_sender_events (plain_start start) (calls_over plains ws)
    way_events = ap (sender_events start) (calls_embed ws) ∙ (sender_agrees start (calls_over plains ws) (calls_over_lem ws)).0

    pub way_left : sender_end start (calls_over trees ws) ≡ state_of (sender_before plains start ws)
    way_left = ap (sender_end start) (calls_embed ws) ∙ (sender_agrees start (calls_over plains ws) (calls_over_lem ws)).1

    -- one more call
    one_more : (w : SenderCall ℕ) → plain_step (react (sender_before plains start ws) (over plains w)) ≡ one_more_of trees start ws w
    one_more w =
        sym (rw (calls_embed ws, call_embeds w) (next_step start (calls_over plains ws) (calls_over_lem ws) (over plains w) (call_over w)))

    pub way_ack :
        (k : ℕ) (sent received : Float) (draw : Option ℕ)
        → AckHolds (sender_before plains start ws) (plains k) sent received draw (one_more_of trees start ws (ack k sent received draw))
    unfolding over
    way_ack k sent received draw =
        subst (AckHolds (sender_before plains start ws) (plains k) sent received draw) (one_more (ack k sent received draw))
        (plain_ack (sender_before plains start ws) (plains k) sent received draw (valid k))

    pub way_send : (at : Float) → SendHolds at (one_more_of trees start ws (send at))
    unfolding over
    way_send at = subst (SendHolds at) (one_more (send at)) (plain_send (sender_before plains start ws) at)

    pub way_tick : TickHolds (sender_before plains start ws) (one_more_of trees start ws tick)
    unfolding over
    way_tick = subst (TickHolds (sender_before plains start ws)) (one_more tick) (plain_tick (sender_before plains start ws))

    -- one call more on the plain side
    before_more : (w : SenderCall ℕ) → (react (sender_before plains start ws) (over plains w)).sender ≡ sender_before plains start (ws ++ (w ∷ []))
    before_more w = sym (ap (plain_sender_end (plain_start start)) (map-append (over plains) ws (w ∷ [])) ∙ end_more (calls_over plains ws) (over plains w) (plain_start start))

    passing-unmoved :
        (w : SenderCall ℕ) → Passing w (one_more_of trees start ws w)
        → Unmoved (sender_before plains start ws) (react (sender_before plains start ws) (over plains w)).sender
    unfolding over
    passing-unmoved (ack k sent received draw) n =
        refused_unmoved (sender_before plains start ws) (ack (plains k) sent received draw)
        (λ z. n (sym (ap (λ (o : SenderStep). o.event.refused) (one_more (ack k sent received draw))) ∙ z))
    passing-unmoved (send at) n = send_unmoved (sender_before plains start ws) at
    passing-unmoved tick n = tick_unmoved (sender_before plains start ws)

    pub way_unmoved :
        (w : SenderCall ℕ) → Passing w (one_more_of trees start ws w)
        → Unmoved (sender_before plains start ws) (sender_before plains start (ws ++ (w ∷ [])))
    way_unmoved w n = subst (Unmoved (sender_before plains start ws)) (before_more w) (passing-unmoved w n)
