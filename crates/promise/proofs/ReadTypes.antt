-- The trainer that is read from any bytes, in any layout: its values are of their types, and what the layout does not write is what is
-- read in its place. Assumes nothing.
use mathlib.Core.Path.{◌≡◌, refl, sym, ap, subst, ◌∙◌}
use mathlib.Core.Bool.{Bool, true, false, cond}
use mathlib.Core.List.{List}
use Prim.Native.Nat.{ℕ, ◌+◌, ◌<◌}
use borrow.Author.Tests.{ltb-true, ltb-false}
use lib.Dec.{ltb}
use Rattle.std.proofs.lemmas.Bool.{or_right}
use Rattle.refusal.proofs.Guards.{either}
use Rattle.floats.proofs.Bits.{read_fits}
use Rattle.remy.specs.declared.action.Action.{Action}
use Rattle.remy.specs.Cube.{usual_ends}
use Rattle.rule_tree.specs.declared.Node.{Node}
use Rattle.rule_tree.specs.Nodes.{no_node, node_at_of, node_count, blank_node, action_in, node_holding}
use Rattle.rule_tree.proofs.Lists.{length_tabulate, get_d_tabulate}
use Rattle.rule_tree.proofs.Links.{grown_valid}
use Rattle.rule_tree.proofs.Plain.{ActionFits, PointFits}
use Rattle.trainer.specs.declared.Trainer.{Trainer}
use Rattle.trainer.specs.State.{accepted_of}
use Rattle.record.specs.declared.inner.layout.Layout.{Layout}
use Rattle.record.specs.Layout.{carries, given_action, list_place}
use Rattle.wire.specs.Fields.{action_at, flag_at, point_at}
use Rattle.record.specs.Read.{settings_at, link_of, payload_place, node_with, node_at_place, split_count, read_in}
use Rattle.record.proofs.Size.{carried}
use Rattle.record.proofs.Reading.{node_is, unused_is}
use Rattle.record.proofs.RoundTrip.{Carried}
use Rattle.record.proofs.BytesFit.{plain_fits, ends-fit}
use Rattle.promise.specs.Values.{FitAction}
use Rattle.promise.proofs.Unembed.{TrainerFits, accepted_grown}
use Rattle.promise.proofs.Fitting.{valid_fits}

-- ---- the node that is read at a place
abbrev carried_node : List ℕ → ℕ → ℕ → Node
carried_node bytes at c = node_holding (action_at bytes at) c (flag_at bytes (at + 20))

abbrev given_node_lem : Action → ℕ → Node
given_node_lem a c = node_holding a c false

-- a node that the layout does not carry is given the action a, unmarked
given_node :
    (lay : Layout) (a : Action) (bytes : List ℕ) (at c : ℕ) (x : Node) → x ≡ node_with lay a bytes at c → carries lay x.children ≡ false
    → x ≡ given_node_lem a x.children
given_node lay a bytes at c x q e = go (carries lay c) refl q
  where
    go : (z : Bool) → carries lay c ≡ z → x ≡ cond z (carried_node bytes at c) (given_node_lem a c) → x ≡ given_node_lem a x.children
    go true p q = cc
    go false p q = q ∙ ap (given_node_lem a) (sym (ap (λ (n : Node). n.children) q))

-- ---- what is read is of its types
action_typed : (bytes : List ℕ) (at : ℕ) → FitAction (action_at bytes at)
action_typed bytes at = record { multiplier = read_fits _; delay = read_fits _ }

-- a node's action stands at its place or, where the layout does not carry it, at the settings' default
node_action_typed :
    (lay : Layout) (bytes : List ℕ) (at c : ℕ) → FitAction (action_in (node_with lay (given_action (settings_at lay bytes 5)) bytes at c))
node_action_typed lay bytes at c = either (λ (x : Node). FitAction (action_in x)) (carries lay c) (action_typed bytes at) (action_typed bytes 98)

module _ (lay : Layout) (bytes : List ℕ) where
  abbrev read : Trainer
  read = read_in lay bytes

  abbrev count : ℕ
  count = split_count lay bytes

  abbrev given : Action
  given = given_action (settings_at lay bytes 5)

  abbrev place : ℕ → ℕ
  place i = payload_place lay bytes count i

  abbrev child : ℕ → ℕ
  child i = link_of bytes (list_place lay) count i

  read_used : (i : ℕ) → i < 513 → ltb i (node_count count) ≡ true → node_at_of read.tree.nodes i ≡ node_with lay given bytes (place i) (child i)
  read_used i l p =
      get_d_tabulate 513 i (node_at_place lay given bytes count) no_node l ∙ sym (node_is lay given bytes count i (ltb-true i (node_count count) p))

  read_unused : (i : ℕ) → i < 513 → ltb i (node_count count) ≡ false → node_at_of read.tree.nodes i ≡ blank_node
  read_unused i l p =
      get_d_tabulate 513 i (node_at_place lay given bytes count) no_node l ∙ unused_is lay given bytes count i (ltb-false i (node_count count) p)

  node_typed : accepted_of (read_in lay bytes) ≡ true → (i : ℕ) → i < 513 → ActionFits (action_in (node_at_of read.tree.nodes i))
  node_typed a i l = go (ltb i (node_count count)) refl
    where
      go : (y : Bool) → ltb i (node_count count) ≡ y → ActionFits (action_in (node_at_of read.tree.nodes i))
      go true p =
          valid_fits (action_in (node_at_of read.tree.nodes i)) (grown_valid read.tree (accepted_grown read a) i (ltb-true i (node_count count) p))
          (subst (λ (n : Node). FitAction (action_in n)) (sym (read_used i l p)) (node_action_typed lay bytes (place i) (child i)))
      go false p = subst (λ (n : Node). ActionFits (action_in n)) (sym (read_unused i l p)) plain_fits

  ends_typed : PointFits read.tree.ends
  ends_typed = either PointFits lay.ends (record { acks = read_fits _; sends = read_fits _; ratios = read_fits _ }) ends-fit

  pub read_typed : accepted_of (read_in lay bytes) ≡ true → TrainerFits (read_in lay bytes)
  read_typed a =
      record {
        sized = length_tabulate 513 (node_at_place lay given bytes count);
        nodes = node_typed a;
        ends = ends_typed;
        settings =
            record {
              least = action_typed bytes 18;
              most = action_typed bytes 38;
              initial = action_typed bytes 58;
              largest = action_typed bytes 78;
              default = action_typed bytes 98;
              ends = record { acks = ends_typed.acks; sends = ends_typed.sends; ratios = ends_typed.ratios };
            };
        best = read_fits _;
        score = read_fits _;
      }

  -- what the layout does not write is what is read in its place
  pub read_carried : Carried lay (read_in lay bytes)
  read_carried =
      record {
        parents = λ i l e. go i l e (ltb i (node_count count)) refl;
        ends = λ e. ap (λ (z : Bool). cond z (point_at bytes 118) usual_ends) e;
        box = refl;
      }
    where
      go :
          (i : ℕ) → i < 513 → carried lay read.tree.nodes i ≡ false → (y : Bool) → ltb i (node_count count) ≡ y
          → node_at_of read.tree.nodes i ≡ given_node_lem given (node_at_of read.tree.nodes i).children
      go i l e true p = given_node lay given bytes (place i) (child i) (node_at_of read.tree.nodes i) (read_used i l p) e
      go i l e false p =
          cc (or_right lay.parents true refl, ap (λ (n : Node). carries lay n.children) (sym (read_unused i l p)) ∙ e)
