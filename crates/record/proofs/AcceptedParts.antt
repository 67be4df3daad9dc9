-- The test of a record's bytes as the facts that it is made of. Assumes nothing.
use mathlib.Core.Path.{◌≡◌}
use mathlib.Core.Bool.{true}
use mathlib.Core.List.{List}
use Prim.Native.Nat.{ℕ, ◌≤◌}
use borrow.Author.Tests.{eq-eqb, eqb-true, le-leb, leb-true}
use lib.Dec.{leb}
use lib.ListN.{length}
use Rattle.rule_tree.proofs.Plain.{and_l, and_r}
use Rattle.trainer.specs.Settings.{settings_hold}
use Rattle.record.specs.declared.inner.layout.Layout.{Layout}
use Rattle.record.specs.Layout.{state_place, size_in}
use Rattle.record.specs.Read.{settings_at}
use Rattle.record.specs.Accepted.{flag_accepted, size_accepted, settings_accepted, splits_accepted, nodes_accepted, state_accepted, accepted_in}

pub record Accepted (lay : Layout) (bytes : List ℕ) (s : ℕ) : Type 0 where
  pub few : s ≤ 64
  pub size : length bytes ≡ size_in lay s
  pub settings : settings_hold (settings_at lay bytes 5) ≡ true
  pub drill : flag_accepted bytes 17 ≡ true
  pub splits : splits_accepted lay bytes s ≡ true
  pub nodes : nodes_accepted lay bytes s ≡ true
  pub state : state_accepted lay bytes s (state_place lay s) ≡ true

pub accepted_parts : (lay : Layout) (bytes : List ℕ) (s : ℕ) → accepted_in lay bytes s ≡ true → Accepted lay bytes s
unfolding accepted_in size_accepted settings_accepted
accepted_parts lay bytes s h =
    let a = and_l (size_accepted lay bytes s) _ h in
    let r1 = and_r (size_accepted lay bytes s) _ h in
    let b = and_l (settings_accepted lay bytes) _ r1 in
    let r2 = and_r (settings_accepted lay bytes) _ r1 in
    let r3 = and_r (splits_accepted lay bytes s) _ r2 in
    record {
      few = leb-true s 64 (and_l (leb s 64) _ a);
      size = eqb-true (length bytes) (size_in lay s) (and_r (leb s 64) _ a);
      settings = and_l (settings_hold (settings_at lay bytes 5)) _ b;
      drill = and_r (settings_hold (settings_at lay bytes 5)) _ b;
      splits = and_l (splits_accepted lay bytes s) _ r2;
      nodes = and_l (nodes_accepted lay bytes s) _ r3;
      state = and_r (nodes_accepted lay bytes s) _ r3;
    }

pub parts_accepted : (lay : Layout) (bytes : List ℕ) (s : ℕ) → Accepted lay bytes s → accepted_in lay bytes s ≡ true
unfolding accepted_in size_accepted settings_accepted
parts_accepted lay bytes s h =
    rw (le-leb s 64 h.few, eq-eqb (length bytes) (size_in lay s) h.size, h.settings, h.drill, h.splits, h.nodes, h.state)
