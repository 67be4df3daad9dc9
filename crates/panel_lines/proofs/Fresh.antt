-- 01's example: a fresh record and the count 5 are shown as `leaves 1 splits 0`, then `0 1000`. Assumes nothing.
use mathlib.Core.Path.{◌≡◌, refl, sym, ap, subst, ◌∙◌}
use mathlib.Core.Bool.{Bool, true, false, cond}
use mathlib.Core.List.{List, [], ◌∷◌, ◌++◌}
use Prim.Native.Nat.{ℕ, zero, suc, ◌^◌, ◌<◌, ◌≤◌}
use native.Mathlib.Omega.{arith}
use borrow.Author.Tests.{le-leb}
use lib.Dec.{ltb}
use lib.ListN.{length, drop, replicate, get_or-replicate}
use lib.Seq.{get_or-set_other}
use Rattle.std.specs.Prelude.{Ok}
use Rattle.remy.specs.declared.action.Action.{Action}
use Rattle.remy.specs.declared.point.Point.{Point}
use Rattle.rule_tree.specs.declared.Node.{Node}
use Rattle.rule_tree.specs.declared.RuleTree.{RuleTree}
use Rattle.rule_tree.specs.Lists.{all_below, count_below, tabulate, total}
use Rattle.rule_tree.specs.Nodes.{no_node, node_at_of, blank_node, leaf_with, action_in}
use Rattle.rule_tree.specs.Counts.{counts_hold}
use Rattle.rule_tree.specs.Change.{fresh_tree}
use Rattle.rule_tree.proofs.Changing.{fresh_length}
use Rattle.rule_tree.proofs.Plain.{ActionFits}
use Rattle.rule_tree_laws.proofs.Sound.{TreeFits}
use Rattle.trainer.specs.declared.settings.Settings.{Settings}
use Rattle.trainer.specs.Settings.{settings_hold}
use Rattle.trainer.specs.State.{stand}
use Rattle.trainer.specs.Phases.{begin_stage, begin_round}
use Rattle.trainer.specs.Calls.{started}
use Rattle.trainer.proofs.Accepting.{start_held}
use Rattle.wire.specs.Bytes.{bytes_of, value_from}
use Rattle.record.specs.Write.{record_of}
use Rattle.record.proofs.Stands.{SettingsFits}
use Rattle.record.proofs.RoundTrip.{TrainerFits}
use Rattle.record.proofs.BytesFit.{zero-fits, plain_fits}
use Rattle.panel_lines.specs.Shares.{share_among}
use Rattle.panel_lines.specs.Panel.{digits, leaf_lines, lines_of, counts_in, panel_of, out_after}
use Rattle.panel_lines.specs.Parts.{lines_after, counts_shown, counts_after}
use Rattle.panel_lines.proofs.Saved.{saved_shown, saved_after}

-- the bytes of "leaves 1 splits 0" and "0 1000", each with its line's end
pub example : List ℕ
example =
    108 ∷ 101 ∷ 97 ∷ 118 ∷ 101 ∷ 115 ∷ 32 ∷ 49 ∷ 32 ∷ 115 ∷ 112 ∷ 108 ∷ 105 ∷ 116 ∷ 115 ∷ 32 ∷ 48 ∷ 10 ∷
    48 ∷ 32 ∷ 49 ∷ 48 ∷ 48 ∷ 48 ∷ 10 ∷ []

-- ---- the values of a fresh trainer fit their types
module _ (s : Settings) (f : SettingsFits s) where
  abbrev tree : RuleTree
  tree = fresh_tree s.ends s.default_action

  tree_fits : TreeFits tree
  tree_fits = record {
    full = fresh_length s.ends s.default_action;
    ends = f.ends;
    actions = at;
  }
    where
      at : (i : ℕ) → i < 513 → ActionFits (action_in (node_at_of tree.nodes i))
      at zero l = f.default
      at (suc i) l =
          let e = get_or-set_other (replicate 513 blank_node) 0 (suc i) (leaf_with s.default_action) no_node (λ z. absurd (let q : suc i ≡ 0 = z in omega arith))
          ∙ get_or-replicate 513 (suc i) blank_node no_node l in
          subst (λ (x : Node). ActionFits (action_in x)) (sym e) plain_fits

  stand_fits : (phase stage round : ℕ) → stage < 2 ^ 32 → round < 2 ^ 32 → TrainerFits (stand s tree phase stage round)
  stand_fits phase stage round a b = record {
    settings = f;
    tree = tree_fits;
    stage = a;
    round = b;
    leaf = omega arith;
    best = zero-fits;
    k = omega arith;
    kept = omega arith;
    score = zero-fits;
  }

  started_fits : TrainerFits (started s)
  unfolding begin_round begin_stage
  started_fits = by (ltb 0 s.optimization_rounds_per_split) (ltb s.rule_splits 1)
    where
      by : (b d : Bool) → TrainerFits (cond b (stand s tree 3 0 0) (cond d (stand s tree 6 1 0) (stand s tree 1 1 0)))
      by true d = stand_fits 3 0 0 (omega arith) (omega arith)
      by false true = stand_fits 6 1 0 (omega arith) (omega arith)
      by false false = stand_fits 1 1 0 (omega arith) (omega arith)

  started_tree : (started s).tree ≡ tree
  unfolding begin_round begin_stage
  started_tree = by (ltb 0 s.optimization_rounds_per_split) (ltb s.rule_splits 1)
    where
      by : (b d : Bool) → (cond b (stand s tree 3 0 0) (cond d (stand s tree 6 1 0) (stand s tree 1 1 0))).tree ≡ tree
      by true d = refl
      by false true = refl
      by false false = refl

-- ---- what is shown of a fresh tree and the count 5
fresh_counts : counts_in (bytes_of 8 5) 1 ≡ 5 ∷ []
unfolding tabulate bytes_of value_from
fresh_counts = refl

fresh_holds : (e : Point) (a : Action) → counts_hold (fresh_tree e a) (5 ∷ []) ≡ true
unfolding counts_hold all_below total
fresh_holds e a = refl

fresh_lines : (e : Point) (a : Action) → lines_of (fresh_tree e a) (5 ∷ []) ≡ example
unfolding lines_of leaf_lines digits share_among total count_below example
fresh_lines e a = refl

fresh_shown : (e : Point) (a : Action) (out : List ℕ) → 25 ≤ length out → counts_shown (fresh_tree e a) (bytes_of 8 5) out ≡ Ok 25
unfolding counts_shown bytes_of example
fresh_shown e a out l = rw (fresh_counts, fresh_holds e a, fresh_lines e a, le-leb 25 (length out) l)

fresh_after : (e : Point) (a : Action) (out : List ℕ) → counts_after (fresh_tree e a) (bytes_of 8 5) out (Ok 25) ≡ example ++ drop 25 out
unfolding lines_after
fresh_after e a out = rw (fresh_counts, fresh_lines e a)

-- "Fresh record and count 5: `leaves 1 splits 0`, then `0 1000`"
pub fresh_panel : (s : Settings) → settings_hold s ≡ true → SettingsFits s → (out : List ℕ) → 25 ≤ length out
    → (panel_of (record_of (started s) ++ bytes_of 8 5) out ≡ Ok 25)
    × (out_after (record_of (started s) ++ bytes_of 8 5) out (Ok 25) ≡ example ++ drop 25 out)
fresh_panel s h f out l =
    let fits = started_fits s f in
    let held = (start_held s h).accepted in (
      saved_shown (started s) fits held (bytes_of 8 5) out
          ∙ ap (λ (t : RuleTree). counts_shown t (bytes_of 8 5) out) (started_tree s f) ∙ fresh_shown s.ends s.default_action out l,
      saved_after (started s) fits held (bytes_of 8 5) out (Ok 25)
          ∙ ap (λ (t : RuleTree). counts_after t (bytes_of 8 5) out (Ok 25)) (started_tree s f) ∙ fresh_after s.ends s.default_action out,
    )
