-- 02, request 5: "keepers now expect the column to close at 1000". The shares of counts that a tree's test takes. Assumes nothing.
use mathlib.Core.Path.{◌≡◌, sym, ap, subst, ◌∙◌}
use mathlib.Core.Bool.{Bool, true, false, cond}
use mathlib.Core.Logic.{⊎_elim, ◌⊎◌}
use mathlib.Core.List.{List}
use Prim.Native.Nat.{ℕ, ◌+◌, ◌<◌, ◌≤◌}
use native.Mathlib.Omega.{arith}
use lib.ListN.{length, get_or, get_or-eq_default}
use Rattle.rule_tree.specs.declared.RuleTree.{RuleTree}
use Rattle.rule_tree.specs.Lists.{tabulate, total}
use Rattle.rule_tree.specs.Nodes.{is_leaf_of, node_count}
use Rattle.rule_tree.specs.Counts.{counts_hold}
use Rattle.rule_tree.proofs.Lists.{get_d_tabulate}
use Rattle.rule_tree.proofs.Counting.{counts_accepted}
use Rattle.rule_tree.proofs.Owners.{below_or_not}
use Rattle.panel_lines.specs.Shares.{sum_below, cut_at, share_in, Totalled}
use Rattle.panel_lines.specs.Panel.{leaf_lines, share_of}
use Rattle.panel_lines.specs.Parts.{listed}
use Rattle.panel_lines.proofs.Sums.{sum_member}
use Rattle.panel_lines.proofs.Cuts.{count_below_lem}
use Rattle.panel_lines.proofs.Shares as shares
use Rattle.panel_lines.proofs.Lines.{lines_same}

module _ (t : RuleTree) (xs : List ℕ) (h : counts_hold t xs ≡ true) where
  at_parents : (i : ℕ) → is_leaf_of t.nodes i ≡ false → get_or xs i 0 ≡ 0
  at_parents i e =
      ⊎_elim (λ (l : i < length xs). (counts_accepted t xs h).none_at_a_parent i l e) (λ (l : length xs ≤ i). get_or-eq_default xs 0 l)
      (below_or_not i (length xs))

  -- ---- what the code is handed, and what it lists
  pub counts_totalled : (all : ℕ) → t.splits ≤ 64 → all ≡ total xs → Totalled xs all
  counts_totalled all l e = let a = counts_accepted t xs h in record { few = omega (arith, a.one_a_node); sum = e; held = omega (arith, a.total_held) }

  pub listed_lines : {ys : List ℕ} → ys ≡ tabulate (length xs) (share_in xs) → leaf_lines t.nodes (listed ys) (node_count t.splits) ≡ leaf_lines t.nodes (share_of t xs) (node_count t.splits)
  listed_lines {ys} e =
      lines_same t.nodes (listed ys) (share_of t xs) (node_count t.splits)
      (λ i l.
      ap (λ (zs : List ℕ). get_or zs i 0) e ∙ get_d_tabulate (length xs) i (share_in xs) 0 (omega (arith, (counts_accepted t xs h).one_a_node))
      ∙ sym (shares.among_leaves (is_leaf_of t.nodes) xs at_parents i))

  -- ---- the promises
  -- "the column to close at 1000"
  pub shares_add_up : 0 < total xs → sum_below (length xs) (λ i. cond (is_leaf_of t.nodes i) (share_of t xs i) 0) ≡ 1000
  shares_add_up l = shares.shares_whole xs l (is_leaf_of t.nodes) at_parents

  -- "Each share is cut to whole as before. The thousandths missing go one each"
  pub cut_or_one_more : 0 < total xs → (i : ℕ) → (share_of t xs i ≡ cut_at xs i) ⊎ (share_of t xs i ≡ cut_at xs i + 1)
  cut_or_one_more l i = shares.cut_or_one_more xs l (is_leaf_of t.nodes) i

  counted : (j : ℕ) → 0 < get_or xs j 0 → 0 < total xs
  counted j p = omega (arith, count_below_lem xs j)

  -- a greater count never has a smaller share
  pub greater_never_less : (i j : ℕ) → j < length xs → get_or xs i 0 < get_or xs j 0 → share_of t xs i ≤ share_of t xs j
  greater_never_less i j l p = shares.shares_rise xs (counted j (omega arith)) (is_leaf_of t.nodes) at_parents i j l p

  -- "ties to the lower node": of like counts the lower node never has the smaller share
  pub lower_never_less : 0 < total xs → (i j : ℕ) → j < length xs → get_or xs i 0 ≡ get_or xs j 0 → j < i → share_of t xs i ≤ share_of t xs j
  lower_never_less l i j = shares.shares_tie xs l (is_leaf_of t.nodes) at_parents i j

  -- "With total 0 all remain 0"
  pub none_of_nothing : total xs ≡ 0 → (i : ℕ) → share_of t xs i ≡ 0
  none_of_nothing e i = shares.share_of_nothing (is_leaf_of t.nodes) xs i e

  -- a leaf that was not used has none
  pub unused_has_none : (i : ℕ) → get_or xs i 0 ≡ 0 → share_of t xs i ≡ 0
  unused_has_none i e = shares.among_leaves (is_leaf_of t.nodes) xs at_parents i ∙ shares.none_of_none xs i e

  leaf_part : (i : ℕ) → is_leaf_of t.nodes i ≡ true → cond (is_leaf_of t.nodes i) (share_of t xs i) 0 ≡ share_of t xs i
  leaf_part i e = rw e

  pub share_most : (i : ℕ) → i < length xs → is_leaf_of t.nodes i ≡ true → share_of t xs i ≤ 1000
  share_most i l e =
      ⊎_elim
      (λ (p : 0 < total xs). omega (arith, leaf_part i e, shares_add_up p, sum_member (length xs) i (λ j. cond (is_leaf_of t.nodes j) (share_of t xs j) 0) l))
      (λ (p : total xs ≤ 0). omega (arith, none_of_nothing (omega arith) i))
      (below_or_not 0 (total xs))

  -- one leaf has all
  pub one_leaf : t.splits ≡ 0 → 0 < total xs → share_of t xs 0 ≡ 1000
  unfolding sum_below
  one_leaf s l =
      let one : length xs ≡ 1 = omega (arith, (counts_accepted t xs h).one_a_node) in
      by (is_leaf_of t.nodes 0) (subst (λ (n : ℕ). sum_below n (λ i. cond (is_leaf_of t.nodes i) (share_of t xs i) 0) ≡ 1000) one (shares_add_up l))
    where
      by : (b : Bool) → cond b (share_of t xs 0) 0 + 0 ≡ 1000 → share_of t xs 0 ≡ 1000
      by true e = omega arith
      by false e = absurd (omega arith)
