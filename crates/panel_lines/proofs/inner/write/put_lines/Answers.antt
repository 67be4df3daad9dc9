-- `panel_lines::inner::write::put_lines` meets its contract. Assumes nothing.
use Rattle.panel_lines.proofs.Lines as law
use Rattle.panel_lines.proofs.Taken as taken
use mathlib.Core.Path.{sym, ap, ◌∙◌}
use native.Mathlib.Omega.{arith}
use lib.ListN.{length}
use Rattle.rule_tree.proofs.Lists.{length_tabulate}
use Rattle.rule_tree.proofs.Counting.{counts_accepted}
use Rattle.panel_lines.specs.Shares.{share_in}
use borrow.Author.Rules.{rules}
use Rattle.panel_lines.proofs.inner.write.put_lines.Goals as goal

pub shares_of-shares-requires : goal.shares_of-shares-requires
shares_of-shares-requires c =
    taken.counts_totalled c.args.t.now c.args.counts.now c.requires.taken c.args.all c.requires.few c.requires.sum

pub put_first-at-requires : goal.put_first-at-requires
put_first-at-requires c =
    omega (arith, c.requires.room, law.lines_length c.args.t.now c.args.counts.now)

pub slice_bounds-shares-end : goal.slice_bounds-shares-end
slice_bounds-shares-end c =
    let l = (taken.counts_totalled c.args.t.now c.args.counts.now c.requires.taken c.args.all c.requires.few c.requires.sum).few in
    search rules

pub slice_bounds-put_leaves-end : goal.slice_bounds-put_leaves-end
slice_bounds-put_leaves-end c =
    sym (ap length c.shares_of-shares.ensures ∙ length_tabulate (length c.args.counts.now) (share_in c.args.counts.now))

pub put_leaves-requires : goal.put_leaves-requires
put_leaves-requires c =
    let f = c.put_first-at in
    let q = c.shares_of-shares in
    let e = q.ensures in
    let k = taken.listed_lines c.args.t.now c.args.counts.now c.requires.taken e in
    record {
      few = c.requires.few;
      one_a_node = ap length e ∙ length_tabulate (length c.args.counts.now) (share_in c.args.counts.now) ∙ (counts_accepted c.args.t.now c.args.counts.now c.requires.taken).one_a_node;
      room = omega (arith, c.requires.room, law.lines_length c.args.t.now c.args.counts.now, f.ensures.place, f.auto.buf, ap length k);
    }

pub returns : goal.returns
returns c =
    let q = c.shares_of-shares in
    let e = q.ensures in
    law.lines_written c.args.t.now c.args.counts.now (taken.listed_lines c.args.t.now c.args.counts.now c.requires.taken e)
    c.put_first-at.ensures c.put_leaves.ensures
