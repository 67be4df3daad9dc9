-- `share` meets its contract, way by way. Assumes nothing.
use native.Mathlib.Omega.{arith}
use Rattle.panel_lines.proofs.ShareWays.{product_fits, entry_ranked, share_more, share_cut, share_room}
use Rattle.panel_lines.proofs.inner.shares.Cut.share.Goals as goal

pub overflow_mul-cut : goal.overflow_mul-cut
overflow_mul-cut c = record { fits = product_fits _ _ _ c.args.self.counted.some.totalled }

pub rank_of-rank-requires : goal.rank_of-rank-requires
rank_of-rank-requires c =
    entry_ranked _ _ _ _ _ (record { counts = c.args.self.counted.some; left = c.args.self.left; lacking = c.args.self.lacking; inside = c.requires })

pub overflow_add-result : goal.overflow_add-result
overflow_add-result c =
    omega (arith, share_room c.args.self.counted.counts.now c.args.self.counted.all c.args.i c.args.self.counted.some.totalled)

pub returns-then-rank-self : goal.returns-then-rank-self
returns-then-rank-self c =
    share_more _ _ _ _ _ (record { counts = c.args.self.counted.some; left = c.args.self.left; lacking = c.args.self.lacking; inside = c.requires })
    _ c.rank_of-rank.ensures c.if-rank-self.true

pub returns : goal.returns
returns c =
    share_cut _ _ _ _ _ (record { counts = c.args.self.counted.some; left = c.args.self.left; lacking = c.args.self.lacking; inside = c.requires })
    _ c.rank_of-rank.ensures c.if-rank-self.false
