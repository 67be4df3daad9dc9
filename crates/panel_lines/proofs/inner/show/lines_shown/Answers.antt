-- `lines_shown` meets its contract. Assumes nothing.
use Rattle.panel_lines.proofs.Ways as law
use Rattle.panel_lines.proofs.Room.{lines_fit}
use native.Mathlib.Omega.{arith}
use mathlib.Core.Path.{sym, ap, ◌∙◌}
use Prim.Native.Nat.{ℕ}
use lib.ListN.{replicate, length-replicate}
use lib.Seq.{sets, length-take-le}
use Rattle.panel_lines.proofs.inner.show.lines_shown.Goals as goal

pub returns-then-not-counts_hold : goal.returns-then-not-counts_hold
returns-then-not-counts_hold c =
    law.shown_bad c.args.t.now c.args.xs.now c.args.out.now (sym c.counts_hold.ensures ∙ c.if-not-counts_hold.true)

pub put_lines-size-requires : goal.put_lines-size-requires
put_lines-size-requires c =
    law.lines_taken c.args.t.now c.args.xs.now _ _ c.requires (sym c.counts_hold.ensures ∙ c.if-not-counts_hold.false) c.capped_total-all.ensures
    (omega (arith, length-replicate {A = ℕ} 8192 0))

pub returns-then-size-out : goal.returns-then-size-out
returns-then-size-out c =
    law.shown_short c.args.t.now c.args.xs.now c.args.out.now (sym c.counts_hold.ensures ∙ c.if-not-counts_hold.false) {l = replicate 8192 0}
    c.put_lines-size.ensures c.if-size-out.true

pub slice_bounds-buf-end : goal.slice_bounds-buf-end
slice_bounds-buf-end c =
    omega (arith, lines_fit c.args.t.now c.args.xs.now c.requires, c.put_lines-size.ensures.place, c.put_lines-size.auto.buf)

pub slice_bounds-put-end : goal.slice_bounds-put-end
slice_bounds-put-end c =
    sym (length-take-le c.put_lines-size.result c.put_lines-size.new.buf
    (omega (arith, lines_fit c.args.t.now c.args.xs.now c.requires, c.put_lines-size.ensures.place, c.put_lines-size.auto.buf)))

pub returns : goal.returns
returns c =
    let h = sym c.counts_hold.ensures ∙ c.if-not-counts_hold.false in
    let w = c.put_lines-size.ensures in
    let f = law.first_bytes c.args.t.now c.args.xs.now c.args.out.now h {l = replicate 8192 0} w (omega (arith, length-replicate {A = ℕ} 8192 0, lines_fit c.args.t.now c.args.xs.now c.requires, w.place)) in
    law.shown_taken c.args.t.now c.args.xs.now c.args.out.now h {l = replicate 8192 0} w c.if-size-out.false
    (c.put.ensures.stored ∙ ap (sets c.args.out.now 0) f)
