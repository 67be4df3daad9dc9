-- The call of each code, none of its words cut off.
use mathlib.Core.Path.{◌∙◌}
use Rattle.runs.proofs.Reading as law
use Rattle.runs.proofs.script.call_of.Goals as goal

pub returns-in_ok-counts-in-1 : goal.returns-in_ok-counts-in-1
returns-in_ok-counts-in-1 c = let p = c.in_ok-counts-in-1.ensures in law.counts_first c.args.code c.args.ws.now c.in-1.is p.0 p.1 p.2

pub returns-in_ok-after-in-2 : goal.returns-in_ok-after-in-2
returns-in_ok-after-in-2 c = let p = c.in_ok-after-in-2.ensures in rw c.float.ensures (law.score_first c.args.code c.args.ws.now c.in-2.is p.1 p.0)

pub returns-in_ok-of-in-3 : goal.returns-in_ok-of-in-3
returns-in_ok-of-in-3 c = let p = c.in_ok-bytes-in-3.ensures in let q = c.in_ok-of-in-3.ensures in law.reload_first c.args.code c.args.ws.now c.in-3.is (q.0 ∙ p.0) c.in_ok-of-in-3.field-0.few p.1 p.2

pub returns-in_ok-after-in-4 : goal.returns-in_ok-after-in-4
returns-in_ok-after-in-4 c = let p = c.in_ok-after-in-4.ensures in rw c.ack.ensures (law.ack_first c.args.code c.args.ws.now c.in-4.is p.1 p.0)

pub returns-in_ok-after-in-5 : goal.returns-in_ok-after-in-5
returns-in_ok-after-in-5 c = let p = c.in_ok-after-in-5.ensures in rw c.float-in-5.ensures (law.send_first c.args.code c.args.ws.now c.in-5.is p.1 p.0)

pub returns-in-6 : goal.returns-in-6
returns-in-6 c = law.tick_first c.args.code c.args.ws.now c.in-6.is

pub returns-in_ok-after-in-8 : goal.returns-in_ok-after-in-8
returns-in_ok-after-in-8 c = let p = c.in_ok-after-in-8.ensures in rw c.point.ensures (law.lookup_first c.args.code c.args.ws.now c.in-8.is p.1 p.0)

pub returns-in_ok-after-in-15 : goal.returns-in_ok-after-in-15
returns-in_ok-after-in-15 c = let p = c.in_ok-after-in-15.ensures in rw (c.settings_with.ensures, c.point-in-15.ensures, c.from.ensures) (law.change_first c.args.code c.args.ws.now c.in-15.is p.1 p.0)
