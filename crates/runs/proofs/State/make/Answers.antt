-- An event, and a lookup.
use Rattle.runs.proofs.Turning as law
use Rattle.runs.proofs.State.make.Goals as goal

pub returns-in-React : goal.returns-in-React
returns-in-React c = law.reacts c.args.self.now c.in-React.e c.in-React.is c.react-self.ensures

pub returns-in-Look : goal.returns-in-Look
returns-in-Look c = law.looks c.args.self.now c.in-Look.p c.in-Look.is c.action.ensures c.put_looked.ensures
