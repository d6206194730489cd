use Rattle.expressions.proofs.Expressed.{reads_back}
use Rattle.expressions.proofs.kept.Expression.write.Goals as goal

pub returns-then-out-self-clause-back : goal.returns-then-out-self-clause-back
returns-then-out-self-clause-back c = reads_back c.args.self.now

pub returns-clause-back : goal.returns-clause-back
returns-clause-back c = reads_back c.args.self.now
