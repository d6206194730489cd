use Rattle.glossary.proofs.Visits.{visited}
use Rattle.glossary.proofs.visiting.visit.Goals as goal

pub returns : goal.returns
returns g c =
    let x = c.in_ok-read.ensures in
    (x.0, x.1, visited g.V.Visitor.sees (λ b. b.visitor) x.0 _ c.in_ok-read.field-0 c.read.new.builder x.2)
