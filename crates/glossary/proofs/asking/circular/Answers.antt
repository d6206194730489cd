use Rattle.glossary.proofs.Visits.{raised}
use Rattle.glossary.specs.Sees.{FinderSees, finder_raises}
use Rattle.glossary.proofs.asking.circular.Goals as goal

pub returns : goal.returns
returns c =
    let x = c.in_ok-visit.ensures in
    (x.0, x.1, raised FinderSees (λ s. s.found) finder_raises (λ s w t p. (p.asked, p.found)) _ _ c.in_ok-visit.field-0 x.2)
