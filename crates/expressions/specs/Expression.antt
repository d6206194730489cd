-- The term that an expression stands for. Assumes nothing.
use Rattle.terms.specs.Term.{Spelled}
use Rattle.expressions.specs.Parts.{whole}
use Rattle.expressions.specs.declared.kept.Expression.{Expression}

abbrev pub term_of : Expression → Spelled
term_of x = whole x.parts
